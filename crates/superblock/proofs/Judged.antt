-- Fields that a superblock has are allowed.
use denote.Enum.Bare.{sameb}
use Rattle.std.proofs.Common.{◌≡◌, ◌≢◌, ◌↔◌, ℕ, ◌+◌, ◌≤◌, List, length, None, Some, Result, Ok, Err, true, refl, ◌∙◌, sym, ap, subst, arith}
use Rattle.std.proofs.lemmas.Bool.{false≢true}
use Rattle.std.specs.Prelude.{IfOk, IsOk}
use Rattle.std.specs.Result.{result_ok}
use Rattle.sector_model.specs.declared.calls.TheConstants.{GREATEST_COUNT}
use Rattle.layout_map.specs.declared.sizes.TheConstants.{MOST_MEMBERS}
use Rattle.layout_map.specs.declared.geometry.Geometry.{Geometry}
use Rattle.layout_map.specs.Placement.{IsGeometry}
use Rattle.superblock.specs.declared.fields.Fields.{Fields}
use Rattle.superblock.specs.declared.table.Superblock.{Superblock}
use Rattle.superblock.specs.Reading.{fields_of}
use Rattle.superblock.specs.contracts.state.State.{the_type}
use Rattle.superblock.specs.declared.state.State.{State}
use Rattle.superblock.specs.declared.state.State.TheVariants.{Missing, InSync, Rebuilding}
use Rattle.superblock.specs.Rules.{AreMissingBeyond, AreNumbered, AreOutOnce, IsPositionOf}
use Rattle.superblock.specs.Tables.{IsTable, state_at}
use Rattle.superblock.proofs.Same.{same_geometry, same_superblock}
use Rattle.superblock.proofs.Spelled.{fields_same}

-- the geometry is of the fields' format, with the fields' numbers
pub record IsOfFields (fields : Fields) (geometry : Geometry) : Type 0 where
  pub format : geometry.format ≡ fields.format
  pub members : geometry.members ≡ fields.members
  pub chunk : geometry.chunk ≡ fields.chunk
  pub stripes : geometry.stripes ≡ fields.stripes

pub allowed_fields : (fields : Fields) (geometry : Geometry) (s : Superblock) → IsOfFields fields geometry → fields ≡ fields_of s
    → IsTable fields.generation geometry fields.states fields.incarnations fields.position
allowed_fields fields geometry s of_fields same =
    let geometry_is : geometry ≡ s.table.geometry =
    same_geometry geometry s.table.geometry (of_fields.format ∙ ap (λ (f : Fields). f.format) same)
    (of_fields.members ∙ ap (λ (f : Fields). f.members) same) (of_fields.chunk ∙ ap (λ (f : Fields). f.chunk) same)
    (of_fields.stripes ∙ ap (λ (f : Fields). f.stripes) same) in
    subst (λ (f : Fields). IsTable f.generation geometry f.states f.incarnations f.position) (sym same)
    (subst (λ (g : Geometry). IsTable s.table.generation g s.table.states s.table.incarnations s.table.position) (sym geometry_is) s.table.allowed)

pub ten_slots : {members : ℕ} → members ≤ MOST_MEMBERS → members + 2 ≤ 10
ten_slots most = omega arith

-- the rules of a table, one after another
pub table_iff : (Position : Type 0) (generation : ℕ) (geometry : Geometry) (states : List State) (incarnations : List ℕ) (position : ℕ)
    → length states ≡ 10 → length incarnations ≡ 10
    → 1 ≤ generation → generation ≤ GREATEST_COUNT → AreNumbered (geometry.members + 2) incarnations → AreMissingBeyond (geometry.members + 2) states
    → AreOutOnce (geometry.members + 2) states → Position ↔ IsPositionOf geometry states position → Position
    ↔ IsTable generation geometry states incarnations position
table_iff Position generation geometry states incarnations position ten_states ten_incarnations least most numbered missing out is_position = (
  (λ is. let found = is_position.0 is in record {
    ten_states = ten_states;
    ten_incarnations = ten_incarnations;
    generation_least = least;
    generation_most = most;
    incarnation_least = numbered.least;
    incarnation_most = numbered.most;
    missing_beyond = missing.beyond;
    zero_beyond = numbered.beyond;
    one_out = out.once;
    rebuilds_member = found.of_member;
    position_below = found.below;
    no_position = found.none;
  }),
  (λ table. is_position.1 (record { of_member = table.rebuilds_member; below = table.position_below; none = table.no_position })),
)

pub table_numbered : {generation : ℕ} {geometry : Geometry} {states : List State} {incarnations : List ℕ} {position : ℕ}
    → IsTable generation geometry states incarnations position
    → AreNumbered (geometry.members + 2) incarnations
table_numbered table = record { least = table.incarnation_least; most = table.incarnation_most; beyond = table.zero_beyond }

pub table_missing : {generation : ℕ} {geometry : Geometry} {states : List State} {incarnations : List ℕ} {position : ℕ}
    → IsTable generation geometry states incarnations position
    → AreMissingBeyond (geometry.members + 2) states
table_missing table = record { beyond = table.missing_beyond }

pub table_out : {generation : ℕ} {geometry : Geometry} {states : List State} {incarnations : List ℕ} {position : ℕ}
    → IsTable generation geometry states incarnations position
    → AreOutOnce (geometry.members + 2) states
table_out table = record { once = table.one_out }

pub geometry_of_fields : {E : Type 0} (fields : Fields) (geometry : Geometry) (made : Result Geometry E) → Some geometry ≡ result_ok made
    → IfOk made (λ g. g.format ≡ fields.format) → IfOk made (λ g. g.members ≡ fields.members) → IfOk made (λ g. g.chunk ≡ fields.chunk)
    → IfOk made (λ g. g.stripes ≡ fields.stripes)
    → IsOfFields fields geometry
geometry_of_fields fields geometry (Ok g) same format members chunk stripes =
    let is_made : geometry ≡ g = cc in
    record {
      format = ap (λ (x : Geometry). x.format) is_made ∙ format;
      members = ap (λ (x : Geometry). x.members) is_made ∙ members;
      chunk = ap (λ (x : Geometry). x.chunk) is_made ∙ chunk;
      stripes = ap (λ (x : Geometry). x.stripes) is_made ∙ stripes;
    }
geometry_of_fields fields geometry (Err e) same format members chunk stripes = absurd cc

-- a superblock with these fields is that superblock
pub fields_are : (fields : Fields) (s t : Superblock) → IsOfFields fields t.table.geometry → fields ≡ fields_of s → t.table.id ≡ fields.id
    → t.table.generation ≡ fields.generation
    → t.role ≡ fields.role → t.table.states ≡ fields.states → t.table.incarnations ≡ fields.incarnations → t.table.position ≡ fields.position → t ≡ s
fields_are fields s t of_fields same id generation role states incarnations position =
    same_superblock t s (fields_same (fields_of t) fields of_fields.format id generation of_fields.members role of_fields.chunk of_fields.stripes states
    incarnations position
    ∙ same)

-- where there is no geometry, no superblock has these fields
pub fields_limits : (fields : Fields) (s : Superblock) → fields ≡ fields_of s → IsGeometry fields.format fields.members fields.chunk fields.stripes
fields_limits fields s same = subst (λ (f : Fields). IsGeometry f.format f.members f.chunk f.stripes) (sym same) s.table.geometry.limits

pub no_geometry : {E : Type 0} (made : Result Geometry E) → None ≡ result_ok made → IsOk made → ⊥
no_geometry (Ok g) none is = absurd cc
no_geometry (Err e) none is = absurd (false≢true is)

-- the role is that of a slot that the states don't call missing
pub role_within : (fields : Fields) (geometry : Geometry) (s : Superblock) → IsOfFields fields geometry → fields ≡ fields_of s
    → geometry.members + 2 ≤ fields.role → ⊥
role_within fields geometry s of_fields same past =
    let members : geometry.members ≡ s.table.geometry.members = of_fields.members ∙ ap (λ (f : Fields). f.members) same in
    omega (arith, ap (λ (f : Fields). f.role) same, s.of_set)

pub role_there : (fields : Fields) (s : Superblock) → fields ≡ fields_of s → state_at fields.states fields.role ≢ Missing
role_there fields s same = subst (λ (f : Fields). state_at f.states f.role ≢ Missing) (sym same) s.there

-- a state, as the code asks for it
pub missing_is : (state : State) → sameb the_type state Missing ≡ true → state ≡ Missing
missing_is Missing is = refl
missing_is InSync is = absurd cc
missing_is Rebuilding is = absurd cc

pub rebuilding_is : (state : State) → sameb the_type state Rebuilding ≡ true → state ≡ Rebuilding
rebuilding_is Missing is = absurd cc
rebuilding_is InSync is = absurd cc
rebuilding_is Rebuilding is = refl
