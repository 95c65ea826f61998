-- A superblock is known by its fields.
use Rattle.std.proofs.Common.{◌≡◌, ◌≢◌, ℕ, ◌+◌, ◌<◌, List, length, ap}
use Rattle.std.proofs.Props.{props}
use mathlib.Core.HLevel.{is_prop→PathP}
use mathlib.Core.Sum.{⊎_set}
use Rattle.layout_map.specs.declared.format.Format.{Format}
use Rattle.layout_map.specs.declared.geometry.Geometry.{Geometry}
use Rattle.layout_map.specs.Placement.{IsGeometry}
use Rattle.superblock.specs.declared.fields.Fields.{Fields}
use Rattle.superblock.specs.declared.state.State.{State}
use Rattle.superblock.specs.declared.state.State.TheVariants.{Missing}
use Rattle.superblock.specs.declared.table.Table.{Table}
use Rattle.superblock.specs.declared.table.Superblock.{Superblock}
use Rattle.superblock.specs.Reading.{fields_of}
use Rattle.superblock.specs.Tables.{IsTable, state_at}

State-set : IsSet State
State-set = hlevel (props, ⊎_set)

IsGeometry-prop : (format : Format) (members chunk stripes : ℕ) → IsProp (IsGeometry format members chunk stripes)
IsGeometry-prop format members chunk stripes = hlevel props

IsTable-prop : (generation : ℕ) (geometry : Geometry) (states : List State) (incarnations : List ℕ) (position : ℕ)
    → IsProp (IsTable generation geometry states incarnations position)
IsTable-prop generation geometry states incarnations position = hlevel (props, State-set)

pub same_geometry : (a b : Geometry) → a.format ≡ b.format → a.members ≡ b.members → a.chunk ≡ b.chunk → a.stripes ≡ b.stripes → a ≡ b
same_geometry a b format members chunk stripes = λ i. record {
  format = format i;
  members = members i;
  chunk = chunk i;
  stripes = stripes i;
  limits = is_prop→PathP (λ j. IsGeometry (format j) (members j) (chunk j) (stripes j))
      (λ j. IsGeometry-prop (format j) (members j) (chunk j) (stripes j)) a.limits b.limits i;
}

same_table : (a b : Table) → a.id ≡ b.id → a.generation ≡ b.generation → a.geometry ≡ b.geometry → a.states ≡ b.states → a.incarnations ≡ b.incarnations
    → a.position ≡ b.position → a ≡ b
same_table a b id generation geometry states incarnations position = λ i. record {
  id = id i;
  generation = generation i;
  geometry = geometry i;
  states = states i;
  incarnations = incarnations i;
  position = position i;
  id_long = is_prop→PathP (λ j. length (id j) ≡ 16) (λ j. hlevel props) a.id_long b.id_long i;
  allowed = is_prop→PathP (λ j. IsTable (generation j) (geometry j) (states j) (incarnations j) (position j))
      (λ j. IsTable-prop (generation j) (geometry j) (states j) (incarnations j) (position j)) a.allowed b.allowed i;
}

same_in_table : (a b : Superblock) → a.table ≡ b.table → a.role ≡ b.role → a ≡ b
same_in_table a b table role = λ i. record {
  table = table i;
  role = role i;
  of_set = is_prop→PathP (λ j. role j < (table j).geometry.members + 2) (λ j. hlevel props) a.of_set b.of_set i;
  there = is_prop→PathP (λ j. state_at (table j).states (role j) ≢ Missing) (λ j. hlevel props) a.there b.there i;
}

-- two superblocks with the same fields are one
pub same_superblock : (a b : Superblock) → fields_of a ≡ fields_of b → a ≡ b
same_superblock a b same =
    same_in_table a b
    (same_table a.table b.table (ap (λ (f : Fields). f.id) same) (ap (λ (f : Fields). f.generation) same)
    (same_geometry a.table.geometry b.table.geometry (ap (λ (f : Fields). f.format) same)
    (ap (λ (f : Fields). f.members) same) (ap (λ (f : Fields). f.chunk) same) (ap (λ (f : Fields). f.stripes) same))
    (ap (λ (f : Fields). f.states) same) (ap (λ (f : Fields). f.incarnations) same) (ap (λ (f : Fields). f.position) same))
    (ap (λ (f : Fields). f.role) same)
