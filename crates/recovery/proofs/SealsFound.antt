-- The last seals of both journals are read one after the other, and then the last entry is known and loaded.
use Rattle.std.proofs.Common.{◌≡◌, ◌≢◌, ℕ, ◌+◌, List, Option, Some, None, Result, Ok, ◌∙◌, ap, subst, arith}
use Rattle.std.specs.Prelude.{IfSome}
use Rattle.sector_model.specs.declared.refusal.Refusal.{Refusal}
use Rattle.sector_model.specs.History.{Bytes, History}
use Rattle.layout_map.specs.declared.geometry.Geometry.{Geometry}
use Rattle.superblock.specs.declared.table.Table.{Table}
use Rattle.superblock.specs.Tables.{state_at}
use Rattle.stripe_journal.specs.declared.entry.Entry.{Entry}
use Rattle.stripe_journal.specs.declared.seal.Seal.{Seal}
use Rattle.stripe_journal.specs.Entries.{body_of}
use Rattle.array_io.specs.Believed.Views.{ArrayView}
use Rattle.array_io.specs.Steps.Putting.{IsPut, MayWrite, PutsFrom}
use Rattle.array_io.specs.Steps.PuttingSteps.{Brings}
use Rattle.array_io.proofs.Images.Spellings.{Spellings}
use Rattle.recovery.specs.declared.latest.Latest.{Latest}
use Rattle.recovery.specs.Replaying.{BringsTo, IsFound, IsFoundOn, IsLatestBy, IsLatestOf, IsLatestOn, Known, KnowsSeals, also_known}
use Rattle.recovery.proofs.BringingTo.{brings_from, brings_on, brings_then}
use Rattle.recovery.proofs.LatestEntry.{none_to_put}
use Rattle.recovery.proofs.LatestFound.{found_still, seals_tell}

-- no last seal is known
abbrev pub unknown : Known
unknown k = None

-- to begin with none is
pub begins_unknown : (from : PutsFrom) (table : Table) (h : History) → MayWrite from table h → KnowsSeals unknown from table h
begins_unknown from table h writes = record { writes = writes; last = λ journal last is. absurd (cc) }

module _ (old mid later : ArrayView) (lower upper : Option Seal) (same_id : later.table.id ≡ mid.table.id) (geometry : mid.table.geometry ≡ old.table.geometry)
    (geometry' : later.table.geometry ≡ mid.table.geometry)
    (others : (other : ℕ) → other ≢ old.table.geometry.members + 1 → state_at later.table.states other ≡ state_at mid.table.states other)
    (found : IsFoundOn mid.table old.table.geometry.members lower) (found' : IsFoundOn later.table (old.table.geometry.members + 1) upper) where
  abbrev first : ℕ
  first = old.table.geometry.members

  abbrev one : Known
  one = also_known unknown first lower

  abbrev both : Known
  both = also_known one (first + 1) upper

  members_are : later.table.geometry.members ≡ first
  members_are = ap (λ (g : Geometry). g.members) (geometry' ∙ geometry)

  found_lower : IsFoundOn later.table first lower
  found_lower = found_still mid.table later.table first lower same_id geometry' (others first (λ same. absurd (omega (arith, same)))) found

  -- the last entry is one of the set
  pub found_of_set : (latest : Option Latest) → IsLatestBy first lower upper latest → IfSome latest (λ one. IsLatestOf later.table one)
  found_of_set latest by = (seals_tell later.table lower upper first members_are latest found_lower found' by).0

  module _ (honest still : Type 0) (more : honest → still) (steps : Brings honest (KnowsSeals unknown) (KnowsSeals one) old mid (Ok tt))
      (steps' : Brings still (KnowsSeals one) (KnowsSeals both) mid later (Ok tt)) where
    both_known : Brings honest MayWrite (KnowsSeals both) old later (Ok tt)
    both_known = brings_from {A = Unit {0}} honest (KnowsSeals unknown) MayWrite (λ done. KnowsSeals both) old later (Ok tt)
        (λ from writes. begins_unknown from old.table old.history writes)
        (brings_then honest still more (KnowsSeals unknown) (KnowsSeals one) (λ (done : Unit {0}). KnowsSeals both) old mid later (Ok tt) steps steps')

    -- none is found, and nothing is left to be put
    pub none_found : Spellings → IsLatestBy first lower upper None → (body : List Bytes) → BringsTo honest MayWrite (IsFound body) old later (Ok None)
    none_found spellings by body = brings_on honest MayWrite (KnowsSeals both) (IsPut 0) old later
        (λ from knows. none_to_put spellings from later.table later.history
        ((seals_tell later.table lower upper first members_are None found_lower found' by).1 from later.history knows)) both_known

    -- one is, and then it is loaded
    pub then_loaded : (latest : Latest) → IsLatestBy first lower upper (Some latest) → (held : Type 0) → (honest → held)
        → (new : ArrayView) (entry : Entry) (result : Result (Option Latest) Refusal)
        → BringsTo held (IsLatestOn latest) (IsFound (body_of later.table.geometry.members entry)) later new result
        → BringsTo honest MayWrite (IsFound (body_of first entry)) old new result
    then_loaded latest by held holds new entry result loads =
        brings_then honest held holds MayWrite (IsLatestOn latest) (IsFound (body_of first entry)) old later new result
        (brings_on honest MayWrite (KnowsSeals both) (IsLatestOn latest) old later
        (λ from knows. (seals_tell later.table lower upper first members_are (Some latest) found_lower found' by).1 from later.history knows) both_known)
        (subst (λ (n : ℕ). BringsTo held (IsLatestOn latest) (IsFound (body_of n entry)) later new result) members_are loads)
