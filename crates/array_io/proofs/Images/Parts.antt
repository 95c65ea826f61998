-- What an image has to be, in parts that are proved one by one.
use Rattle.std.proofs.Common.{◌≡◌, ◌≢◌, inl, inr, ℕ, ◌+◌, ◌<◌, List, sym, ◌∙◌}
use Rattle.std.proofs.lemmas.Bool.{cases_eq}
use Rattle.sector_model.specs.History.{Bytes, Slots}
use Rattle.superblock.specs.declared.table.Table.{Table}
use Rattle.superblock.specs.Counted.{IsChosen, IsInFull}
use Rattle.array_io.specs.Believed.Holds.{HoldsIn, IsLiveJournal}
use Rattle.array_io.specs.Laws.Core.{AreJournalsInStep, HasRows, IsKnown}

-- the parts
pub record HasParts (devices : ℕ) (table : Table) (X : List (List Bytes)) (image : Slots) : Type 0 where
  pub chosen : IsChosen table.id devices image table
  pub known : (slot : ℕ) → IsKnown devices table slot (image slot)
  pub rows : HasRows devices table X (IsLiveJournal devices table image) image
  pub in_step : AreJournalsInStep devices table image
  -- the slot that may be out
  pub out : ℕ
  pub in_full : (slot : ℕ) → slot < table.geometry.members + 2 → slot ≢ out → IsInFull devices table slot (image slot)

only_out : (devices : ℕ) (table : Table) (image : Slots) (out slot : ℕ)
    → ((slot : ℕ) → slot < table.geometry.members + 2 → slot ≢ out → IsInFull devices table slot (image slot))
    → slot < table.geometry.members + 2 → ¬ IsInFull devices table slot (image slot) → slot ≡ out
only_out devices table image out slot full in_set not_full = elim (cases_eq slot out) [
  | inl is ↦ is
  | inr differs ↦ absurd (not_full (full slot in_set differs))
]

-- the parts are enough
pub holds_by_parts : (devices : ℕ) (table : Table) (X : List (List Bytes)) (image : Slots) → HasParts devices table X image → HoldsIn devices table X image
holds_by_parts devices table X image parts = record {
  chosen = parts.chosen;
  one_out = λ first second in_set in_set' out out'.
      only_out devices table image parts.out first parts.in_full in_set out ∙ sym (only_out devices table image parts.out second parts.in_full in_set' out');
  none_higher = λ slot. (parts.known slot).no_higher;
  one_content = λ slot. (parts.known slot).as_new;
  sound = parts.rows.sound;
  listed = parts.rows.listed;
  in_step = parts.in_step;
}
