-- Sectors that are read into the rows of an entry.
use Rattle.std.proofs.Common.{◌≡◌, ◌≢◌, inl, inr, ℕ, ◌+◌, ◌<◌, Bool, true, false, cond, List, refl, sym, ◌∙◌, ap, arith}
use Rattle.std.proofs.Common.{length}
use Rattle.std.specs.Prelude.{◌||◌, Ok, Err}
use Rattle.std.proofs.lemmas.Bool.{cases_eq, false≢true, ne_eqb}
use Rattle.sector_model.specs.declared.sector.Stop.{Stop}
use Rattle.sector_model.specs.declared.sector.Stop.TheVariants.{Down, Worn}
use Rattle.sector_model.specs.declared.event.Event.TheVariants.{DeviceFailed, Quiet}
use Rattle.sector_model.specs.Bank.{after_read, after_try, fault_at}
use Rattle.sector_model.specs.History.{After, History, Bytes, is_down, seen, sector_of}
use Rattle.sector_model.specs.Reads.{HasRead}
use Rattle.sector_model.proofs.Reading.{seen_read}
use Rattle.layout_map.specs.declared.sizes.TheConstants.{MOST_MEMBERS}
use Rattle.stripe_journal.specs.declared.entry.Entry.{Entry}
use Rattle.stripe_journal.specs.Entries.{numbers_of, row_mask, sector_at, with_sector}
use Rattle.stripe_journal.specs.Forms.{count_held, has_bit}
use Rattle.stripe_journal.proofs.Entries.{sector_there, sector_elsewhere}

-- what a read gives after others is what it would have given before them
pub read_before : {old mid : History} (device at place : ℕ) (value : Bytes) → HasRead old mid → at ≡ place → value ≡ sector_of (seen mid device) at
    → value ≡ sector_of (seen old device) place
read_before {old = old} device at place value read same is = is ∙ ap (λ (disk : List Bytes). sector_of disk at) (seen_read read device)
    ∙ ap (sector_of (seen old device)) same

-- one more sector of a row
pub loaded_more : (entry : Entry) (i at member : ℕ) (held : ℕ → Bool) (value : Bytes) (disk : List Bytes) → i < length (numbers_of entry)
    → member < MOST_MEMBERS
    → has_bit (row_mask entry i) member ≡ true → value ≡ sector_of disk (at + count_held held member)
    → ((k : ℕ) → k < member → held k ≡ true → sector_at entry i k ≡ sector_of disk (at + count_held held k))
    → (k : ℕ) → k < member + 1 → held k ≡ true → sector_at (with_sector entry i member value) i k ≡ sector_of disk (at + count_held held k)
loaded_more entry i at member held value disk below within here is before k most on = elim (cases_eq k member) [
  | inl same ↦
      ap (λ (n : ℕ). sector_at (with_sector entry i member value) i n) same ∙ sector_there entry i member value below within here ∙ is
      ∙ ap (λ (n : ℕ). sector_of disk (at + count_held held n)) (sym same)
  | inr other ↦ sector_elsewhere entry i member i k value within (omega arith) here (λ row. other) ∙ before k (omega arith) on
]

-- a member that is not held adds none
pub loaded_over : (entry : Entry) (i at member : ℕ) (held : ℕ → Bool) (disk : List Bytes) → held member ≡ false
    → ((k : ℕ) → k < member → held k ≡ true → sector_at entry i k ≡ sector_of disk (at + count_held held k))
    → (k : ℕ) → k < member + 1 → held k ≡ true → sector_at entry i k ≡ sector_of disk (at + count_held held k)
loaded_over entry i at member held disk lacking before k most on = elim (cases_eq k member) [
  | inl same ↦ absurd (false≢true (sym lacking ∙ ap held (sym same) ∙ on))
  | inr other ↦ before k (omega arith) on
]

-- an answered read leaves each device up or down as it was
pub none_of_read : {old new : History} (dev other : ℕ) (done : Unit {0}) → new ≡ after_try (after_read dev) (Ok done) old
    → is_down new other ≡ is_down old other
none_of_read dev other done is = ap (λ (h : History). is_down h other) is

-- and one that isn't answered leaves each other device so
pub others_of_read : (old new : History) (dev other : ℕ) (stop : Stop) → other ≢ dev → new ≡ after_try (after_read dev) (Err stop) old
    → is_down new other ≡ is_down old other
others_of_read old new dev other Worn apart is = ap (λ (h : History). is_down h other) is
others_of_read old new dev other (Down d) apart is = ap (λ (h : History). is_down h other) is ∙ by_state (is_down old dev) refl
  where
    by_state : (b : Bool) → is_down old dev ≡ b → is_down (After (fault_at dev (DeviceFailed dev) old) old) other ≡ is_down old other
    by_state true down = ap (λ (b : Bool). is_down (After (cond b Quiet (DeviceFailed dev)) old) other) down
    by_state false up = ap (λ (b : Bool). is_down (After (cond b Quiet (DeviceFailed dev)) old) other) up
        ∙ ap (λ (b : Bool). b || is_down old other) (ne_eqb other dev apart)
