-- What an inspection of a set finds.
use Rattle.std.proofs.Common.{◌≡◌, inl, inr, ℕ, ◌+◌, ◌<◌, ◌≤◌, Bool, true, false, List, [], ◌∷◌, Option, Some, None, refl, sym, ◌∙◌, ap, subst, arith, add-zero}
use Rattle.std.specs.Prelude.{IfSome, Ok, Err, slice_index_or}
use Rattle.std.proofs.lemmas.Bool.{cases_eq}
use Rattle.sector_model.specs.declared.refusal.Refusal.{Refusal}
use Rattle.sector_model.specs.declared.refusal.Refusal.TheVariants.{Worn}
use Rattle.sector_model.specs.declared.calls.TheConstants.{GREATEST_COUNT}
use Rattle.sector_model.specs.Bank.{IsLater}
use Rattle.sector_model.specs.History.{Bytes, seen}
use Rattle.sector_model.specs.Readable.{readable}
use Rattle.sector_model.specs.Reads.{HasRead}
use Rattle.sector_model.proofs.Panels.{later_both, later_same}
use Rattle.sector_model.proofs.Reading.{read_both, read_none, seen_read}
use Rattle.superblock.specs.declared.table.Table.{Table}
use Rattle.superblock.specs.Counted.{IsChosen, least_sectors}
use Rattle.superblock.specs.NextTables.{slots_of}
use Rattle.stripe_journal.specs.declared.seal.Seal.{Seal}
use Rattle.stripe_journal.specs.LastEntry.{IsLastSealed, number_of}
use Rattle.recovery.specs.declared.examination.Examined.{Examined}
use Rattle.recovery.specs.declared.examination.ExaminedSlot.{ExaminedSlot}
use Rattle.recovery.specs.declared.examination.Outlook.{Outlook}
use Rattle.recovery.specs.declared.examination.Outlook.TheVariants as outlook
use Rattle.recovery.specs.declared.examination.Standing.{Standing}
use Rattle.recovery.specs.declared.examination.Standing.TheVariants as standing
use Rattle.recovery.specs.declared.survey.Out.{Out}
use Rattle.recovery.specs.declared.survey.Out.TheVariants as out
use Rattle.recovery.specs.declared.survey.Survey.{Survey}
use Rattle.recovery.specs.Examining.{AreExaminedSlots, AreLastNumbers, Examines, HasExamined, IsAbsent, IsLastNumber, IsOutlook, IsStanding, ReadsLast}
use Rattle.recovery.specs.Making.{BankView}
use Rattle.recovery.specs.Surveying.{IsGone, IsNotFull, IsOutOf, IsThere, Surveys}
use Rattle.recovery.proofs.Finding.{OnFound, OnRefusal, no_found, no_refusal, same_found}

-- What is said under one premise is said under a stronger one.
module _ (honest still : Type 0) (goes_on : honest → still) (bank : BankView) (table : Table) where
  there_by : (slot : ℕ) → IsThere still bank table slot → IsThere honest bank table slot
  there_by slot is = record { up = is.up; long_enough = is.long_enough; live = λ fair. is.live (goes_on fair) }

  gone_by : (slot : ℕ) → IsGone still bank table slot → IsGone honest bank table slot
  gone_by slot is = record { of_set = is.of_set; counted = is.counted; dead = λ fair. is.dead (goes_on fair) }

  not_full_by : (slot : ℕ) → IsNotFull still bank table slot → IsNotFull honest bank table slot
  not_full_by slot is = record { of_set = is.of_set; out = λ fair. is.out (goes_on fair) }

  standing_by : (slot : ℕ) (what : Standing) → IsStanding still bank table slot what → IsStanding honest bank table slot what
  standing_by slot standing.Live (state, there) = (state, there_by slot there)
  standing_by slot (standing.Rebuilding position) (state, here, there) = (state, here, there_by slot there)
  standing_by slot standing.CalledMissing missing = missing
  standing_by slot standing.NotThere (gone, absent) = (gone_by slot gone, absent)
  standing_by slot standing.NoSuperblock (gone, there, is) = (gone_by slot gone, there, λ fair. is (goes_on fair))
  standing_by slot standing.OlderGeneration (gone, there, is) = (gone_by slot gone, there, λ fair. is (goes_on fair))
  standing_by slot standing.LowerIncarnation (gone, there, is) = (gone_by slot gone, there, λ fair. is (goes_on fair))
  standing_by slot standing.HigherIncarnation (gone, there, is) = (gone_by slot gone, there, λ fair. is (goes_on fair))

  pub slots_by : (slots : List ExaminedSlot) → AreExaminedSlots still bank table slots → AreExaminedSlots honest bank table slots
  slots_by slots are slot within = let is = are slot within in record {
    presence = is.presence;
    generation = λ fair. is.generation (goes_on fair);
    incarnation = λ fair. is.incarnation (goes_on fair);
    standing = standing_by slot _ is.standing;
  }

  out_by : (what : Out) → IsOutOf still bank table what → IsOutOf honest bank table what
  out_by out.Nobody is = λ slot within counted. there_by slot (is slot within counted)
  out_by (out.One slot) (gone, others) = (
    gone_by slot gone,
    λ other within apart. ((others other within apart).0, there_by other (others other within apart).1),
  )
  out_by (out.Two first second) (apart, one, two) = (apart, not_full_by first one, not_full_by second two)

  pub outlook_still : (what : Outlook) → IsOutlook still bank table what → IsOutlook honest bank table what
  outlook_still outlook.TwoLost (first, second, is) = (first, second, out_by (out.Two first second) is)
  outlook_still (outlook.WouldMark slot) is = out_by (out.One slot) is
  outlook_still outlook.Complete (by, is) = (by, out_by out.Nobody is)
  outlook_still (outlook.Missing slot) (by, is) = (by, out_by out.Nobody is)
  outlook_still (outlook.Rebuilding slot position) (by, is) = (by, out_by out.Nobody is)

  last_by : (journal : ℕ) (last : Option ℕ) → IsLastNumber still bank table journal last → IsLastNumber honest bank table journal last
  last_by journal None is = is
  last_by journal (Some number) is = λ fair. is (goes_on fair)

  pub lasts_by : (last : List (Option ℕ)) → AreLastNumbers still bank table last → AreLastNumbers honest bank table last
  lasts_by last are journal within = last_by (table.geometry.members + journal) _ (are journal within)

-- a device that is absent or too short stays so
absent_later : (old new : BankView) (table : Table) (slot : ℕ) → IsLater old.panel new.panel → IsAbsent old table slot → IsAbsent new table slot
absent_later old new table slot later (inl down) = inl (later.down slot down)
absent_later old new table slot later (inr short) = by_case (new.panel.down slot) refl
  where
    by_case : (b : Bool) → new.panel.down slot ≡ b → IsAbsent new table slot
    by_case true down = inl down
    by_case false up = inr (up, subst (λ (n : ℕ). n < least_sectors table.geometry slot) (sym (later.sectors slot)) short.1)

-- the last entry of a journal is so after further reads
last_later : (honest : Type 0) (old new : BankView) (table : Table) (journal : ℕ) (last : Option ℕ) → IsLater old.panel new.panel
    → (honest → HasRead old.history new.history) → IsLastNumber honest old table journal last → IsLastNumber honest new table journal last
last_later honest old new table journal None later reads is = absent_later old new table journal later is
last_later honest old new table journal (Some number) later reads is = λ fair.
    let it = is fair in
    (it.0, subst (λ (disk : List Bytes). IsLastSealed table.id table.geometry (Some disk) it.0) (sym (seen_read (reads fair) journal)) it.1, it.2)

-- a search that found this
reads_found : {A : Type 0} (honest : Type 0) (old new : BankView) (value : A) (IsSought : A → Type 0) → IsLater old.panel new.panel
    → (honest → HasRead old.history new.history) → IsSought value → ReadsLast honest old new (Ok value) IsSought
reads_found honest old new value IsSought later reads is = record {
  later = later;
  reads = reads;
  found = λ other same. subst (OnFound IsSought) same is;
  cause = λ refusal same. absurd (no_refusal value refusal same);
}

-- one that was refused
reads_refused : {A : Type 0} (honest : Type 0) (old new : BankView) (refusal : Refusal) (IsSought : A → Type 0) → IsLater old.panel new.panel
    → (honest → HasRead old.history new.history) → (refusal ≡ Worn) × (GREATEST_COUNT ≤ new.panel.calls) → ReadsLast honest old new (Err refusal) IsSought
reads_refused honest old new refusal IsSought later reads cause = record {
  later = later;
  reads = reads;
  found = λ value same. absurd (no_found value refusal same);
  cause = λ other same. subst (OnRefusal (λ r. (r ≡ Worn) × (GREATEST_COUNT ≤ new.panel.calls))) same cause;
}

-- of a journal that is absent or too short no seal is read
pub last_absent : (honest : Type 0) (bank : BankView) (table : Table) (journal : ℕ) → IsAbsent bank table journal
    → ReadsLast honest bank bank (Ok None) (IsLastNumber honest bank table journal)
last_absent honest bank table journal absent =
    reads_found honest bank bank None (IsLastNumber honest bank table journal) (later_same bank.panel) (λ fair. read_none bank.history) absent

-- the last seal was read
pub last_read : (honest : Type 0) (old new : BankView) (table : Table) (journal : ℕ) (last : Option Seal) (number : ℕ) → IsLater old.panel new.panel
    → (honest → HasRead old.history new.history) → (honest → IsLastSealed table.id table.geometry (Some (seen old.history journal)) last)
    → number ≡ number_of last
    → ReadsLast honest old new (Ok (Some number)) (IsLastNumber honest new table journal)
last_read honest old new table journal last number later reads is same =
    reads_found honest old new (Some number) (IsLastNumber honest new table journal) later reads
    (λ fair. (
      last,
      subst (λ (disk : List Bytes). IsLastSealed table.id table.geometry (Some disk) last) (sym (seen_read (reads fair) journal)) (is fair),
      same,
    ))

-- the journal went down
pub last_failed : (honest : Type 0) (old new : BankView) (table : Table) (journal : ℕ) → IsLater old.panel new.panel
    → (honest → HasRead old.history new.history) → new.panel.down journal ≡ true
    → ReadsLast honest old new (Ok None) (IsLastNumber honest new table journal)
last_failed honest old new table journal later reads down = reads_found honest old new None (IsLastNumber honest new table journal) later reads (inl down)

-- no further call could be counted
pub last_worn : (honest : Type 0) (old new : BankView) (table : Table) (journal : ℕ) → IsLater old.panel new.panel
    → (honest → HasRead old.history new.history) → GREATEST_COUNT ≤ new.panel.calls
    → ReadsLast honest old new (Err Worn) (IsLastNumber honest new table journal)
last_worn honest old new table journal later reads calls = reads_refused honest old new Worn (IsLastNumber honest new table journal) later reads (refl, calls)

-- the first search was refused, or the second one was
pub lasts_refused : (honest : Type 0) (old new : BankView) (table : Table) (journal : ℕ) (refusal : Refusal)
    → ReadsLast honest old new (Err refusal) (IsLastNumber honest new table journal)
    → ReadsLast honest old new (Err refusal) (AreLastNumbers honest new table)
lasts_refused honest old new table journal refusal is =
    reads_refused honest old new refusal (AreLastNumbers honest new table) is.later is.reads (is.cause refusal refl)

pub lasts_refused_then : (honest still : Type 0) (old mid new : BankView) (table : Table) (journal other : ℕ) (lower : Option ℕ) (refusal : Refusal)
    → (honest → still)
    → ReadsLast honest old mid (Ok lower) (IsLastNumber honest mid table journal) → ReadsLast still mid new (Err refusal) (IsLastNumber still new table other)
    → ReadsLast honest old new (Err refusal) (AreLastNumbers honest new table)
lasts_refused_then honest still old mid new table journal other lower refusal goes_on one two =
    reads_refused honest old new refusal (AreLastNumbers honest new table) (later_both old.panel mid.panel new.panel one.later two.later)
    (λ fair. read_both (one.reads fair) (two.reads (goes_on fair))) (two.cause refusal refl)

-- both were found
pub lasts_found : (honest still : Type 0) (old mid new : BankView) (table : Table) (lower upper : Option ℕ) → (honest → still)
    → ReadsLast honest old mid (Ok lower) (IsLastNumber honest mid table table.geometry.members)
    → ReadsLast still mid new (Ok upper) (IsLastNumber still new table (table.geometry.members + 1))
    → ReadsLast honest old new (Ok (lower ∷ upper ∷ [])) (AreLastNumbers honest new table)
lasts_found honest still old mid new table lower upper goes_on one two =
    reads_found honest old new (lower ∷ upper ∷ []) (AreLastNumbers honest new table) (later_both old.panel mid.panel new.panel one.later two.later)
    (λ fair. read_both (one.reads fair) (two.reads (goes_on fair)))
    (λ journal within. elim (cases_eq journal 0) [
      | inl is ↦ subst (λ (j : ℕ). IsLastNumber honest new table (table.geometry.members + j) (slice_index_or (lower ∷ upper ∷ []) j None)) (sym is)
          (subst (λ (j : ℕ). IsLastNumber honest new table j lower) (sym (add-zero table.geometry.members))
          (last_later honest mid new table table.geometry.members lower two.later (λ fair. two.reads (goes_on fair)) (one.found lower refl)))
      | inr apart ↦
          let is : journal ≡ 1 = omega (arith, within, apart) in
          subst (λ (j : ℕ). IsLastNumber honest new table (table.geometry.members + j) (slice_index_or (lower ∷ upper ∷ []) j None)) (sym is)
          (last_by honest still goes_on new table (table.geometry.members + 1) upper (two.found upper refl))
    ])

none_some : {A : Type 0} {x : A} → None ≡ Some x → ⊥
none_some is = cc

some_none : {A : Type 0} {x : A} → Some x ≡ None → ⊥
some_none is = cc

-- an inspection that was refused: at its superblocks, or at its seals
pub examined_refused : (honest : Type 0) (id : List ℕ) (old new : BankView) (refusal : Refusal) → Surveys honest id old new (Err refusal)
    → Examines honest id old new (Err refusal)
examined_refused honest id old new refusal is = record {
  later = is.later;
  reads = is.reads;
  found = λ examined same. absurd (no_found (Some examined) refusal same);
  none = λ fair same. absurd (no_found None refusal same);
  cause = λ other same. subst (OnRefusal (λ r. (r ≡ Worn) × (GREATEST_COUNT ≤ new.panel.calls))) same (is.cause refusal refl);
}

pub examined_refused_then : (honest still : Type 0) (id : List ℕ) (old mid new : BankView) (survey : Survey) (refusal : Refusal) → (honest → still)
    → Surveys honest id old mid (Ok (Some survey)) → ReadsLast still mid new (Err refusal) (AreLastNumbers still new survey.table)
    → Examines honest id old new (Err refusal)
examined_refused_then honest still id old mid new survey refusal goes_on is last = record {
  later = later_both old.panel mid.panel new.panel is.later last.later;
  reads = λ fair. read_both (is.reads fair) (last.reads (goes_on fair));
  found = λ examined same. absurd (no_found (Some examined) refusal same);
  none = λ fair same. absurd (no_found None refusal same);
  cause = λ other same. subst (OnRefusal (λ r. (r ≡ Worn) × (GREATEST_COUNT ≤ new.panel.calls))) same (last.cause refusal refl);
}

-- no superblock counts
pub examined_none : (honest : Type 0) (id : List ℕ) (old new : BankView) → Surveys honest id old new (Ok None) → Examines honest id old new (Ok None)
examined_none honest id old new is = record {
  later = is.later;
  reads = is.reads;
  found = λ examined same. absurd (none_some (same_found None (Some examined) same));
  none = λ fair same. is.none fair refl;
  cause = λ refusal same. absurd (no_refusal None refusal same);
}

-- what was found
pub examined_some : (honest still : Type 0) (id : List ℕ) (old mid new : BankView) (survey : Survey) (examined : Examined) → (honest → still)
    → Surveys honest id old mid (Ok (Some survey)) → examined.table ≡ survey.table → AreExaminedSlots still mid survey.table examined.slots
    → IsOutlook still mid survey.table examined.outlook → ReadsLast still mid new (Ok examined.last) (AreLastNumbers still new survey.table)
    → Examines honest id old new (Ok (Some examined))
examined_some honest still id old mid new survey examined goes_on is same slots expected last = record {
  later = later_both old.panel mid.panel new.panel is.later last.later;
  reads = λ fair. read_both (is.reads fair) (last.reads (goes_on fair));
  found = λ other other_is. subst (OnFound (λ (o : Option Examined). IfSome o (λ e. HasExamined honest id old new e))) other_is has;
  none = λ fair other_is. absurd (some_none (same_found (Some examined) None other_is));
  cause = λ refusal other_is. absurd (no_refusal (Some examined) refusal other_is);
}
  where
    has : HasExamined honest id old new examined
    has = record {
      read = mid;
      from = is.later;
      until = last.later;
      reads_from = is.reads;
      reads_until = λ fair. last.reads (goes_on fair);
      of_id = ap (λ (t : Table). t.id) same ∙ is.of_id survey refl;
      has_slots = subst (λ (t : Table). slots_of t ≤ mid.panel.devices) (sym same) (is.has_slots survey refl);
      chosen = λ fair. subst (λ (t : Table). IsChosen id mid.panel.devices (readable mid.history) t) (sym same) (is.told fair survey refl).chosen;
      slots = subst (λ (t : Table). AreExaminedSlots honest mid t examined.slots) (sym same)
          (slots_by honest still goes_on mid survey.table examined.slots slots);
      outlook = subst (λ (t : Table). IsOutlook honest mid t examined.outlook) (sym same)
          (outlook_still honest still goes_on mid survey.table examined.outlook expected);
      last = subst (λ (t : Table). AreLastNumbers honest new t examined.last) (sym same)
          (lasts_by honest still goes_on new survey.table examined.last (last.found examined.last refl));
    }
