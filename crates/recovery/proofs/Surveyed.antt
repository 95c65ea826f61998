-- What a survey finds, slot by slot.
use Rattle.std.proofs.Common.{◌≡◌, ◌≢◌, inl, inr, ℕ, ◌+◌, ◌<◌, ◌≤◌, Bool, true, false, List, length, Option, Some, None, refl, sym, ◌∙◌, ap, subst, arith, cond}
use Rattle.std.specs.Prelude.{IfSome, Result, Ok, Err, slice_index_or, slice_set}
use Rattle.std.proofs.lemmas.Bool.{cases_eq}
use Rattle.std.proofs.lemmas.List.{get_or-set_same, get_or-set_other, length-set}
use Rattle.sector_model.specs.declared.refusal.Refusal.{Refusal}
use Rattle.sector_model.specs.Bank.{IsLater}
use Rattle.sector_model.specs.History.{Bytes, History, Slots, is_down, seen}
use Rattle.sector_model.specs.Readable.{readable}
use Rattle.sector_model.specs.Reads.{HasRead}
use Rattle.sector_model.proofs.Panels.{later_both, later_same}
use Rattle.sector_model.proofs.Reading.{read_both, read_none, seen_read}
use Rattle.superblock.specs.declared.table.Superblock.{Superblock}
use Rattle.superblock.specs.declared.table.Table.{Table}
use Rattle.superblock.specs.Counted.{Content, Counts, IsChosen}
use Rattle.superblock.specs.Newest.{ImageCountsNone, IsOfSet, newer_of}
use Rattle.superblock.specs.NextTables.{slots_of}
use Rattle.superblock.proofs.Newest.{IsBestTo, chosen_at_end, none_at_end, own_of_newest}
use Rattle.recovery.specs.declared.survey.Survey.{Survey}
use Rattle.recovery.specs.Finding.{Finds, NewestFound, OthersStay}
use Rattle.array_io.specs.Believed.ReadWhole.{NoDeviceFailed}
use Rattle.recovery.specs.Making.{BankView, FindsTable, IsCarried}
use Rattle.recovery.specs.Surveying.{FindsLeft, IsOwn, IsOwnGeneration, IsSurveyOf, Surveys, Tells, generation_by, own_by}
use Rattle.recovery.proofs.Finding.{Honest, OnFound, OnRefusal, no_found, no_refusal, none_down, same_found, same_readable, slots_step, still_carried}

-- reads of another device give what they gave
others_readable : (old new : History) (slot d : ℕ) → HasRead old new → OthersStay slot old new → d ≢ slot → readable new d ≡ readable old d
others_readable old new slot d read others apart =
    ap (λ (b : Bool). cond b None (Some (seen new d))) (others d apart) ∙ ap (λ (disk : List Bytes). cond (is_down old d) None (Some disk)) (seen_read read d)

-- where the slot's device is up after reads of it, no device failed
none_failed : (old new : BankView) (slot : ℕ) → Honest old → Honest new → OthersStay slot old.history new.history → new.panel.down slot ≡ false
    → NoDeviceFailed old.panel new.panel
none_failed old new slot is_old is_new others up d within was = elim (cases_eq d slot) [
  | inl same ↦ subst (λ (k : ℕ). new.panel.down k ≡ false) (sym same) up
  | inr apart ↦ is_new.down d ∙ others d apart ∙ sym (is_old.down d) ∙ was
]

none_some : {A : Type 0} {x : A} → None ≡ Some x → ⊥
none_some is = cc

some_none : {A : Type 0} {x : A} → Some x ≡ None → ⊥
some_none is = cc

-- the slot's device is up: what was found counts now
pub left_up : (honest : Type 0) (id : List ℕ) (devices slot : ℕ) (old new : BankView) (found : Option Superblock)
    → (honest → Honest old) → (honest → Honest new) → Finds honest id devices (NewestFound id devices slot) old new (Ok found)
    → (honest → OthersStay slot old.history new.history) → new.panel.down slot ≡ false → FindsLeft honest id devices slot old new (Ok found)
left_up honest id devices slot old new found is_old is_new is others up = record {
  later = is.later;
  fits = is.fits;
  reads = is.reads;
  others = others;
  left = λ fair other same.
      let none = none_failed old new slot (is_old fair) (is_new fair) (others fair) up in
      subst (λ (o : Option Superblock). NewestFound id devices slot (readable new.history) o) (same_found found other same)
      (subst (λ (image : Slots). NewestFound id devices slot image found)
      (sym (same_readable old new (is_old fair) (is_new fair) is.later (is.reads fair) none)) (is.sought fair none found refl));
  cause = is.cause;
}

-- it is down: nothing counts
pub left_down : (honest : Type 0) (id : List ℕ) (devices slot : ℕ) (IsSought : Slots → Option Superblock → Type 0) (old new : BankView)
    (found : Option Superblock)
    → (honest → Honest new) → Finds honest id devices IsSought old new (Ok found)
    → (honest → OthersStay slot old.history new.history) → new.panel.down slot ≡ true → FindsLeft honest id devices slot old new (Ok None)
left_down honest id devices slot IsSought old new found is_new is others down = record {
  later = is.later;
  fits = λ superblock same. absurd (none_some (same_found None (Some superblock) same));
  reads = is.reads;
  others = others;
  left = λ fair other same. subst (λ (o : Option Superblock). NewestFound id devices slot (readable new.history) o) (same_found None other same)
      (λ place. none_down id devices slot place new.history (sym ((is_new fair).down slot) ∙ down));
  cause = λ refusal same. absurd (no_refusal None refusal same);
}

-- the search was refused
pub left_err : (honest : Type 0) (id : List ℕ) (devices slot : ℕ) (IsSought : Slots → Option Superblock → Type 0) (old new : BankView) (refusal : Refusal)
    → Finds honest id devices IsSought old new (Err refusal) → (honest → OthersStay slot old.history new.history)
    → FindsLeft honest id devices slot old new (Err refusal)
left_err honest id devices slot IsSought old new refusal is others = record {
  later = is.later;
  fits = λ superblock same. absurd (no_found (Some superblock) refusal same);
  reads = is.reads;
  others = others;
  left = λ fair other same. absurd (no_found other refusal same);
  cause = is.cause;
}

-- a search of as many devices
pub left_over : (honest : Type 0) (id : List ℕ) (slot : ℕ) (old new : BankView) (answer : Result (Option Superblock) Refusal)
    (n devices : ℕ) → n ≡ devices → FindsLeft honest id n slot old new answer → FindsLeft honest id devices slot old new answer
left_over honest id slot old new answer n devices same is = subst (λ (d : ℕ). FindsLeft honest id d slot old new answer) same is

-- Of the first so many slots, by what reads give now: the best superblock, and the own incarnations and generations.
pub record SurveyedTo (honest : Type 0) (id : List ℕ) (devices n : ℕ) (old now : BankView) (best : Option Superblock) (own generations : List ℕ) : Type 0 where
  pub ten : length own ≡ 10
  pub later : IsLater old.panel now.panel
  pub reads : honest → HasRead old.history now.history
  pub fits : IfSome best (λ s. IsOfSet id devices s)
  pub best_to : honest → IsBestTo id devices (readable now.history) n best
  pub owns : honest → (k : ℕ) → k < n → IsOwn id devices k (readable now.history k) (slice_index_or own k 0)
  pub ten_generations : length generations ≡ 10
  pub has_generations : honest → (k : ℕ) → k < n → IsOwnGeneration id devices k (readable now.history k) (slice_index_or generations k 0)

-- of none
pub surveyed_begun : (honest : Type 0) (id : List ℕ) (devices : ℕ) (bank : BankView) (own generations : List ℕ)
    → length own ≡ 10 → length generations ≡ 10 → SurveyedTo honest id devices 0 bank bank None own generations
surveyed_begun honest id devices bank own generations ten ten_generations = record {
  ten = ten;
  later = later_same bank.panel;
  reads = λ fair. read_none bank.history;
  fits = tt;
  best_to = λ fair slot place s within counts. absurd (omega (arith, within));
  owns = λ fair k within. absurd (omega (arith, within));
  ten_generations = ten_generations;
  has_generations = λ fair k within. absurd (omega (arith, within));
}

-- the best of the first slots is so by an image that is the same there
best_same : (id : List ℕ) (devices n : ℕ) (old new : Slots) (best : Option Superblock) → ((k : ℕ) → k < n → new k ≡ old k)
    → IsBestTo id devices old n best → IsBestTo id devices new n best
best_same id devices n old new None same none = λ slot place s within counts.
    none slot place s within (subst (λ (c : Content). Counts id devices slot c place s) (same slot within) counts)
best_same id devices n old new (Some best) same is = record {
  slot = is.slot;
  place = is.place;
  within = is.within;
  counted = subst (λ (c : Content). Counts id devices is.slot c is.place best) (sym (same is.slot is.within)) is.counted;
  greatest = λ other at s within counts.
      is.greatest other at s within (subst (λ (c : Content). Counts id devices other c at s) (same other within) counts);
  first = λ other at s below counts.
      is.first other at s below (subst (λ (c : Content). Counts id devices other c at s) (same other (omega (arith, below, is.within))) counts);
}

-- the newer of two is of the set
newer_fits : (id : List ℕ) (devices : ℕ) (first second : Option Superblock) → IfSome first (λ s. IsOfSet id devices s)
    → IfSome second (λ s. IsOfSet id devices s) → IfSome (newer_of first second) (λ s. IsOfSet id devices s)
newer_fits id devices None second one two = two
newer_fits id devices (Some a) None one two = one
newer_fits id devices (Some a) (Some b) one two = by_case _
  where
    by_case : (t : Bool) → IfSome (cond t (Some b) (Some a)) (λ s. IsOfSet id devices s)
    by_case true = two
    by_case false = one

found_fits : (id : List ℕ) (devices : ℕ) (found : Option Superblock)
    → ((superblock : Superblock) → ◌≡◌ {A = Result (Option Superblock) Refusal} (Ok found) (Ok (Some superblock)) → IsOfSet id devices superblock)
    → IfSome found (λ s. IsOfSet id devices s)
found_fits id devices None fits = tt
found_fits id devices (Some superblock) fits = fits superblock refl

-- the newest says the own incarnation
own_found : (id : List ℕ) (devices slot : ℕ) (image : Slots) (found : Option Superblock) → NewestFound id devices slot image found
    → IsOwn id devices slot (image slot) (own_by found slot)
own_found id devices slot image None none = inr (none, refl)
own_found id devices slot image (Some newest) is = inl (own_of_newest id devices slot (image slot) newest is)

-- the newest says the own generation
generation_found : (id : List ℕ) (devices slot : ℕ) (image : Slots) (found : Option Superblock) → NewestFound id devices slot image found
    → IsOwnGeneration id devices slot (image slot) (generation_by found)
generation_found id devices slot image None none = inr (none, refl)
generation_found id devices slot image (Some newest) is = inl record { newest = newest; is_newest = is; own = refl }

-- what is said of the content and number of each slot below is said of one slot more, where those below have what they had
one_slot_more : (P : ℕ → Content → ℕ → Type 0) (before after : Slots) (numbers : List ℕ) (n value : ℕ) → n < length numbers
    → ((k : ℕ) → k < n → after k ≡ before k) → ((k : ℕ) → k < n → P k (before k) (slice_index_or numbers k 0)) → P n (after n) value
    → (k : ℕ) → k < n + 1 → P k (after k) (slice_index_or (slice_set numbers n value) k 0)
one_slot_more P before after numbers n value long same below here k within = elim (cases_eq k n) [
  | inl is ↦ subst (λ (i : ℕ). P i (after i) (slice_index_or (slice_set numbers n value) i 0)) (sym is)
      (subst (λ (v : ℕ). P n (after n) v) (sym (get_or-set_same numbers n value 0 long)) here)
  | inr apart ↦ subst (λ (v : ℕ). P k (after k) v) (sym (get_or-set_other numbers n k value 0 apart))
      (subst (λ (c : Content). P k c (slice_index_or numbers k 0)) (sym (same k (omega (arith, within, apart))))
      (below k (omega (arith, within, apart))))
]

-- one slot more
pub surveyed_step : (honest still : Type 0) (id : List ℕ) (devices n : ℕ) (old mid new : BankView) (best next after : Option Superblock)
    (own generations : List ℕ) (value generation : ℕ)
    → (honest → still) → n < 10 → SurveyedTo honest id devices n old mid best own generations → FindsLeft still id devices n mid new (Ok next)
    → after ≡ newer_of best next → value ≡ own_by next n → generation ≡ generation_by next
    → SurveyedTo honest id devices (n + 1) old new after (slice_set own n value) (slice_set generations n generation)
surveyed_step honest still id devices n old mid new best next after own generations value generation goes_on within is left is_after is_value is_generation =
    record {
      ten = length-set own n value ∙ is.ten;
      later = later_both old.panel mid.panel new.panel is.later left.later;
      reads = λ fair. read_both (is.reads fair) (left.reads (goes_on fair));
      fits = subst (λ (o : Option Superblock). IfSome o (λ s. IsOfSet id devices s)) (sym is_after)
          (newer_fits id devices best next is.fits (found_fits id devices next left.fits));
      best_to = λ fair. subst (λ (o : Option Superblock). IsBestTo id devices (readable new.history) (n + 1) o) (sym is_after)
          (slots_step id devices n (readable new.history) best next
          (best_same id devices n (readable mid.history) (readable new.history) best (same_below fair) (is.best_to fair))
          (left.left (goes_on fair) next refl));
      owns = λ fair. one_slot_more (IsOwn id devices) (readable mid.history) (readable new.history) own n value
          (omega (arith, within, is.ten)) (same_below fair) (is.owns fair)
          (subst (λ (v : ℕ). IsOwn id devices n (readable new.history n) v) (sym is_value)
          (own_found id devices n (readable new.history) next (left.left (goes_on fair) next refl)));
      ten_generations = length-set generations n generation ∙ is.ten_generations;
      has_generations = λ fair. one_slot_more (IsOwnGeneration id devices) (readable mid.history) (readable new.history) generations n generation
          (omega (arith, within, is.ten_generations)) (same_below fair) (is.has_generations fair)
          (subst (λ (v : ℕ). IsOwnGeneration id devices n (readable new.history n) v) (sym is_generation)
          (generation_found id devices n (readable new.history) next (left.left (goes_on fair) next refl)));
    }
  where
    same_below : honest → (k : ℕ) → k < n → readable new.history k ≡ readable mid.history k
    same_below fair k below = others_readable mid.history new.history n k (left.reads (goes_on fair)) (left.others (goes_on fair))
        (λ same. absurd (omega (arith, below, same)))

-- the search of a slot was refused
pub surveyed_err : (honest still : Type 0) (id : List ℕ) (devices n : ℕ) (old mid new : BankView) (best : Option Superblock) (own generations : List ℕ)
    (refusal : Refusal)
    → (honest → still) → SurveyedTo honest id devices n old mid best own generations → FindsLeft still id devices n mid new (Err refusal)
    → Surveys honest id old new (Err refusal)
surveyed_err honest still id devices n old mid new best own generations refusal goes_on is left = record {
  later = later_both old.panel mid.panel new.panel is.later left.later;
  of_id = λ survey same. absurd (no_found (Some survey) refusal same);
  has_slots = λ survey same. absurd (no_found (Some survey) refusal same);
  reads = λ fair. read_both (is.reads fair) (left.reads (goes_on fair));
  told = λ fair survey same. absurd (no_found (Some survey) refusal same);
  none = λ fair same. absurd (no_found None refusal same);
  cause = λ other same. left.cause other (ap (λ (r : Refusal). Err r) (subst (OnRefusal (λ r. refusal ≡ r)) same refl));
}

-- all slots were searched, and a superblock was found
pub surveyed_some : (honest : Type 0) (id : List ℕ) (n : ℕ) (old new : BankView) (found : Option Superblock) (best : Superblock) (survey : Survey)
    → old.panel.devices ≤ n → SurveyedTo honest id old.panel.devices n old new found survey.own survey.generations → found ≡ Some best
    → survey.table ≡ best.table
    → Surveys honest id old new (Ok (Some survey))
surveyed_some honest id n old new found best survey all is is_best is_table = record {
  later = is.later;
  of_id = λ other same. subst (OnFound (λ (o : Option Survey). IfSome o (λ s. s.table.id ≡ id))) same
      (ap (λ (t : Table). t.id) is_table ∙ fits.of_set);
  has_slots = λ other same. subst (OnFound (λ (o : Option Survey). IfSome o (λ s. slots_of s.table ≤ new.panel.devices))) same
      (subst (λ (t : Table). slots_of t ≤ new.panel.devices) (sym is_table) (omega (arith, fits.has_slots, is.later.devices)));
  reads = is.reads;
  told = λ fair other same. subst (OnFound (λ (o : Option Survey). IfSome o (λ s. Tells id new.panel.devices (readable new.history) s))) same (tells fair);
  none = λ fair same. absurd (some_none (same_found (Some survey) None same));
  cause = λ refusal same. absurd (no_refusal (Some survey) refusal same);
}
  where
    fits : IsOfSet id old.panel.devices best
    fits = subst (λ (o : Option Superblock). IfSome o (λ s. IsOfSet id old.panel.devices s)) is_best is.fits

    tells : honest → Tells id new.panel.devices (readable new.history) survey
    tells fair = subst (λ (d : ℕ). Tells id d (readable new.history) survey) (sym is.later.devices) record {
      chosen = subst (λ (t : Table). IsChosen id old.panel.devices (readable new.history) t) (sym is_table)
          (chosen_at_end id old.panel.devices n (readable new.history) found best all (is.best_to fair) is_best);
      ten = is.ten;
      own = λ slot within. is.owns fair slot (omega (arith, within, all));
      ten_generations = is.ten_generations;
      generation = λ slot within. is.has_generations fair slot (omega (arith, within, all));
    }

-- or none
pub surveyed_none : (honest : Type 0) (id : List ℕ) (n : ℕ) (old new : BankView) (found : Option Superblock) (own generations : List ℕ)
    → old.panel.devices ≤ n → SurveyedTo honest id old.panel.devices n old new found own generations → found ≡ None → Surveys honest id old new (Ok None)
surveyed_none honest id n old new found own generations all is is_none = record {
  later = is.later;
  of_id = λ survey same. absurd (none_some (same_found None (Some survey) same));
  has_slots = λ survey same. absurd (none_some (same_found None (Some survey) same));
  reads = is.reads;
  told = λ fair survey same. absurd (none_some (same_found None (Some survey) same));
  none = λ fair same. subst (λ (d : ℕ). ImageCountsNone id d (readable new.history)) (sym is.later.devices)
      (none_at_end id old.panel.devices n (readable new.history) found all (is.best_to fair) is_none);
  cause = λ refusal same. absurd (no_refusal None refusal same);
}

-- what a survey's caller knows of it
pub surveyed_then : (honest still : Type 0) (id : List ℕ) (old new : BankView) (answer : Result (Option Survey) Refusal) (survey : Survey) → (still → honest)
    → Surveys honest id old new answer → answer ≡ Ok (Some survey) → IsSurveyOf still new survey
surveyed_then honest still id old new answer survey back surveys is = record {
  of_bank = surveys.has_slots survey is;
  told = λ fair. subst (λ (i : List ℕ). Tells i new.panel.devices (readable new.history) survey) (sym (surveys.of_id survey is))
      (surveys.told (back fair) survey is);
}

-- the table that a survey tells
pub table_told : (honest : Type 0) (id : List ℕ) (old new : BankView) (survey : Survey) → (honest → Honest old) → (honest → Honest new)
    → Surveys honest id old new (Ok (Some survey)) → FindsTable honest id old new (Ok (Some survey.table))
table_told honest id old new survey is_old is_new is = record {
  later = is.later;
  fits = λ table same. subst (OnFound (λ (o : Option Table). IfSome o (λ t. (t.id ≡ id) × (slots_of t ≤ new.panel.devices)))) same
      (is.of_id survey refl, is.has_slots survey refl);
  reads = is.reads;
  carried = λ fair table same. subst (OnFound (λ (o : Option Table). IfSome o (λ t. IsCarried id new.panel.devices (readable old.history) t)))
      same (still_carried id new.panel.devices old new survey.table (is_old fair) (is_new fair) is.later (is.reads fair) (is.told fair survey refl).chosen);
  chosen = λ fair none table same. subst (OnFound (λ (o : Option Table). IfSome o (λ t. IsChosen id new.panel.devices (readable new.history) t)))
      same ((is.told fair survey refl).chosen);
  none = λ fair none same. absurd (some_none (same_found (Some survey.table) None same));
  cause = λ refusal same. absurd (no_refusal (Some survey.table) refusal same);
}

-- or it tells that there is none
pub table_untold : (honest : Type 0) (id : List ℕ) (old new : BankView) → Surveys honest id old new (Ok None) → FindsTable honest id old new (Ok None)
table_untold honest id old new is = record {
  later = is.later;
  fits = λ table same. absurd (none_some (same_found None (Some table) same));
  reads = is.reads;
  carried = λ fair table same. absurd (none_some (same_found None (Some table) same));
  chosen = λ fair none table same. absurd (none_some (same_found None (Some table) same));
  none = λ fair none same. is.none fair refl;
  cause = λ refusal same. absurd (no_refusal None refusal same);
}

-- or the survey was refused
pub table_refused : (honest : Type 0) (id : List ℕ) (old new : BankView) (refusal : Refusal)
    → Surveys honest id old new (Err refusal) → FindsTable honest id old new (Err refusal)
table_refused honest id old new refusal is = record {
  later = is.later;
  fits = λ table same. absurd (no_found (Some table) refusal same);
  reads = is.reads;
  carried = λ fair table same. absurd (no_found (Some table) refusal same);
  chosen = λ fair none table same. absurd (no_found (Some table) refusal same);
  none = λ fair none same. absurd (no_found None refusal same);
  cause = λ other same. is.cause other (ap (λ (r : Refusal). Err r) (subst (OnRefusal (λ r. refusal ≡ r)) same refl));
}
