-- What a search for ids finds.
use Rattle.std.proofs.Common.{◌≡◌, ◌⊎◌, inl, inr, ℕ, ◌+◌, ◌%◌, ◌≤◌, Bool, true, false, List, Option, Some, None, refl, sym, ◌∙◌, ap, subst, arith}
use Rattle.std.specs.Prelude.{Result, Ok, Err}
use Rattle.std.proofs.lemmas.Bool.{cases_eq}
use Rattle.std.proofs.lemmas.Option.{same_Some}
use Rattle.sector_model.specs.declared.refusal.Refusal.{Refusal}
use Rattle.sector_model.specs.declared.refusal.Refusal.TheVariants.{Worn}
use Rattle.sector_model.specs.declared.calls.TheConstants.{GREATEST_COUNT}
use Rattle.sector_model.specs.Bank.{IsLater}
use Rattle.sector_model.specs.History.{Bytes, Slots, disk_of, is_down, sector_of}
use Rattle.sector_model.specs.Readable.{readable}
use Rattle.sector_model.specs.Reads.{HasRead}
use Rattle.sector_model.proofs.Panels.{later_both, later_same}
use Rattle.sector_model.proofs.Readable.{readable_up}
use Rattle.sector_model.proofs.Reading.{read_both, read_none}
use Rattle.superblock.specs.declared.table.Superblock.{Superblock}
use Rattle.superblock.specs.Counted.{Content, Counts}
use Rattle.superblock.specs.Newest.{CountsIn}
use Rattle.superblock.specs.Spelling.{superblock_sector}
use Rattle.superblock.proofs.Newest.{counted_within, counts_in, in_counts, none_beyond}
use Rattle.superblock.proofs.Spelled.{one_superblock}
use Rattle.recovery.specs.Finding.{ReadsPlace}
use Rattle.recovery.specs.Making.{BankView}
use Rattle.recovery.specs.SetIds.{FindsLeast, InPlace, InSlot, InSlotsBelow, IsAtMost, IsIdIn, IsIdOf, IsIdOn, IsLesser, ReadsId}
use Rattle.recovery.proofs.Finding.{Honest, OnRefusal, no_found, no_refusal, none_down, none_failed_first, none_failed_second, same_found, same_readable}
use Rattle.recovery.proofs.Finding.{same_while_up}

-- the id of a superblock that counts in its set
pub id_found : (devices slot place : ℕ) (sector : Bytes) (superblock own : Superblock) → sector ≡ superblock_sector superblock
    → CountsIn superblock.table.id devices slot place sector own → IsIdOf devices slot place sector (Some own.table.id)
id_found devices slot place sector superblock own spelled is = record {
  counts = λ id same.
      let its : superblock.table.id ≡ id = sym is.of_set.of_set ∙ same_Some own.table.id id same in
      (own, subst (λ (i : List ℕ). CountsIn i devices slot place sector own) its is);
  only = λ id other counts.
      let one = one_superblock superblock other (sym spelled ∙ counts.spelled) in
      ap (λ (i : List ℕ). Some i) (is.of_set.of_set ∙ ap (λ (s : Superblock). s.table.id) one ∙ counts.of_set.of_set);
}

none_some : {A : Type 0} {x : A} → None ≡ Some x → ⊥
none_some is = cc

-- a place was read
pub id_read : (honest : Type 0) (devices slot place : ℕ) (old new : BankView) (sector : Bytes) (found : Option (List ℕ)) → (honest → Honest old)
    → ReadsPlace honest slot place old new (Ok (Some sector)) → IsIdOf devices slot place sector found → ReadsId honest devices slot place old new (Ok found)
id_read honest devices slot place old new sector found is_honest is its = record {
  later = is.later;
  reads = is.reads;
  counts = λ fair id same.
      let one = its.counts id (same_found found (Some id) same) in
      (one.0, counts_in id devices slot place sector one.0 (readable old.history slot) (stands fair) one.1);
  only = λ fair none other same id superblock counts.
      sym (same_found found other same) ∙ its.only id superblock
      (in_counts id devices slot place sector superblock (readable old.history slot) (stands fair) counts);
  cause = λ refusal same. absurd (no_refusal found refusal same);
}
  where
    stands : honest → sector_of (disk_of (readable old.history slot)) place ≡ sector
    stands fair = ap (λ (c : Content). sector_of (disk_of c) place)
        (readable_up old.history slot (sym ((is_honest fair).down slot) ∙ (is.stands sector refl).0)) ∙ sym ((is.stands sector refl).1 fair)

-- or nothing stands there
pub id_nothing : (honest : Type 0) (devices slot place : ℕ) (old new : BankView) → ReadsPlace honest slot place old new (Ok None)
    → ReadsId honest devices slot place old new (Ok None)
id_nothing honest devices slot place old new is = record {
  later = is.later;
  reads = is.reads;
  counts = λ fair id same. absurd (none_some (same_found None (Some id) same));
  only = λ fair none other same id superblock counts.
      absurd (none_beyond id devices slot place (readable old.history slot) (is.nothing fair none refl) superblock counts);
  cause = λ refusal same. absurd (no_refusal None refusal same);
}

-- a search that was refused
finds_refused : (honest : Type 0) (above best : Option (List ℕ)) (MayBe : Slots → List ℕ → Type 0) (old new : BankView) (refusal : Refusal)
    → IsLater old.panel new.panel → (honest → HasRead old.history new.history) → (refusal ≡ Worn) × (GREATEST_COUNT ≤ new.panel.calls)
    → FindsLeast honest above best MayBe old new (Err refusal)
finds_refused honest above best MayBe old new refusal later reads cause = record {
  later = later;
  reads = reads;
  one = λ fair id same. absurd (no_found (Some id) refusal same);
  kept = λ found same. absurd (no_found found refusal same);
  least = λ fair none found same. absurd (no_found found refusal same);
  cause = λ other same. subst (OnRefusal (λ r. (r ≡ Worn) × (GREATEST_COUNT ≤ new.panel.calls))) same cause;
}

pub place_refused : (honest : Type 0) (above best : Option (List ℕ)) (devices slot place : ℕ) (old new : BankView) (refusal : Refusal)
    → ReadsId honest devices slot place old new (Err refusal) → FindsLeast honest above best (InPlace devices slot place) old new (Err refusal)
place_refused honest above best devices slot place old new refusal is =
    finds_refused honest above best (InPlace devices slot place) old new refusal is.later is.reads (is.cause refusal refl)

-- the lesser of the best and what a place has
pub place_searched : (honest : Type 0) (above best further found : Option (List ℕ)) (devices slot place : ℕ) (old new : BankView)
    → ReadsId honest devices slot place old new (Ok further) → IsLesser above best further found
    → FindsLeast honest above best (InPlace devices slot place) old new (Ok found)
place_searched honest above best further found devices slot place old new is lesser = record {
  later = is.later;
  reads = is.reads;
  one = λ fair id same. elim (lesser.one id (same_found found (Some id) same)) [
    | inl was ↦ inl was
    | inr new ↦ inr (is.counts fair id (ap (λ (o : Option (List ℕ)). Ok o) new.0), new.1)
  ];
  kept = λ other same id most. subst (λ (o : Option (List ℕ)). IsAtMost o id) (same_found found other same) (lesser.kept id most);
  least = λ fair none other same id may over. subst (λ (o : Option (List ℕ)). IsAtMost o id) (same_found found other same)
      (lesser.least id (is.only fair none further refl id may.0 may.1) over);
  cause = λ refusal same. absurd (no_refusal found refusal same);
}

-- One search after another.
pub search_both : (honest still : Type 0) (above best first : Option (List ℕ)) (IsFirst IsSecond MayBe : Slots → List ℕ → Type 0) (old mid new : BankView)
    (answer : Result (Option (List ℕ)) Refusal) → (honest → still) → (honest → Honest old) → (honest → Honest mid)
    → ((image : Slots) (id : List ℕ) → IsFirst image id → MayBe image id) → ((image : Slots) (id : List ℕ) → IsSecond image id → MayBe image id)
    → ((image : Slots) (id : List ℕ) → MayBe image id → IsFirst image id ⊎ IsSecond image id)
    → (honest → IsLater old.panel mid.panel → HasRead old.history mid.history → (id : List ℕ) → IsSecond (readable mid.history) id
    → IsSecond (readable old.history) id)
    → FindsLeast honest above best IsFirst old mid (Ok first) → FindsLeast still above first IsSecond mid new answer
    → FindsLeast honest above best MayBe old new answer
search_both honest still above best first IsFirst IsSecond MayBe old mid new answer goes_on is_old is_mid of_first of_second split back one two = record {
  later = later_both old.panel mid.panel new.panel one.later two.later;
  reads = λ fair. read_both (one.reads fair) (two.reads (goes_on fair));
  one = λ fair id same. elim (two.one (goes_on fair) id same) [
    | inl was ↦ elim (one.one fair id (ap (λ (o : Option (List ℕ)). Ok o) was)) [
      | inl before ↦ inl before
      | inr new ↦ inr (of_first (readable old.history) id new.0, new.1)
    ]
    | inr new ↦ inr (of_second (readable old.history) id (back fair one.later (one.reads fair) id new.0), new.1)
  ];
  kept = λ found same id most. two.kept found same id (one.kept first refl id most);
  least = λ fair none found same id may over. elim (split (readable old.history) id may) [
    | inl is ↦ two.kept found same id (one.least fair (none_failed_first old.panel mid.panel new.panel two.later none) first refl id is over)
    | inr is ↦ two.least (goes_on fair) (none_failed_second old.panel mid.panel new.panel one.later none) found same id
        (subst (λ (image : Slots). IsSecond image id)
        (sym (same_readable old mid (is_old fair) (is_mid fair) one.later (one.reads fair) (none_failed_first old.panel mid.panel new.panel two.later none)))
        is) over
  ];
  cause = two.cause;
}

-- what counts in a slot counted there before other reads
slot_back : (devices slot : ℕ) (old mid : BankView) → Honest old → Honest mid → IsLater old.panel mid.panel → HasRead old.history mid.history
    → (id : List ℕ) (place : ℕ) (superblock : Superblock) → Counts id devices slot (readable mid.history slot) place superblock
    → Counts id devices slot (readable old.history slot) place superblock
slot_back devices slot old mid is_old is_mid later read id place superblock counts = by_case (is_down mid.history slot) refl
  where
    by_case : (b : Bool) → is_down mid.history slot ≡ b → Counts id devices slot (readable old.history slot) place superblock
    by_case true down = absurd (none_down id devices slot place mid.history down superblock counts)
    by_case false up = subst (λ (c : Content). Counts id devices slot c place superblock) (same_while_up old mid slot is_old is_mid later read up) counts

two_places : (n place : ℕ) → n % 2 ≡ place → (place ≡ 0) ⊎ (place ≡ 1)
two_places n place is = elim (cases_eq place 0) [
  | inl zero ↦ inl zero
  | inr apart ↦ inr (omega (arith, is, apart))
]

-- both places of a slot
pub slot_searched : (honest still : Type 0) (above best first : Option (List ℕ)) (devices slot : ℕ) (old mid new : BankView)
    (answer : Result (Option (List ℕ)) Refusal) → (honest → still) → (honest → Honest old) → (honest → Honest mid)
    → FindsLeast honest above best (InPlace devices slot 0) old mid (Ok first) → FindsLeast still above first (InPlace mid.panel.devices slot 1) mid new answer
    → devices ≡ old.panel.devices → FindsLeast honest above best (InSlot devices slot) old new answer
slot_searched honest still above best first devices slot old mid new answer goes_on is_old is_mid one two is_devices =
    search_both honest still above best first (InPlace devices slot 0) (InPlace devices slot 1) (InSlot devices slot) old mid new answer goes_on is_old is_mid
    (λ image id is. record { place = 0; superblock = is.0; counted = is.1 })
    (λ image id is. record { place = 1; superblock = is.0; counted = is.1 })
    (λ image id is. elim (two_places is.superblock.table.generation is.place is.counted.own_place) [
      | inl zero ↦ inl (is.superblock, subst (λ (p : ℕ). Counts id devices slot (image slot) p is.superblock) zero is.counted)
      | inr one ↦ inr (is.superblock, subst (λ (p : ℕ). Counts id devices slot (image slot) p is.superblock) one is.counted)
    ])
    (λ fair later read id is. (is.0, slot_back devices slot old mid (is_old fair) (is_mid fair) later read id 1 is.0 is.1))
    one (subst (λ (d : ℕ). FindsLeast still above first (InPlace d slot 1) mid new answer) (one.later.devices ∙ sym is_devices) two)

-- of no slot
pub none_searched : (honest : Type 0) (above : Option (List ℕ)) (devices : ℕ) (bank : BankView)
    → FindsLeast honest above None (InSlotsBelow devices 0) bank bank (Ok None)
none_searched honest above devices bank = record {
  later = later_same bank.panel;
  reads = λ fair. read_none bank.history;
  one = λ fair id same. absurd (none_some (same_found None (Some id) same));
  kept = λ found same id most. absurd most;
  least = λ fair none found same id may over. absurd (omega (arith, may.1));
  cause = λ refusal same. absurd (no_refusal None refusal same);
}

-- one slot more
pub slots_searched : (honest still : Type 0) (above first : Option (List ℕ)) (devices n : ℕ) (old mid new : BankView)
    (answer : Result (Option (List ℕ)) Refusal) → (honest → still) → (honest → Honest old) → (honest → Honest mid)
    → FindsLeast honest above None (InSlotsBelow devices n) old mid (Ok first) → FindsLeast still above first (InSlot mid.panel.devices n) mid new answer
    → devices ≡ old.panel.devices → FindsLeast honest above None (InSlotsBelow devices (n + 1)) old new answer
slots_searched honest still above first devices n old mid new answer goes_on is_old is_mid one two is_devices =
    search_both honest still above None first (InSlotsBelow devices n) (InSlot devices n) (InSlotsBelow devices (n + 1)) old mid new answer goes_on is_old
    is_mid
    (λ image id is. (is.0, omega (arith, is.1), is.2))
    (λ image id is. (n, omega arith, is))
    (λ image id is. elim (cases_eq is.0 n) [
      | inl same ↦ inr (subst (λ (s : ℕ). IsIdIn devices s (image s) id) same is.2)
      | inr apart ↦ inl (is.0, omega (arith, is.1, apart), is.2)
    ])
    (λ fair later read id is. record {
      place = is.place;
      superblock = is.superblock;
      counted = slot_back devices n old mid (is_old fair) (is_mid fair) later read id is.place is.superblock is.counted;
    })
    one (subst (λ (d : ℕ). FindsLeast still above first (InSlot d n) mid new answer) (one.later.devices ∙ sym is_devices) two)

-- of all slots
pub all_searched : (honest : Type 0) (above : Option (List ℕ)) (devices n : ℕ) (old new : BankView) (answer : Result (Option (List ℕ)) Refusal)
    → devices ≤ n → FindsLeast honest above None (InSlotsBelow devices n) old new answer → FindsLeast honest above None (IsIdOn devices) old new answer
all_searched honest above devices n old new answer all is = record {
  later = is.later;
  reads = is.reads;
  one = λ fair id same. elim (is.one fair id same) [
    | inl was ↦ inl was
    | inr new ↦ inr (record { slot = new.0.0; here = new.0.2 }, new.1)
  ];
  kept = is.kept;
  least = λ fair none found same id may over. is.least fair none found same id (
    may.slot,
    (let within = counted_within id devices may.slot (readable old.history may.slot) may.here.place may.here.superblock may.here.counted in omega
        (arith, within, all)),
    may.here,
  ) over;
  cause = is.cause;
}

-- the search of a slot was refused
pub slots_refused : (honest still : Type 0) (above first : Option (List ℕ)) (devices n : ℕ) (MayBe : Slots → List ℕ → Type 0) (old mid new : BankView)
    (refusal : Refusal)
    → (honest → still) → FindsLeast honest above None (InSlotsBelow devices n) old mid (Ok first) → FindsLeast still above first MayBe mid new (Err refusal)
    → FindsLeast honest above None (IsIdOn devices) old new (Err refusal)
slots_refused honest still above first devices n MayBe old mid new refusal goes_on one two =
    finds_refused honest above None (IsIdOn devices) old new refusal (later_both old.panel mid.panel new.panel one.later two.later)
    (λ fair. read_both (one.reads fair) (two.reads (goes_on fair))) (two.cause refusal refl)
