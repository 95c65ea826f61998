-- Which slots are out by a survey.
use Rattle.std.proofs.Common.{◌≡◌, ◌≢◌, inl, inr, ℕ, ◌+◌, ◌-◌, ◌^◌, ◌<◌, ◌≤◌, min, true, false, length, sym, ◌∙◌, ap, subst, arith}
use Rattle.std.specs.Prelude.{nat_eq, not, slice_index_or}
use Rattle.std.proofs.lemmas.Bool.{cases_eq, cases_lt}
use Rattle.std.proofs.lemmas.Bool.Decides.{nat_tests}
use Rattle.sector_model.specs.History.{disk_of}
use Rattle.sector_model.specs.MemoryLaw.{length-seen}
use Rattle.sector_model.specs.Readable.{readable}
use Rattle.sector_model.proofs.Readable.{readable_up}
use Rattle.layout_map.specs.declared.geometry.Geometry.{Geometry}
use Rattle.layout_map.proofs.Places.{journal_most, rows_most}
use Rattle.superblock.specs.declared.state.State.TheVariants.{InSync, Missing}
use Rattle.superblock.specs.declared.table.Table.{Table}
use Rattle.superblock.specs.Counted.{Content, HasIncarnation, least_sectors}
use Rattle.superblock.specs.NextTables.{slots_of}
use Rattle.superblock.specs.Tables.{incarnation_at, state_at}
use Rattle.superblock.proofs.LeastSectors.{journal_least, member_least}
use Rattle.superblock.proofs.Newest.{one_incarnation}
use Rattle.recovery.specs.declared.survey.Survey.{Survey}
use Rattle.recovery.specs.Making.{BankView}
use Rattle.recovery.specs.Surveying.{IsDead, IsNotFull, IsOwn, IsSurveyOf, IsThere}
use Rattle.recovery.proofs.Finding.{Honest, none_down}

-- what holds below one more
pub below_one_more : (P : ℕ → Type 0) (n : ℕ) → ((k : ℕ) → k < n → P k) → P n → (k : ℕ) → k < n + 1 → P k
below_one_more P n below here k within = elim (cases_eq k n) [
  | inl same ↦ subst P (sym same) here
  | inr apart ↦ below k (omega (arith, within, apart))
]

-- what a test of two numbers says
pub tested_apart : (a b : ℕ) → not (nat_eq a b) ≡ true → a ≢ b
tested_apart a b is = grind (arith, nat_tests, is)

pub tested_same : (a b : ℕ) → not (nat_eq a b) ≡ false → a ≡ b
tested_same a b is = grind (arith, nat_tests, is)

-- a device that is up has so many sectors, as far as a count of them goes
sectors_up : (bank : BankView) (slot : ℕ) → Honest bank → bank.panel.down slot ≡ false
    → bank.panel.sectors slot ≡ min (length (disk_of (readable bank.history slot))) (2 ^ 32 - 1)
sectors_up bank slot fair up = fair.sectors slot
    ∙ ap (λ (n : ℕ). min n (2 ^ 32 - 1)) (sym (length-seen bank.history slot))
    ∙ ap (λ (c : Content). min (length (disk_of c)) (2 ^ 32 - 1)) (sym (readable_up bank.history slot (sym (fair.down slot) ∙ up)))

-- the device is down
pub dead_down : (honest : Type 0) (bank : BankView) (table : Table) (slot : ℕ) → (honest → Honest bank) → bank.panel.down slot ≡ true
    → IsDead honest bank table slot
dead_down honest bank table slot is_honest down fair live =
    none_down table.id bank.panel.devices slot live.incarnation.place bank.history (sym ((is_honest fair).down slot) ∙ down)
    live.incarnation.newest live.incarnation.counted

-- a slot needs fewer sectors than a count of them may say
pub least_fits : (geometry : Geometry) (slot : ℕ) → least_sectors geometry slot < 2 ^ 32
least_fits geometry slot = elim (cases_lt slot geometry.members) [
  | inl member ↦ omega (arith, member_least geometry slot member, rows_most geometry.limits)
  | inr journal ↦ omega (arith, journal_least geometry slot journal, journal_most geometry.format)
]

-- it is too short
pub dead_short : (honest : Type 0) (bank : BankView) (table : Table) (slot : ℕ) → (honest → Honest bank) → bank.panel.down slot ≡ false
    → bank.panel.sectors slot < least_sectors table.geometry slot → least_sectors table.geometry slot < 2 ^ 32 → IsDead honest bank table slot
dead_short honest bank table slot is_honest up short within fair live =
    shorter (length (disk_of (readable bank.history slot))) (least_sectors table.geometry slot)
    (subst (λ (n : ℕ). n < least_sectors table.geometry slot) (sectors_up bank slot (is_honest fair) up) short) within live.long_enough
  where
    shorter : (n least : ℕ) → min n (2 ^ 32 - 1) < least → least < 2 ^ 32 → least ≤ n → ⊥
    shorter n least is within long = omega (arith, is, within, long)

-- it is another device
pub dead_other : (honest : Type 0) (bank : BankView) (survey : Survey) (slot : ℕ) → slot < slots_of survey.table → IsSurveyOf honest bank survey
    → slice_index_or survey.own slot 0 ≢ incarnation_at survey.table.incarnations slot → IsDead honest bank survey.table slot
dead_other honest bank survey slot of_set surveyed other fair live =
    by_own ((surveyed.told fair).own slot (omega (arith, of_set, surveyed.of_bank)))
  where
    by_own : IsOwn survey.table.id bank.panel.devices slot (readable bank.history slot) (slice_index_or survey.own slot 0) → ⊥
    by_own (inl has) = other (one_incarnation survey.table.id bank.panel.devices slot (readable bank.history slot) (slice_index_or survey.own slot 0)
        (incarnation_at survey.table.incarnations slot) has live.incarnation)
    by_own (inr none) = none.0 live.incarnation.place live.incarnation.newest live.incarnation.counted

-- it is there
pub is_there_up : (honest : Type 0) (bank : BankView) (survey : Survey) (slot : ℕ) → (honest → Honest bank)
    → slot < slots_of survey.table → IsSurveyOf honest bank survey → bank.panel.down slot ≡ false
    → least_sectors survey.table.geometry slot ≤ bank.panel.sectors slot
    → slice_index_or survey.own slot 0 ≡ incarnation_at survey.table.incarnations slot
    → state_at survey.table.states slot ≢ Missing → IsThere honest bank survey.table slot
is_there_up honest bank survey slot is_honest of_set surveyed up long same there = record {
  up = up;
  long_enough = long;
  live = λ fair. record {
    long_enough = longer (length (disk_of (readable bank.history slot))) (least_sectors survey.table.geometry slot)
        (subst (λ (n : ℕ). least_sectors survey.table.geometry slot ≤ n) (sectors_up bank slot (is_honest fair) up) long);
    not_missing = there;
    incarnation = by_own ((surveyed.told fair).own slot (omega (arith, of_set, surveyed.of_bank)));
  };
}
  where
    longer : (n least : ℕ) → least ≤ min n (2 ^ 32 - 1) → least ≤ n
    longer n least is = omega (arith, is)

    by_own : IsOwn survey.table.id bank.panel.devices slot (readable bank.history slot) (slice_index_or survey.own slot 0)
        → HasIncarnation survey.table.id bank.panel.devices slot (readable bank.history slot) (incarnation_at survey.table.incarnations slot)
    by_own (inl has) = subst (λ (i : ℕ). HasIncarnation survey.table.id bank.panel.devices slot (readable bank.history slot) i) same has
    by_own (inr none) = let least = survey.table.allowed.incarnation_least slot of_set in absurd (omega (arith, least, same, none.1))

-- a slot that is not live is not full, nor is one that is not in sync
pub not_full_dead : (honest : Type 0) (bank : BankView) (table : Table) (slot : ℕ) → slot < slots_of table → IsDead honest bank table slot
    → IsNotFull honest bank table slot
not_full_dead honest bank table slot of_set dead = record { of_set = of_set; out = λ fair full. dead fair full.live }

pub not_full_state : (honest : Type 0) (bank : BankView) (table : Table) (slot : ℕ) → slot < slots_of table → state_at table.states slot ≢ InSync
    → IsNotFull honest bank table slot
not_full_state honest bank table slot of_set out = record { of_set = of_set; out = λ fair full. out full.in_sync }
