-- What the exit status of a line says that asks how well a set is.
use Rattle.std.proofs.Common.{◌≡◌, ◌≢◌, ◌⊎◌, ◌∙◌, ◌≤◌, inl, inr, arith, refl, ap, ℕ, true, false}
use Rattle.std.specs.Prelude.{Err, Ok, Result, is_ok, if◌then◌else◌}
use Rattle.sector_model.specs.declared.refusal.Refusal.{Refusal}
use Rattle.sector_model.specs.declared.refusal.Refusal.TheVariants.{BadTable, NoSet, TwoLost, Worn}
use Rattle.command_line.specs.declared.Invocation.{Invocation}
use Rattle.command_line.specs.declared.Invocation.TheVariants.{Examine, Make, Status}
use Rattle.device_files.specs.declared.FolderFault.{FolderFault}
use Rattle.device_files.specs.declared.FolderFault.TheVariants.{Refused}
use Rattle.set_commands.specs.declared.serving.health.Health.{Health}
use Rattle.set_commands.specs.declared.serving.health.Health.TheVariants.{Complete, Incomplete, Unassembled}
use Rattle.raidtool.specs.Tool.{IsChecked, IsMisshapen, IsNone, checked_status, status_by}

-- how a line ends: as the status without the question says, or with a set that is complete, not complete, not assembled, or refused
data Ends (line : Invocation) (done : Result (Unit {0}) FolderFault) (status : ℕ) (health : Health) (result : ℕ) : Type 0 where
  plainly : result ≡ status → (IsChecked line → status ≡ 1) → Ends line done status health result
  well : IsChecked line → status ≡ 0 → health ≡ Complete → result ≡ 0 → Ends line done status health result
  incomplete : IsChecked line → status ≡ 0 → health ≡ Incomplete → result ≡ 3 → Ends line done status health result
  unassembled : IsChecked line → status ≡ 0 → health ≡ Unassembled → result ≡ 4 → Ends line done status health result
  refused : (refusal : Refusal) → IsChecked line → done ≡ Err (Refused refusal) → IsNone refusal → status ≡ 1 → result ≡ 4 → Ends line done status health result

ends_by : (line : Invocation) → IsChecked line → (done : Result (Unit {0}) FolderFault) (status : ℕ) (health : Health) (result : ℕ)
    → result ≡ status_by done status health
    → status ≡ (if is_ok done then 0 else 1) → Ends line done status health result
ends_by line asks (Ok value) status Complete result is st = well asks st refl is
ends_by line asks (Ok value) status Incomplete result is st = incomplete asks st refl is
ends_by line asks (Ok value) status Unassembled result is st = unassembled asks st refl is
ends_by line asks (Err (Refused NoSet)) status health result is st = refused NoSet asks refl tt st is
ends_by line asks (Err (Refused BadTable)) status health result is st = refused BadTable asks refl tt st is
ends_by line asks (Err (Refused TwoLost)) status health result is st = refused TwoLost asks refl tt st is
ends_by line asks (Err (Refused Worn)) status health result is st = refused Worn asks refl tt st is
ends_by line asks (Err fault) status health result is st = plainly is (λ _. st)

ends_of : (line : Invocation) (done : Result (Unit {0}) FolderFault) (status : ℕ) (health : Health) (result : ℕ)
    → result ≡ checked_status line done status health
    → status ≡ (if is_ok done then 0 else 1) → Ends line done status health result
ends_of (Status f i j true) done status health result is st = ends_by (Status f i j true) tt done status health result is st
ends_of (Examine f i j true) done status health result is st = ends_by (Examine f i j true) tt done status health result is st
ends_of line done status health result is st = plainly is (λ asks. absurd asks)

at_most_one : (done : Result (Unit {0}) FolderFault) (status : ℕ) → status ≡ (if is_ok done then 0 else 1) → status ≤ 1
at_most_one (Ok value) status is = omega (arith, is)
at_most_one (Err fault) status is = omega (arith, is)

module _ (line : Invocation) (done : Result (Unit {0}) FolderFault) (status : ℕ) (health : Health) (result : ℕ)
    (is : result ≡ checked_status line done status health)
    (st : status ≡ (if is_ok done then 0 else 1)) where
  pub most_of : result ≤ 4
  most_of = elim (ends_of line done status health result is st) [
    | plainly same low ↦ let most = at_most_one done status st in omega (arith, same, most)
    | well asks zero whole r ↦ omega (arith, r)
    | incomplete asks zero part r ↦ omega (arith, r)
    | unassembled asks zero none r ↦ omega (arith, r)
    | refused refusal asks by none one r ↦ omega (arith, r)
  ]

  pub zero_of : result ≡ 0 → status ≡ 0
  zero_of zero_is = elim (ends_of line done status health result is st) [
    | plainly same low ↦ omega (arith, same, zero_is)
    | well asks zero whole r ↦ zero
    | incomplete asks zero part r ↦ zero
    | unassembled asks zero none r ↦ zero
    | refused refusal asks by none one r ↦ absurd (omega (arith, r, zero_is))
  ]

  pub one_of : result ≡ 1 → status ≡ 1
  one_of one_is = elim (ends_of line done status health result is st) [
    | plainly same low ↦ omega (arith, same, one_is)
    | well asks zero whole r ↦ absurd (omega (arith, r, one_is))
    | incomplete asks zero part r ↦ absurd (omega (arith, r, one_is))
    | unassembled asks zero none r ↦ absurd (omega (arith, r, one_is))
    | refused refusal asks by none one r ↦ one
  ]

  pub never_two : result ≢ 2
  never_two two_is = elim (ends_of line done status health result is st) [
    | plainly same low ↦ let most = at_most_one done status st in omega (arith, same, most, two_is)
    | well asks zero whole r ↦ omega (arith, r, two_is)
    | incomplete asks zero part r ↦ omega (arith, r, two_is)
    | unassembled asks zero none r ↦ omega (arith, r, two_is)
    | refused refusal asks by none one r ↦ omega (arith, r, two_is)
  ]

  pub checked_of : 3 ≤ result → IsChecked line
  checked_of above = elim (ends_of line done status health result is st) [
    | plainly same low ↦ let most = at_most_one done status st in absurd (omega (arith, same, most, above))
    | well asks zero whole r ↦ asks
    | incomplete asks zero part r ↦ asks
    | unassembled asks zero none r ↦ asks
    | refused refusal asks by none one r ↦ asks
  ]

  pub incomplete_of : result ≡ 3 → (status ≡ 0) × (health ≡ Incomplete)
  incomplete_of three_is = elim (ends_of line done status health result is st) [
    | plainly same low ↦ let most = at_most_one done status st in absurd (omega (arith, same, most, three_is))
    | well asks zero whole r ↦ absurd (omega (arith, r, three_is))
    | incomplete asks zero part r ↦ (zero, part)
    | unassembled asks zero none r ↦ absurd (omega (arith, r, three_is))
    | refused refusal asks by none one r ↦ absurd (omega (arith, r, three_is))
  ]

  pub well_of : (result ≡ 0) ⊎ (result ≡ 3) → status ≡ 0
  well_of ended = elim ended [ inl zero_is ↦ zero_of zero_is | inr three_is ↦ (incomplete_of three_is).0 ]

  pub unassembled_of : result ≡ 4 → ((status ≡ 0) × (health ≡ Unassembled)) ⊎ ((refusal : Refusal) × (done ≡ Err (Refused refusal)) × IsNone refusal)
  unassembled_of four_is = elim (ends_of line done status health result is st) [
    | plainly same low ↦ let most = at_most_one done status st in absurd (omega (arith, same, most, four_is))
    | well asks zero whole r ↦ absurd (omega (arith, r, four_is))
    | incomplete asks zero part r ↦ absurd (omega (arith, r, four_is))
    | unassembled asks zero none r ↦ inl (zero, none)
    | refused refusal asks by none one r ↦ inr (refusal, by, none)
  ]

  pub complete_of : IsChecked line → result ≡ 0 → health ≡ Complete
  complete_of asked zero_is = elim (ends_of line done status health result is st) [
    | plainly same low ↦ let one = low asked in absurd (omega (arith, same, one, zero_is))
    | well asks zero whole r ↦ whole
    | incomplete asks zero part r ↦ absurd (omega (arith, r, zero_is))
    | unassembled asks zero none r ↦ absurd (omega (arith, r, zero_is))
    | refused refusal asks by none one r ↦ absurd (omega (arith, r, zero_is))
  ]

-- a line to make a set asks for nothing more
pub misshapen_status : (line : Invocation) (done : Result (Unit {0}) FolderFault) (status : ℕ) (health : Health) → IsMisshapen line
    → checked_status line done status health ≡ status
misshapen_status (Make folder id members chunk stripes) done status health bad = refl
misshapen_status line done status health bad = absurd bad

-- ---- where none could be assembled

status_four : (refusal : Refusal) (status : ℕ) (health : Health) → IsNone refusal → status_by (Err (Refused refusal)) status health ≡ 4
status_four NoSet status health none = refl
status_four BadTable status health none = refl
status_four TwoLost status health none = refl
status_four Worn status health none = refl
status_four refusal status health none = absurd none

line_four : (line : Invocation) (refusal : Refusal) (status : ℕ) (health : Health) → IsChecked line → IsNone refusal
    → checked_status line (Err (Refused refusal)) status health ≡ 4
line_four (Status folder id json true) refusal status health asks none = status_four refusal status health none
line_four (Examine folder id json true) refusal status health asks none = status_four refusal status health none
line_four line refusal status health asks none = absurd asks

-- the status is not 1 then
pub none_of_four : (line : Invocation) (done : Result (Unit {0}) FolderFault) (status : ℕ) (health : Health) (result : ℕ)
    → result ≡ checked_status line done status health → result ≡ 1 → (refusal : Refusal) → done ≡ Err (Refused refusal) → IsChecked line → ¬ IsNone refusal
none_of_four line done status health result is one refusal by asks none =
    let four : result ≡ 4 = is ∙ ap (λ (d : Result (Unit {0}) FolderFault). checked_status line d status health) by
    ∙ line_four line refusal status health asks none in
    absurd (omega (arith, four, one))
