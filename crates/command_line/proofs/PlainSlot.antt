-- What clap makes of the words `fail FOLDER --id H --slot K` and `replace FOLDER --id H --slot K`.
use Rattle.std.proofs.Common.{◌<◌, ◌^◌, ℕ, refl, arith, List, [], ◌∷◌, codes}
use Rattle.std.specs.Prelude.{decimal}
use Rattle.clap.specs.Faults.{defaults_fault, walk_fault}
use Rattle.clap.specs.Walk.{Row, Text, Walk, finished, nothing_held, used, walk_from, walked}
use Rattle.command_line.specs.declared.Invocation.{Invocation}
use Rattle.command_line.specs.declared.SetChoice.{SetChoice}
use Rattle.command_line.specs.declared.Invocation.TheVariants.{Change as ChangeVolumes, Fail, Replace}
use Rattle.command_line.specs.Commands.{up_to}
use Rattle.command_line.specs.Invocations.{Enters, HasNumber, SaysInvocation}
use Rattle.command_line.specs.Requests.{FailOf, IsLineOf, IsPlainSet, IsPlainWord, IsSetText, ReplaceOf, words_of}
use Rattle.command_line.proofs.Answering.{Reads, no_bad, no_fault_in}
use Rattle.command_line.proofs.OneAsked.{no_change, one_number, other_invocation}
use Rattle.command_line.proofs.PlainNumbers.{IsNumberValue, decimal_spells, decimal_value}
use Rattle.command_line.proofs.PlainSteps.{IsValue, given, plain_choice, set_choice, value_from_first}
use Rattle.command_line.proofs.PlainWalks.{EndsWell, Goes, HasSetRules, IsOption, StopsAt, id_rows, option_goes, set_goes, stays, sub_enters}
use Rattle.command_line.proofs.PlainWords.{set_values}
use Rattle.command_line.proofs.TakenWords.{built_folder, built_id, built_slot, built_slotted}

-- ---- the words after the name

module _ (name folder text number : Text) (is_folder : IsValue folder) (is_id : IsValue text)
    (is_slot : IsNumberValue (up_to 255) number) where
  abbrev last : Walk
  last = given (id_rows folder text) (codes "slot") number

  -- the rows of the subcommand
  abbrev rows : List Row
  rows = finished (built_slotted name).rules last.held

  has_set : HasSetRules (built_slotted name)
  has_set = record { first = refl; own_folder = refl; own_id = refl; found = refl; alone = λ folder. refl }

  slot_option : IsOption (built_slotted name) (codes "--slot") (codes "slot") built_slot
  slot_option = record { not_end = refl; is_long = refl; found = refl; own = refl; takes = refl; one_value = λ value. refl }

  goes : Goes (built_slotted name) (walk_from nothing_held) (folder ∷ codes "--id" ∷ text ∷ codes "--slot" ∷ number ∷ []) last
  goes = set_goes (built_slotted name) has_set folder text is_folder is_id _ last
      (option_goes (built_slotted name) built_id refl (used built_folder (folder ∷ []) []) text refl (codes "--slot") (codes "slot") built_slot slot_option
      number is_slot.value [] last (stays (built_slotted name) last))

  ends_well : EndsWell (built_slotted name) last
  unfolding defaults_fault
  ends_well = record { settles = rw is_slot.passes refl; defaults = refl; checks = refl }

-- ---- `fail` and `replace`

module _ (folder text : Text) (slot : ℕ) (is_plain : IsPlainWord folder) (is_id : IsSetText text) (small : slot < 2 ^ 8) where
  abbrev v : IsValue folder
  v = value_from_first folder is_plain

  abbrev t : IsValue text
  t = value_from_first text (plain_choice text is_id)

  abbrev k : IsNumberValue (up_to 255) (decimal slot)
  k = decimal_value 255 slot (omega (arith, small)) (omega arith)

  abbrev slot_words : List Text
  slot_words = folder ∷ codes "--id" ∷ text ∷ codes "--slot" ∷ decimal slot ∷ []

  -- their rows
  abbrev slot_rows : Text → List Row
  slot_rows name = rows name folder text (decimal slot) v t k

  slot_is : (name : Text) → HasNumber (slot_rows name) (codes "slot") slot
  slot_is name = (decimal slot, refl, decimal_spells slot (omega (arith, small)))

  slot_enters : (name : Text) → StopsAt (built_slotted name) slot_words → Enters (name ∷ slot_words) name (slot_rows name)
  slot_enters name stops =
      sub_enters (built_slotted name) slot_words (last name folder text (decimal slot) v t k) stops (goes name folder text (decimal slot) v t k)
      (ends_well name folder text (decimal slot) v t k)

  fail_stops : StopsAt (built_slotted (codes "fail")) slot_words
  unfolding walked walk_fault
  fail_stops = record { walk_is = refl; no_fault = refl; found = refl }

  fail_enters : Enters (words_of (FailOf folder text slot)) (codes "fail") (slot_rows (codes "fail"))
  fail_enters = slot_enters (codes "fail") fail_stops

  -- all that they say
  fail_says : (choice : SetChoice) (line : Invocation) → SaysInvocation (codes "fail") (slot_rows (codes "fail")) choice line
      → IsLineOf (FailOf folder text slot) choice line
  fail_says choice (Fail f id n) h =
      let set = set_values (codes "fail") (slot_rows (codes "fail")) f.now folder text choice id h.1 refl refl in
      (set.0, set.1, one_number (slot_rows (codes "fail")) (codes "slot") n slot h.2 (slot_is (codes "fail")))
  fail_says choice (ChangeVolumes f id change) h = absurd (no_change (codes "fail") (slot_rows (codes "fail")) change refl refl refl refl refl h.1)
  fail_says choice line h = absurd (other_invocation (codes "fail") (slot_rows (codes "fail")) choice line refl h)

  replace_stops : StopsAt (built_slotted (codes "replace")) slot_words
  unfolding walked walk_fault
  replace_stops = record { walk_is = refl; no_fault = refl; found = refl }

  replace_enters : Enters (words_of (ReplaceOf folder text slot)) (codes "replace") (slot_rows (codes "replace"))
  replace_enters = slot_enters (codes "replace") replace_stops

  -- all that they say
  replace_says : (choice : SetChoice) (line : Invocation) → SaysInvocation (codes "replace") (slot_rows (codes "replace")) choice line
      → IsLineOf (ReplaceOf folder text slot) choice line
  replace_says choice (Replace f id n) h =
      let set = set_values (codes "replace") (slot_rows (codes "replace")) f.now folder text choice id h.1 refl refl in
      (set.0, set.1, one_number (slot_rows (codes "replace")) (codes "slot") n slot h.2 (slot_is (codes "replace")))
  replace_says choice (ChangeVolumes f id change) h = absurd (no_change (codes "replace") (slot_rows (codes "replace")) change refl refl refl refl refl h.1)
  replace_says choice line h = absurd (other_invocation (codes "replace") (slot_rows (codes "replace")) choice line refl h)

-- what clap makes of each of them
pub reads_fail : (folder text : Text) (slot : ℕ) → IsPlainSet folder text → slot < 2 ^ 8 → Reads (FailOf folder text slot)
reads_fail folder text slot is small = record {
  name = codes "fail";
  rows = slot_rows folder text slot is.0 is.1 small (codes "fail");
  enters = fail_enters folder text slot is.0 is.1 small;
  good =
      no_fault_in (codes "fail") (slot_rows folder text slot is.0 is.1 small (codes "fail")) refl refl refl
      (no_bad (codes "fail") (slot_rows folder text slot is.0 is.1 small (codes "fail")) text refl (set_choice (codes "fail") text refl is.1));
  says = fail_says folder text slot is.0 is.1 small;
}

pub reads_replace : (folder text : Text) (slot : ℕ) → IsPlainSet folder text → slot < 2 ^ 8 → Reads (ReplaceOf folder text slot)
reads_replace folder text slot is small = record {
  name = codes "replace";
  rows = slot_rows folder text slot is.0 is.1 small (codes "replace");
  enters = replace_enters folder text slot is.0 is.1 small;
  good =
      no_fault_in (codes "replace") (slot_rows folder text slot is.0 is.1 small (codes "replace")) refl refl refl
      (no_bad (codes "replace") (slot_rows folder text slot is.0 is.1 small (codes "replace")) text refl (set_choice (codes "replace") text refl is.1));
  says = replace_says folder text slot is.0 is.1 small;
}
