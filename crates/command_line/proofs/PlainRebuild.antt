-- What clap makes of the words `rebuild FOLDER --id H` and `rebuild FOLDER --id H --steps T`.
use Rattle.std.proofs.Common.{ℕ, refl, List, [], ◌∷◌, Option, Some, None, codes}
use Rattle.std.specs.Prelude.{decimal}
use Rattle.clap.specs.Faults.{defaults_fault, walk_fault}
use Rattle.clap.specs.Walk.{Row, Text, Walk, finished, nothing_held, used, walk_from, walked}
use Rattle.command_line.specs.declared.Invocation.{Invocation}
use Rattle.command_line.specs.declared.SetChoice.{SetChoice}
use Rattle.command_line.specs.declared.Invocation.TheVariants.{Change as ChangeVolumes, Rebuild}
use Rattle.command_line.specs.Commands.{from_one}
use Rattle.command_line.specs.Invocations.{Enters, HasCount, SaysInvocation}
use Rattle.command_line.specs.Requests.{AreSteps, IsLineOf, IsPlainSet, RebuildOf}
use Rattle.command_line.proofs.Answering.{Reads, no_bad, no_fault_in}
use Rattle.command_line.proofs.OneAsked.{no_change, one_count, other_invocation}
use Rattle.command_line.proofs.PlainNumbers.{IsNumberValue, decimal_count, decimal_spells}
use Rattle.command_line.proofs.PlainSteps.{IsValue, given, plain_choice, set_choice, value_from_first}
use Rattle.command_line.proofs.PlainWalks.{EndsWell, Goes, HasSetRules, IsOption, StopsAt, id_given, id_rows, option_goes, set_goes, stays, sub_enters}
use Rattle.command_line.proofs.PlainWords.{set_values}
use Rattle.command_line.proofs.TakenWords.{built_folder, built_id, built_rebuild, built_steps}

module _ (folder text : Text) (is_folder : IsValue folder) (is_id : IsValue text) where
  -- the words after the name
  abbrev short_words : List Text
  short_words = folder ∷ codes "--id" ∷ text ∷ []

  has_set : HasSetRules built_rebuild
  has_set = record { first = refl; own_folder = refl; own_id = refl; found = refl; alone = λ folder. refl }

  -- ---- without `--steps`

  short_goes : Goes built_rebuild (walk_from nothing_held) short_words (id_given folder text)
  short_goes = set_goes built_rebuild has_set folder text is_folder is_id [] (id_given folder text) (stays built_rebuild (id_given folder text))

  short_well : EndsWell built_rebuild (id_given folder text)
  unfolding defaults_fault
  short_well = record { settles = refl; defaults = refl; checks = refl }

  short_stops : StopsAt built_rebuild short_words
  unfolding walked walk_fault
  short_stops = record { walk_is = refl; no_fault = refl; found = refl }

  -- the rows of `rebuild` then
  abbrev short_rows : List Row
  short_rows = finished built_rebuild.rules (id_given folder text).held

  short_enters : Enters (codes "rebuild" ∷ short_words) (codes "rebuild") short_rows
  short_enters = sub_enters built_rebuild short_words (id_given folder text) short_stops short_goes short_well

  -- all that they say
  short_says : (choice : SetChoice) (line : Invocation) → SaysInvocation (codes "rebuild") short_rows choice line
      → IsLineOf (RebuildOf folder text None) choice line
  short_says choice (Rebuild f id steps) h =
      let set = set_values (codes "rebuild") short_rows f.now folder text choice id h.1 refl refl in
      (set.0, set.1, one_count short_rows (codes "steps") steps None h.2 refl)
  short_says choice (ChangeVolumes f id change) h = absurd (no_change (codes "rebuild") short_rows change refl refl refl refl refl h.1)
  short_says choice line h = absurd (other_invocation (codes "rebuild") short_rows choice line refl h)

  -- ---- with `--steps`

  module _ (number : Text) (is_steps : IsNumberValue from_one number) where
    abbrev last : Walk
    last = given (id_rows folder text) (codes "steps") number

    abbrev long_words : List Text
    long_words = folder ∷ codes "--id" ∷ text ∷ codes "--steps" ∷ number ∷ []

    steps_option : IsOption built_rebuild (codes "--steps") (codes "steps") built_steps
    steps_option = record { not_end = refl; is_long = refl; found = refl; own = refl; takes = refl; one_value = λ value. refl }

    long_goes : Goes built_rebuild (walk_from nothing_held) long_words last
    long_goes = set_goes built_rebuild has_set folder text is_folder is_id _ last
        (option_goes built_rebuild built_id refl (used built_folder (folder ∷ []) []) text refl (codes "--steps") (codes "steps") built_steps steps_option
        number is_steps.value [] last (stays built_rebuild last))

    long_well : EndsWell built_rebuild last
    unfolding defaults_fault
    long_well = record { settles = rw is_steps.passes refl; defaults = refl; checks = refl }

    long_stops : StopsAt built_rebuild long_words
    unfolding walked walk_fault
    long_stops = record { walk_is = refl; no_fault = refl; found = refl }

    -- the rows of `rebuild` then
    abbrev long_rows : List Row
    long_rows = finished built_rebuild.rules last.held

    long_enters : Enters (codes "rebuild" ∷ long_words) (codes "rebuild") long_rows
    long_enters = sub_enters built_rebuild long_words last long_stops long_goes long_well

    -- all that they say
    long_says : (steps : ℕ) → HasCount long_rows (codes "steps") (Some steps) → (choice : SetChoice) (line : Invocation)
        → SaysInvocation (codes "rebuild") long_rows choice line → IsLineOf (RebuildOf folder text (Some steps)) choice line
    long_says steps is choice (Rebuild f id t) h =
        let set = set_values (codes "rebuild") long_rows f.now folder text choice id h.1 refl refl in
        (set.0, set.1, one_count long_rows (codes "steps") t (Some steps) h.2 is)
    long_says steps is choice (ChangeVolumes f id change) h = absurd (no_change (codes "rebuild") long_rows change refl refl refl refl refl h.1)
    long_says steps is choice line h = absurd (other_invocation (codes "rebuild") long_rows choice line refl h)

-- what clap makes of them
pub reads_rebuild : (folder text : Text) (steps : Option ℕ) → IsPlainSet folder text → AreSteps steps
    → Reads (RebuildOf folder text steps)
reads_rebuild folder text None is are =
    let v = value_from_first folder is.0 in
    let t = value_from_first text (plain_choice text is.1) in
    record {
      name = codes "rebuild";
      rows = short_rows folder text v t;
      enters = short_enters folder text v t;
      good =
          no_fault_in (codes "rebuild") (short_rows folder text v t) refl refl refl
          (no_bad (codes "rebuild") (short_rows folder text v t) text refl (set_choice (codes "rebuild") text refl is.1));
      says = short_says folder text v t;
    }
reads_rebuild folder text (Some steps) is are =
    let v = value_from_first folder is.0 in
    let t = value_from_first text (plain_choice text is.1) in
    let n = decimal_count steps are.0 are.1 in
    record {
      name = codes "rebuild";
      rows = long_rows folder text v t (decimal steps) n;
      enters = long_enters folder text v t (decimal steps) n;
      good =
          no_fault_in (codes "rebuild") (long_rows folder text v t (decimal steps) n) refl refl refl
          (no_bad (codes "rebuild") (long_rows folder text v t (decimal steps) n) text refl (set_choice (codes "rebuild") text refl is.1));
      says = long_says folder text v t (decimal steps) n steps ((decimal steps, refl, decimal_spells steps are.1), are.0);
    }
