-- What clap makes of the words `status FOLDER --id H`, after which `--json` and `--check` may stand.
use Rattle.std.proofs.Common.{◌≡◌, refl, Bool, true, false, List, [], ◌∷◌, Some, codes}
use Rattle.clap.specs.Faults.{defaults_fault, walk_fault}
use Rattle.clap.specs.Walk.{Row, Text, Walk, finished, first_of, nothing_held, used, walk_from, walked}
use Rattle.command_line.specs.declared.Invocation.{Invocation}
use Rattle.command_line.specs.declared.SetChoice.{SetChoice}
use Rattle.command_line.specs.declared.Invocation.TheVariants.{Change as ChangeVolumes, Status}
use Rattle.command_line.specs.Invocations.{Enters, HasFlag, SaysInvocation}
use Rattle.command_line.specs.Requests.{IsLineOf, IsPlainSet, StatusOf, flag_words, words_of}
use Rattle.command_line.proofs.Answering.{Reads, no_bad, no_fault_in}
use Rattle.command_line.proofs.OneAsked.{no_change, one_flag, other_invocation}
use Rattle.command_line.proofs.PlainSteps.{IsName, IsValue, flagged, plain_choice, set_choice, value_from_first}
use Rattle.command_line.proofs.PlainWalks.{EndsWell, Goes, HasSetRules, StopsAt, flag_goes, flags_go, id_given, id_rows, set_goes, stays, sub_enters}
use Rattle.command_line.proofs.PlainWords.{set_values}
use Rattle.command_line.proofs.TakenWords.{built_check, built_folder, built_id, built_json, built_status}

-- the words after the name
abbrev rest : Text → Text → (json check : Bool) → List Text
rest folder text json check = folder ∷ codes "--id" ∷ text ∷ flag_words json check

-- where the walk over them ends
abbrev last : Text → Text → (json check : Bool) → Walk
last folder text false false = id_given folder text
last folder text true false = flagged (used built_json [] (id_rows folder text))
last folder text false true = flagged (used built_check [] (id_rows folder text))
last folder text true true = flagged (used built_check [] (used built_json [] (id_rows folder text)))

json_is : IsName built_status (codes "--json") (codes "json") built_json
json_is = record { not_end = refl; is_long = refl; found = refl }

check_is : IsName built_status (codes "--check") (codes "check") built_check
check_is = record { not_end = refl; is_long = refl; found = refl }

module _ (folder text : Text) (is_folder : IsValue folder) (is_id : IsValue text) where
  has_set : HasSetRules built_status
  has_set = record { first = refl; own_folder = refl; own_id = refl; found = refl; alone = λ folder. refl }

  flags_goes : (json check : Bool) → Goes built_status (id_given folder text) (flag_words json check) (last folder text json check)
  flags_goes false false = stays built_status (id_given folder text)
  flags_goes true false =
      flag_goes built_status built_id refl (used built_folder (folder ∷ []) []) text refl (codes "--json") (codes "json") built_json json_is refl refl
  flags_goes false true =
      flag_goes built_status built_id refl (used built_folder (folder ∷ []) []) text refl (codes "--check") (codes "check") built_check check_is refl refl
  flags_goes true true =
      flags_go built_status built_id refl (used built_folder (folder ∷ []) []) text refl (codes "--json") (codes "json") built_json json_is refl refl
      (codes "--check") (codes "check") built_check check_is refl refl

  goes : (json check : Bool) → Goes built_status (walk_from nothing_held) (rest folder text json check) (last folder text json check)
  goes json check =
      set_goes built_status has_set folder text is_folder is_id (flag_words json check) (last folder text json check) (flags_goes json check)

  well : (json check : Bool) → EndsWell built_status (last folder text json check)
  unfolding defaults_fault
  well false false = record { settles = refl; defaults = refl; checks = refl }
  well true false = record { settles = refl; defaults = refl; checks = refl }
  well false true = record { settles = refl; defaults = refl; checks = refl }
  well true true = record { settles = refl; defaults = refl; checks = refl }

  stops : (json check : Bool) → StopsAt built_status (rest folder text json check)
  unfolding walked walk_fault
  stops false false = record { walk_is = refl; no_fault = refl; found = refl }
  stops true false = record { walk_is = refl; no_fault = refl; found = refl }
  stops false true = record { walk_is = refl; no_fault = refl; found = refl }
  stops true true = record { walk_is = refl; no_fault = refl; found = refl }

  -- the rows of `status`
  abbrev rows : (json check : Bool) → List Row
  rows json check = finished built_status.rules (last folder text json check).held

  plain_enters : (json check : Bool) → Enters (words_of (StatusOf folder text json check)) (codes "status") (rows json check)
  plain_enters json check =
      sub_enters built_status (rest folder text json check) (last folder text json check) (stops json check) (goes json check) (well json check)

  has_folder : (json check : Bool) → first_of (codes "folder") (rows json check) ≡ Some folder
  has_folder false false = refl
  has_folder true false = refl
  has_folder false true = refl
  has_folder true true = refl

  has_id : (json check : Bool) → first_of (codes "id") (rows json check) ≡ Some text
  has_id false false = refl
  has_id true false = refl
  has_id false true = refl
  has_id true true = refl

  has_json : (json check : Bool) → HasFlag (rows json check) (codes "json") json
  has_json false false = refl
  has_json true false = refl
  has_json false true = refl
  has_json true true = refl

  has_check : (json check : Bool) → HasFlag (rows json check) (codes "check") check
  has_check false false = refl
  has_check true false = refl
  has_check false true = refl
  has_check true true = refl

  -- all that they say
  plain_says : (json check : Bool) (choice : SetChoice) (line : Invocation) → SaysInvocation (codes "status") (rows json check) choice line
      → IsLineOf (StatusOf folder text json check) choice line
  plain_says json check choice (Status f id as_json as_check) h =
      let set = set_values (codes "status") (rows json check) f.now folder text choice id h.1 (has_folder json check) (has_id json check) in (
        set.0,
        set.1,
        one_flag (rows json check) (codes "json") as_json json h.2 (has_json json check),
        one_flag (rows json check) (codes "check") as_check check h.3 (has_check json check),
      )
  plain_says json check choice (ChangeVolumes f id change) h = absurd (no_change (codes "status") (rows json check) change refl refl refl refl refl h.1)
  plain_says json check choice line h = absurd (other_invocation (codes "status") (rows json check) choice line refl h)

-- what clap makes of them
pub reads_status : (folder text : Text) (json check : Bool) → IsPlainSet folder text → Reads (StatusOf folder text json check)
reads_status folder text json check is =
    let v = value_from_first folder is.0 in
    let t = value_from_first text (plain_choice text is.1) in
    record {
      name = codes "status";
      rows = rows folder text v t json check;
      enters = plain_enters folder text v t json check;
      good =
          no_fault_in (codes "status") (rows folder text v t json check) refl refl refl
          (no_bad (codes "status") (rows folder text v t json check) text (has_id folder text v t json check) (set_choice (codes "status") text refl is.1));
      says = plain_says folder text v t json check;
    }
