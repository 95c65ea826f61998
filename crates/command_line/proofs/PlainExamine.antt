-- What clap makes of the words `examine FOLDER`, after which `--id H`, `--json` and `--check` may stand.
use Rattle.std.proofs.Common.{◌≡◌, ◌∙◌, refl, sym, Bool, true, false, List, [], ◌∷◌, ◌++◌, Option, Some, None, codes}
use Rattle.std.specs.Prelude.{IfSome}
use Rattle.clap.specs.Faults.{defaults_fault, walk_fault}
use Rattle.clap.specs.Walk.{Row, Text, Walk, finished, first_of, nothing_held, used, walk_from, walked}
use Rattle.command_line.specs.declared.Invocation.{Invocation}
use Rattle.command_line.specs.declared.SetChoice.{SetChoice}
use Rattle.command_line.specs.declared.Invocation.TheVariants.{Change as ChangeVolumes, Examine}
use Rattle.command_line.specs.Invocations.{Chooses, Enters, HasBadId, HasFlag, SaysInvocation}
use Rattle.command_line.specs.Requests.{ExamineOf, IsLineOf, IsPlainWord, IsSetText, flag_words, id_words, words_of}
use Rattle.command_line.proofs.Answering.{Reads, no_bad, no_fault_in}
use Rattle.command_line.proofs.OneAsked.{no_change, one_flag, other_invocation, same_text}
use Rattle.command_line.proofs.PlainSteps.{IsName, IsValue, flagged, given, plain_choice, set_choice, value_from_first}
use Rattle.command_line.proofs.PlainWalks.{EndsWell, Goes, IsOption, StopsAt, flag_goes, flags_go, folder_goes, option_goes, stays, sub_enters}
use Rattle.command_line.proofs.TakenWords.{built_check, built_examine, built_folder, built_json, built_some_id}

-- the words after the name
abbrev rest : Text → Option Text → (json check : Bool) → List Text
rest folder id json check = folder ∷ (id_words id ++ flag_words json check)

-- the rows after FOLDER
abbrev folder_rows : Text → List Row
folder_rows folder = used built_folder (folder ∷ []) []

-- where the walk over them ends
abbrev last : Text → Option Text → (json check : Bool) → Walk
last folder None false false = given [] (codes "folder") folder
last folder None true false = flagged (used built_json [] (folder_rows folder))
last folder None false true = flagged (used built_check [] (folder_rows folder))
last folder None true true = flagged (used built_check [] (used built_json [] (folder_rows folder)))
last folder (Some text) false false = given (folder_rows folder) (codes "id") text
last folder (Some text) true false = flagged (used built_json [] (used built_some_id (text ∷ []) (folder_rows folder)))
last folder (Some text) false true = flagged (used built_check [] (used built_some_id (text ∷ []) (folder_rows folder)))
last folder (Some text) true true = flagged (used built_check [] (used built_json [] (used built_some_id (text ∷ []) (folder_rows folder))))

id_option : IsOption built_examine (codes "--id") (codes "id") built_some_id
id_option = record { not_end = refl; is_long = refl; found = refl; own = refl; takes = refl; one_value = λ value. refl }

json_is : IsName built_examine (codes "--json") (codes "json") built_json
json_is = record { not_end = refl; is_long = refl; found = refl }

check_is : IsName built_examine (codes "--check") (codes "check") built_check
check_is = record { not_end = refl; is_long = refl; found = refl }

module _ (folder : Text) (is_folder : IsValue folder) where
  bare_goes : (json check : Bool) → Goes built_examine (given [] (codes "folder") folder) (flag_words json check) (last folder None json check)
  bare_goes false false = stays built_examine (last folder None false false)
  bare_goes true false = flag_goes built_examine built_folder refl [] folder refl (codes "--json") (codes "json") built_json json_is refl refl
  bare_goes false true = flag_goes built_examine built_folder refl [] folder refl (codes "--check") (codes "check") built_check check_is refl refl
  bare_goes true true =
      flags_go built_examine built_folder refl [] folder refl (codes "--json") (codes "json") built_json json_is refl refl
      (codes "--check") (codes "check") built_check check_is refl refl

  id_goes : (text : Text) (json check : Bool)
      → Goes built_examine (given (folder_rows folder) (codes "id") text) (flag_words json check) (last folder (Some text) json check)
  id_goes text false false = stays built_examine (last folder (Some text) false false)
  id_goes text true false =
      flag_goes built_examine built_some_id refl (folder_rows folder) text refl (codes "--json") (codes "json") built_json json_is refl refl
  id_goes text false true =
      flag_goes built_examine built_some_id refl (folder_rows folder) text refl (codes "--check") (codes "check") built_check check_is refl refl
  id_goes text true true =
      flags_go built_examine built_some_id refl (folder_rows folder) text refl (codes "--json") (codes "json") built_json json_is refl refl
      (codes "--check") (codes "check") built_check check_is refl refl

  goes : (id : Option Text) (json check : Bool) → IfSome id IsValue
      → Goes built_examine (walk_from nothing_held) (rest folder id json check) (last folder id json check)
  goes None json check is_id = folder_goes built_examine refl folder is_folder _ (last folder None json check) (bare_goes json check)
  goes (Some text) json check is_id =
      folder_goes built_examine refl folder is_folder _ (last folder (Some text) json check)
      (option_goes built_examine built_folder refl [] folder refl (codes "--id") (codes "id") built_some_id id_option text is_id _
      (last folder (Some text) json check) (id_goes text json check))

  well : (id : Option Text) (json check : Bool) → EndsWell built_examine (last folder id json check)
  unfolding defaults_fault
  well None false false = record { settles = refl; defaults = refl; checks = refl }
  well None false true = record { settles = refl; defaults = refl; checks = refl }
  well None true false = record { settles = refl; defaults = refl; checks = refl }
  well None true true = record { settles = refl; defaults = refl; checks = refl }
  well (Some text) false false = record { settles = refl; defaults = refl; checks = refl }
  well (Some text) false true = record { settles = refl; defaults = refl; checks = refl }
  well (Some text) true false = record { settles = refl; defaults = refl; checks = refl }
  well (Some text) true true = record { settles = refl; defaults = refl; checks = refl }

  stops : (id : Option Text) (json check : Bool) → StopsAt built_examine (rest folder id json check)
  unfolding walked walk_fault
  stops None false false = record { walk_is = refl; no_fault = refl; found = refl }
  stops None false true = record { walk_is = refl; no_fault = refl; found = refl }
  stops None true false = record { walk_is = refl; no_fault = refl; found = refl }
  stops None true true = record { walk_is = refl; no_fault = refl; found = refl }
  stops (Some text) false false = record { walk_is = refl; no_fault = refl; found = refl }
  stops (Some text) false true = record { walk_is = refl; no_fault = refl; found = refl }
  stops (Some text) true false = record { walk_is = refl; no_fault = refl; found = refl }
  stops (Some text) true true = record { walk_is = refl; no_fault = refl; found = refl }

  -- the rows of `examine`
  abbrev rows : Option Text → (json check : Bool) → List Row
  rows id json check = finished built_examine.rules (last folder id json check).held

  enters : (id : Option Text) (json check : Bool) → IfSome id IsValue
      → Enters (words_of (ExamineOf folder id json check)) (codes "examine") (rows id json check)
  enters id json check is_id =
      sub_enters built_examine (rest folder id json check) (last folder id json check) (stops id json check) (goes id json check is_id) (well id json check)

  has_folder : (id : Option Text) (json check : Bool) → first_of (codes "folder") (rows id json check) ≡ Some folder
  has_folder None false false = refl
  has_folder None false true = refl
  has_folder None true false = refl
  has_folder None true true = refl
  has_folder (Some text) false false = refl
  has_folder (Some text) false true = refl
  has_folder (Some text) true false = refl
  has_folder (Some text) true true = refl

  has_id : (id : Option Text) (json check : Bool) → first_of (codes "id") (rows id json check) ≡ id
  has_id None false false = refl
  has_id None false true = refl
  has_id None true false = refl
  has_id None true true = refl
  has_id (Some text) false false = refl
  has_id (Some text) false true = refl
  has_id (Some text) true false = refl
  has_id (Some text) true true = refl

  has_json : (id : Option Text) (json check : Bool) → HasFlag (rows id json check) (codes "json") json
  has_json None false false = refl
  has_json None false true = refl
  has_json None true false = refl
  has_json None true true = refl
  has_json (Some text) false false = refl
  has_json (Some text) false true = refl
  has_json (Some text) true false = refl
  has_json (Some text) true true = refl

  has_check : (id : Option Text) (json check : Bool) → HasFlag (rows id json check) (codes "check") check
  has_check None false false = refl
  has_check None false true = refl
  has_check None true false = refl
  has_check None true true = refl
  has_check (Some text) false false = refl
  has_check (Some text) false true = refl
  has_check (Some text) true false = refl
  has_check (Some text) true true = refl

  -- the id is no bad one
  good : (id : Option Text) (json check : Bool) → IfSome id IsSetText → ¬ HasBadId (codes "examine") (rows id json check)
  good None json check is_id bad =
      let both : None ≡ Some bad.0 = sym (has_id None json check) ∙ bad.1 in
      cc
  good (Some text) json check is_id bad =
      no_bad (codes "examine") (rows (Some text) json check) text (has_id (Some text) json check) (set_choice (codes "examine") text refl is_id) bad

  -- all that they say
  says : (id : Option Text) (json check : Bool) (choice : SetChoice) (line : Invocation) → SaysInvocation (codes "examine") (rows id json check) choice line
      → IsLineOf (ExamineOf folder id json check) choice line
  says None json check choice (Examine f None as_json as_check) h = (
    same_text f.now folder (sym h.1 ∙ has_folder None json check),
    h.2.1,
    one_flag (rows None json check) (codes "json") as_json json h.3 (has_json None json check),
    one_flag (rows None json check) (codes "check") as_check check h.4 (has_check None json check),
  )
  says None json check choice (Examine f (Some id) as_json as_check) h =
      let both : None ≡ Some h.2.0 = sym (has_id None json check) ∙ h.2.1 in
      cc
  says (Some text) json check choice (Examine f None as_json as_check) h =
      let both : None ≡ Some text = sym h.2.0 ∙ has_id (Some text) json check in
      cc
  says (Some text) json check choice (Examine f (Some id) as_json as_check) h =
      let same : text ≡ h.2.0 = same_text text h.2.0 (sym (has_id (Some text) json check) ∙ h.2.1) in
      let chosen : Chooses (codes "examine") text choice id = rw same h.2.2 in (
        same_text f.now folder (sym h.1 ∙ has_folder (Some text) json check),
        chosen,
        one_flag (rows (Some text) json check) (codes "json") as_json json h.3 (has_json (Some text) json check),
        one_flag (rows (Some text) json check) (codes "check") as_check check h.4 (has_check (Some text) json check),
      )
  says id json check choice (ChangeVolumes f set change) h = absurd (no_change (codes "examine") (rows id json check) change refl refl refl refl refl h.1)
  says id json check choice line h = absurd (other_invocation (codes "examine") (rows id json check) choice line refl h)

values : (id : Option Text) → IfSome id IsSetText → IfSome id IsValue
values None is_id = tt
values (Some text) is_id = value_from_first text (plain_choice text is_id)

-- what clap makes of them
pub reads_examine : (folder : Text) (id : Option Text) (json check : Bool) → IsPlainWord folder → IfSome id IsSetText → Reads (ExamineOf folder id json check)
reads_examine folder id json check is_plain is_id =
    let v = value_from_first folder is_plain in
    record {
      name = codes "examine";
      rows = rows folder v id json check;
      enters = enters folder v id json check (values id is_id);
      good = no_fault_in (codes "examine") (rows folder v id json check) refl refl refl (good folder v id json check is_id);
      says = says folder v id json check;
    }
