-- What clap makes of the words `run FOLDER --id H`, and of `serve`, `scrub`, `upgrade` and `list` likewise.
use Rattle.std.proofs.Common.{◌≡◌, ◌∙◌, refl, sym, ℕ, List, [], ◌∷◌, Some, codes}
use Rattle.clap.specs.Faults.{defaults_fault, walk_fault}
use Rattle.clap.specs.Walk.{Row, Text, finished, first_of, nothing_held, walk_from, walked}
use Rattle.command_line.specs.declared.Change.TheVariants as change
use Rattle.command_line.specs.declared.Invocation.{Invocation}
use Rattle.command_line.specs.declared.Invocation.TheVariants.{Run, Scrub, Serve, Upgrade, Change as ChangeVolumes}
use Rattle.command_line.specs.declared.SetChoice.{SetChoice}
use Rattle.command_line.specs.Invocations.{Chooses, Enters, NamesSet, SaysInvocation}
use Rattle.command_line.specs.Requests.{IsLineOf, IsPlainSet, ListOf, RunOf, ScrubOf, ServeOf, UpgradeOf, words_of}
use Rattle.command_line.proofs.Answering.{Reads, no_bad, no_fault_in}
use Rattle.command_line.proofs.OneAsked.{no_change, other_change, other_invocation, same_text}
use Rattle.command_line.proofs.PlainSteps.{IsValue, plain_choice, set_choice, value_from_first}
use Rattle.command_line.proofs.PlainWalks.{EndsWell, Goes, HasSetRules, StopsAt, id_given, set_goes, stays, sub_enters}
use Rattle.command_line.proofs.TakenWords.{built_set}

-- the set that rows name, by their values
pub set_values : (name : Text) (rows : List Row) (f folder text : Text) (choice : SetChoice) (id : List ℕ) → NamesSet name rows f choice id
    → first_of (codes "folder") rows ≡ Some folder → first_of (codes "id") rows ≡ Some text → (f ≡ folder) × Chooses name text choice id
set_values name rows f folder text choice id h is_folder is_text =
    let same : text ≡ h.text = same_text text h.text (sym is_text ∙ h.id_value) in
    (same_text f folder (sym h.folder_value ∙ is_folder), rw same h.chosen)

-- ---- the words after the name

module _ (name folder text : Text) (is_folder : IsValue folder) (is_id : IsValue text) where
  abbrev rest_words : List Text
  rest_words = folder ∷ codes "--id" ∷ text ∷ []

  -- the rows of the subcommand
  abbrev rows : List Row
  rows = finished (built_set name).rules (id_given folder text).held

  has_set : HasSetRules (built_set name)
  has_set = record { first = refl; own_folder = refl; own_id = refl; found = refl; alone = λ folder. refl }

  goes : Goes (built_set name) (walk_from nothing_held) rest_words (id_given folder text)
  goes = set_goes (built_set name) has_set folder text is_folder is_id [] (id_given folder text) (stays (built_set name) (id_given folder text))

  ends_well : EndsWell (built_set name) (id_given folder text)
  unfolding defaults_fault
  ends_well = record { settles = refl; defaults = refl; checks = refl }

-- ---- `run`, `serve`, `scrub`, `upgrade` and `list`

module _ (folder text : Text) (is_folder : IsValue folder) (is_id : IsValue text) where
  abbrev rows_of : Text → List Row
  rows_of name = rows name folder text is_folder is_id

  run_stops : StopsAt (built_set (codes "run")) (folder ∷ codes "--id" ∷ text ∷ [])
  unfolding walked walk_fault
  run_stops = record { walk_is = refl; no_fault = refl; found = refl }

  run_enters : Enters (words_of (RunOf folder text)) (codes "run") (rows_of (codes "run"))
  run_enters =
      sub_enters (built_set (codes "run")) _ (id_given folder text) run_stops (goes (codes "run") folder text is_folder is_id)
      (ends_well (codes "run") folder text is_folder is_id)

  -- all that they say
  run_says : (choice : SetChoice) (line : Invocation) → SaysInvocation (codes "run") (rows_of (codes "run")) choice line
      → IsLineOf (RunOf folder text) choice line
  run_says choice (Run f id) h = set_values (codes "run") (rows_of (codes "run")) f.now folder text choice id h.1 refl refl
  run_says choice (ChangeVolumes f id change) h = absurd (no_change (codes "run") (rows_of (codes "run")) change refl refl refl refl refl h.1)
  run_says choice line h = absurd (other_invocation (codes "run") (rows_of (codes "run")) choice line refl h)

  serve_stops : StopsAt (built_set (codes "serve")) (folder ∷ codes "--id" ∷ text ∷ [])
  unfolding walked walk_fault
  serve_stops = record { walk_is = refl; no_fault = refl; found = refl }

  serve_enters : Enters (words_of (ServeOf folder text)) (codes "serve") (rows_of (codes "serve"))
  serve_enters =
      sub_enters (built_set (codes "serve")) _ (id_given folder text) serve_stops (goes (codes "serve") folder text is_folder is_id)
      (ends_well (codes "serve") folder text is_folder is_id)

  -- all that they say
  serve_says : (choice : SetChoice) (line : Invocation) → SaysInvocation (codes "serve") (rows_of (codes "serve")) choice line
      → IsLineOf (ServeOf folder text) choice line
  serve_says choice (Serve f id) h = set_values (codes "serve") (rows_of (codes "serve")) f.now folder text choice id h.1 refl refl
  serve_says choice (ChangeVolumes f id change) h = absurd (no_change (codes "serve") (rows_of (codes "serve")) change refl refl refl refl refl h.1)
  serve_says choice line h = absurd (other_invocation (codes "serve") (rows_of (codes "serve")) choice line refl h)

  scrub_stops : StopsAt (built_set (codes "scrub")) (folder ∷ codes "--id" ∷ text ∷ [])
  unfolding walked walk_fault
  scrub_stops = record { walk_is = refl; no_fault = refl; found = refl }

  scrub_enters : Enters (words_of (ScrubOf folder text)) (codes "scrub") (rows_of (codes "scrub"))
  scrub_enters =
      sub_enters (built_set (codes "scrub")) _ (id_given folder text) scrub_stops (goes (codes "scrub") folder text is_folder is_id)
      (ends_well (codes "scrub") folder text is_folder is_id)

  -- all that they say
  scrub_says : (choice : SetChoice) (line : Invocation) → SaysInvocation (codes "scrub") (rows_of (codes "scrub")) choice line
      → IsLineOf (ScrubOf folder text) choice line
  scrub_says choice (Scrub f id) h = set_values (codes "scrub") (rows_of (codes "scrub")) f.now folder text choice id h.1 refl refl
  scrub_says choice (ChangeVolumes f id change) h = absurd (no_change (codes "scrub") (rows_of (codes "scrub")) change refl refl refl refl refl h.1)
  scrub_says choice line h = absurd (other_invocation (codes "scrub") (rows_of (codes "scrub")) choice line refl h)

  upgrade_stops : StopsAt (built_set (codes "upgrade")) (folder ∷ codes "--id" ∷ text ∷ [])
  unfolding walked walk_fault
  upgrade_stops = record { walk_is = refl; no_fault = refl; found = refl }

  upgrade_enters : Enters (words_of (UpgradeOf folder text)) (codes "upgrade") (rows_of (codes "upgrade"))
  upgrade_enters =
      sub_enters (built_set (codes "upgrade")) _ (id_given folder text) upgrade_stops (goes (codes "upgrade") folder text is_folder is_id)
      (ends_well (codes "upgrade") folder text is_folder is_id)

  -- all that they say
  upgrade_says : (choice : SetChoice) (line : Invocation) → SaysInvocation (codes "upgrade") (rows_of (codes "upgrade")) choice line
      → IsLineOf (UpgradeOf folder text) choice line
  upgrade_says choice (Upgrade f id) h = set_values (codes "upgrade") (rows_of (codes "upgrade")) f.now folder text choice id h.1 refl refl
  upgrade_says choice (ChangeVolumes f id change) h = absurd (no_change (codes "upgrade") (rows_of (codes "upgrade")) change refl refl refl refl refl h.1)
  upgrade_says choice line h = absurd (other_invocation (codes "upgrade") (rows_of (codes "upgrade")) choice line refl h)

  list_stops : StopsAt (built_set (codes "list")) (folder ∷ codes "--id" ∷ text ∷ [])
  unfolding walked walk_fault
  list_stops = record { walk_is = refl; no_fault = refl; found = refl }

  list_enters : Enters (words_of (ListOf folder text)) (codes "list") (rows_of (codes "list"))
  list_enters =
      sub_enters (built_set (codes "list")) _ (id_given folder text) list_stops (goes (codes "list") folder text is_folder is_id)
      (ends_well (codes "list") folder text is_folder is_id)

  -- all that they say
  list_says : (choice : SetChoice) (line : Invocation) → SaysInvocation (codes "list") (rows_of (codes "list")) choice line
      → IsLineOf (ListOf folder text) choice line
  list_says choice (ChangeVolumes f id change.List) h = set_values (codes "list") (rows_of (codes "list")) f.now folder text choice id h.0 refl refl
  list_says choice (ChangeVolumes f id change) h = absurd (other_change (codes "list") (rows_of (codes "list")) change refl h.1)
  list_says choice line h = absurd (other_invocation (codes "list") (rows_of (codes "list")) choice line refl h)

-- what clap makes of each of them
pub reads_run : (folder text : Text) → IsPlainSet folder text → Reads (RunOf folder text)
reads_run folder text is =
    let v = value_from_first folder is.0 in
    let t = value_from_first text (plain_choice text is.1) in
    let rows = rows_of folder text v t (codes "run") in
    record {
      name = codes "run";
      rows = rows;
      enters = run_enters folder text v t;
      good = no_fault_in (codes "run") rows refl refl refl (no_bad (codes "run") rows text refl (set_choice (codes "run") text refl is.1));
      says = run_says folder text v t;
    }

pub reads_serve : (folder text : Text) → IsPlainSet folder text → Reads (ServeOf folder text)
reads_serve folder text is =
    let v = value_from_first folder is.0 in
    let t = value_from_first text (plain_choice text is.1) in
    let rows = rows_of folder text v t (codes "serve") in
    record {
      name = codes "serve";
      rows = rows;
      enters = serve_enters folder text v t;
      good = no_fault_in (codes "serve") rows refl refl refl (no_bad (codes "serve") rows text refl (set_choice (codes "serve") text refl is.1));
      says = serve_says folder text v t;
    }

pub reads_scrub : (folder text : Text) → IsPlainSet folder text → Reads (ScrubOf folder text)
reads_scrub folder text is =
    let v = value_from_first folder is.0 in
    let t = value_from_first text (plain_choice text is.1) in
    let rows = rows_of folder text v t (codes "scrub") in
    record {
      name = codes "scrub";
      rows = rows;
      enters = scrub_enters folder text v t;
      good = no_fault_in (codes "scrub") rows refl refl refl (no_bad (codes "scrub") rows text refl (set_choice (codes "scrub") text refl is.1));
      says = scrub_says folder text v t;
    }

pub reads_upgrade : (folder text : Text) → IsPlainSet folder text → Reads (UpgradeOf folder text)
reads_upgrade folder text is =
    let v = value_from_first folder is.0 in
    let t = value_from_first text (plain_choice text is.1) in
    let rows = rows_of folder text v t (codes "upgrade") in
    record {
      name = codes "upgrade";
      rows = rows;
      enters = upgrade_enters folder text v t;
      good = no_fault_in (codes "upgrade") rows refl refl refl (no_bad (codes "upgrade") rows text refl (set_choice (codes "upgrade") text refl is.1));
      says = upgrade_says folder text v t;
    }

pub reads_list : (folder text : Text) → IsPlainSet folder text → Reads (ListOf folder text)
reads_list folder text is =
    let v = value_from_first folder is.0 in
    let t = value_from_first text (plain_choice text is.1) in
    let rows = rows_of folder text v t (codes "list") in
    record {
      name = codes "list";
      rows = rows;
      enters = list_enters folder text v t;
      good = no_fault_in (codes "list") rows refl refl refl (no_bad (codes "list") rows text refl (set_choice (codes "list") text refl is.1));
      says = list_says folder text v t;
    }
