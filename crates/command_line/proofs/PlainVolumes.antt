-- What clap makes of the words `create FOLDER NAME SIZE --id H`, and of `extend`, `remove` and `rename` likewise.
use Rattle.std.proofs.Common.{arith, refl, sym, subst, ℕ, List, [], ◌∷◌, codes}
use Rattle.clap.specs.Faults.{defaults_fault, walk_fault}
use Rattle.clap.specs.Simple.{Shape}
use Rattle.clap.specs.Walk.{Row, Text, Walk, finished, nothing_held, used, walk_from, walked}
use Rattle.command_line.specs.declared.Change.TheVariants.{Create, Extend, Remove, Rename}
use Rattle.command_line.specs.declared.Invocation.{Invocation}
use Rattle.command_line.specs.declared.Invocation.TheVariants.{Change as ChangeVolumes}
use Rattle.command_line.specs.declared.SetChoice.{SetChoice}
use Rattle.command_line.specs.Invocations.{Enters, HasExtent, SaysInvocation}
use Rattle.command_line.specs.Requests.{CreateOf, ExtendOf, IsLineOf, IsPlainSet, IsPlainWord, RemoveOf, RenameOf, words_of}
use Rattle.command_line.specs.Sizes.{IsExtent}
use Rattle.command_line.proofs.Answering.{Reads, no_bad, no_fault_in, no_fault_sized}
use Rattle.command_line.proofs.OneAsked.{other_change, other_invocation, same_text}
use Rattle.command_line.proofs.PlainSteps.{IsValue, given_at, plain_choice, set_choice, value_from_first}
use Rattle.command_line.proofs.PlainWalks.{EndsWell, Goes, StopsAt, folder_goes, last_id_goes, sub_enters, word_goes}
use Rattle.command_line.proofs.PlainWords.{set_values}
use Rattle.command_line.proofs.PlainNumbers.{plain_amount}
use Rattle.command_line.proofs.TakenWords.{built_blocks, built_folder, built_name, built_new_name, built_rename, built_sized, built_volume}

-- the rows after FOLDER, and after NAME
abbrev folder_rows : Text → List Row
folder_rows folder = used built_folder (folder ∷ []) []

abbrev name_rows : Text → Text → List Row
name_rows folder name = used built_name (name ∷ []) (folder_rows folder)

-- ---- NAME and SIZE

module _ (command folder name size text : Text) (is_folder : IsValue folder) (is_name : IsValue name) (is_size : IsValue size) (is_id : IsValue text) where
  abbrev sized_last : Walk
  sized_last = given_at 4 (used built_blocks (size ∷ []) (name_rows folder name)) (codes "id") text

  -- the words after the name of the command
  abbrev sized_words : List Text
  sized_words = folder ∷ name ∷ size ∷ codes "--id" ∷ text ∷ []

  -- their rows
  abbrev sized_rows : List Row
  sized_rows = finished (built_sized command).rules sized_last.held

  sized_goes : Goes (built_sized command) (walk_from nothing_held) sized_words sized_last
  sized_goes =
      folder_goes (built_sized command) refl folder is_folder _ sized_last
      (word_goes (built_sized command) 2 3 built_folder built_name refl refl refl refl refl refl [] folder refl name is_name _ sized_last
      (word_goes (built_sized command) 3 4 built_name built_blocks refl refl refl refl refl refl (folder_rows folder) name refl size is_size _ sized_last
      (last_id_goes (built_sized command) 4 built_blocks refl refl refl (name_rows folder name) size refl text is_id)))

  sized_well : EndsWell (built_sized command) sized_last
  unfolding defaults_fault
  sized_well = record { settles = refl; defaults = refl; checks = refl }

module _ (folder name size text : Text) (is_folder : IsValue folder) (is_name : IsValue name) (is_size : IsValue size) (is_id : IsValue text) where
  abbrev of_sized : Text → List Row
  of_sized command = sized_rows command folder name size text is_folder is_name is_size is_id

  create_stops : StopsAt (built_sized (codes "create")) (folder ∷ name ∷ size ∷ codes "--id" ∷ text ∷ [])
  unfolding walked walk_fault
  create_stops = record { walk_is = refl; no_fault = refl; found = refl }

  create_enters : Enters (words_of (CreateOf folder name size text)) (codes "create") (of_sized (codes "create"))
  create_enters =
      sub_enters (built_sized (codes "create")) _ _ create_stops (sized_goes (codes "create") folder name size text is_folder is_name is_size is_id)
      (sized_well (codes "create") folder name size text is_folder is_name is_size is_id)

  -- all that they say
  create_says : (choice : SetChoice) (line : Invocation) → SaysInvocation (codes "create") (of_sized (codes "create")) choice line
      → IsLineOf (CreateOf folder name size text) choice line
  create_says choice (ChangeVolumes f id (Create volume blocks)) h =
      let set = set_values (codes "create") (of_sized (codes "create")) f.now folder text choice id h.0 refl refl in
      let extent : IsExtent size blocks = subst (λ (t : Text). IsExtent t blocks) (same_text h.1.2.0 size (sym h.1.2.1)) h.1.2.2 in
      (set.0, set.1, same_text volume.now name (sym h.1.1), extent)
  create_says choice (ChangeVolumes f id change) h = absurd (other_change (codes "create") (of_sized (codes "create")) change refl h.1)
  create_says choice line h = absurd (other_invocation (codes "create") (of_sized (codes "create")) choice line refl h)

  extend_stops : StopsAt (built_sized (codes "extend")) (folder ∷ name ∷ size ∷ codes "--id" ∷ text ∷ [])
  unfolding walked walk_fault
  extend_stops = record { walk_is = refl; no_fault = refl; found = refl }

  extend_enters : Enters (words_of (ExtendOf folder name size text)) (codes "extend") (of_sized (codes "extend"))
  extend_enters =
      sub_enters (built_sized (codes "extend")) _ _ extend_stops (sized_goes (codes "extend") folder name size text is_folder is_name is_size is_id)
      (sized_well (codes "extend") folder name size text is_folder is_name is_size is_id)

  -- all that they say
  extend_says : (choice : SetChoice) (line : Invocation) → SaysInvocation (codes "extend") (of_sized (codes "extend")) choice line
      → IsLineOf (ExtendOf folder name size text) choice line
  extend_says choice (ChangeVolumes f id (Extend volume blocks)) h =
      let set = set_values (codes "extend") (of_sized (codes "extend")) f.now folder text choice id h.0 refl refl in
      let extent : IsExtent size blocks = subst (λ (t : Text). IsExtent t blocks) (same_text h.1.2.0 size (sym h.1.2.1)) h.1.2.2 in
      (set.0, set.1, same_text volume.now name (sym h.1.1), extent)
  extend_says choice (ChangeVolumes f id change) h = absurd (other_change (codes "extend") (of_sized (codes "extend")) change refl h.1)
  extend_says choice line h = absurd (other_invocation (codes "extend") (of_sized (codes "extend")) choice line refl h)

-- ---- NAME alone

module _ (folder name text : Text) (is_folder : IsValue folder) (is_name : IsValue name) (is_id : IsValue text) where
  abbrev remove_shape : Shape
  remove_shape = built_volume (codes "remove")

  abbrev remove_last : Walk
  remove_last = given_at 3 (name_rows folder name) (codes "id") text

  abbrev remove_words : List Text
  remove_words = folder ∷ name ∷ codes "--id" ∷ text ∷ []

  -- their rows
  abbrev remove_rows : List Row
  remove_rows = finished remove_shape.rules remove_last.held

  remove_goes : Goes remove_shape (walk_from nothing_held) remove_words remove_last
  remove_goes =
      folder_goes remove_shape refl folder is_folder _ remove_last
      (word_goes remove_shape 2 3 built_folder built_name refl refl refl refl refl refl [] folder refl name is_name _ remove_last
      (last_id_goes remove_shape 3 built_name refl refl refl (folder_rows folder) name refl text is_id))

  remove_well : EndsWell remove_shape remove_last
  unfolding defaults_fault
  remove_well = record { settles = refl; defaults = refl; checks = refl }

  remove_stops : StopsAt remove_shape remove_words
  unfolding walked walk_fault
  remove_stops = record { walk_is = refl; no_fault = refl; found = refl }

  remove_enters : Enters (words_of (RemoveOf folder name text)) (codes "remove") remove_rows
  remove_enters = sub_enters remove_shape remove_words remove_last remove_stops remove_goes remove_well

  -- all that they say
  remove_says : (choice : SetChoice) (line : Invocation) → SaysInvocation (codes "remove") remove_rows choice line
      → IsLineOf (RemoveOf folder name text) choice line
  remove_says choice (ChangeVolumes f id (Remove volume)) h =
      let set = set_values (codes "remove") remove_rows f.now folder text choice id h.0 refl refl in
      (set.0, set.1, same_text volume.now name (sym h.1.1))
  remove_says choice (ChangeVolumes f id change) h = absurd (other_change (codes "remove") remove_rows change refl h.1)
  remove_says choice line h = absurd (other_invocation (codes "remove") remove_rows choice line refl h)

-- ---- NAME and NEW

module _ (folder name to text : Text) (is_folder : IsValue folder) (is_name : IsValue name) (is_to : IsValue to) (is_id : IsValue text) where
  abbrev rename_last : Walk
  rename_last = given_at 4 (used built_new_name (to ∷ []) (name_rows folder name)) (codes "id") text

  abbrev rename_words : List Text
  rename_words = folder ∷ name ∷ to ∷ codes "--id" ∷ text ∷ []

  -- their rows
  abbrev rename_rows : List Row
  rename_rows = finished built_rename.rules rename_last.held

  rename_goes : Goes built_rename (walk_from nothing_held) rename_words rename_last
  rename_goes =
      folder_goes built_rename refl folder is_folder _ rename_last
      (word_goes built_rename 2 3 built_folder built_name refl refl refl refl refl refl [] folder refl name is_name _ rename_last
      (word_goes built_rename 3 4 built_name built_new_name refl refl refl refl refl refl (folder_rows folder) name refl to is_to _ rename_last
      (last_id_goes built_rename 4 built_new_name refl refl refl (name_rows folder name) to refl text is_id)))

  rename_well : EndsWell built_rename rename_last
  unfolding defaults_fault
  rename_well = record { settles = refl; defaults = refl; checks = refl }

  rename_stops : StopsAt built_rename rename_words
  unfolding walked walk_fault
  rename_stops = record { walk_is = refl; no_fault = refl; found = refl }

  rename_enters : Enters (words_of (RenameOf folder name to text)) (codes "rename") rename_rows
  rename_enters = sub_enters built_rename rename_words rename_last rename_stops rename_goes rename_well

  -- all that they say
  rename_says : (choice : SetChoice) (line : Invocation) → SaysInvocation (codes "rename") rename_rows choice line
      → IsLineOf (RenameOf folder name to text) choice line
  rename_says choice (ChangeVolumes f id (Rename volume new)) h =
      let set = set_values (codes "rename") rename_rows f.now folder text choice id h.0 refl refl in
      (set.0, set.1, same_text volume.now name (sym h.1.1), same_text new.now to (sym h.1.2))
  rename_says choice (ChangeVolumes f id change) h = absurd (other_change (codes "rename") rename_rows change refl h.1)
  rename_says choice line h = absurd (other_invocation (codes "rename") rename_rows choice line refl h)

-- ---- what clap makes of each of them

-- a size of a volume does not begin with a hyphen
plain_extent : (size : Text) (blocks : ℕ) → IsExtent size blocks → IsPlainWord size
plain_extent size blocks is = plain_amount size blocks is.0 (omega (arith, is.1))

pub reads_create : (folder name size text : Text) → IsPlainSet folder text → IsPlainWord name → (blocks : ℕ) → IsExtent size blocks
    → Reads (CreateOf folder name size text)
reads_create folder name size text is plain blocks extent =
    let v = value_from_first folder is.0 in
    let n = value_from_first name plain in
    let z = value_from_first size (plain_extent size blocks extent) in
    let t = value_from_first text (plain_choice text is.1) in
    let rows = of_sized folder name size text v n z t (codes "create") in
    let has : HasExtent rows blocks = (size, refl, extent) in
    record {
      name = codes "create";
      rows = rows;
      enters = create_enters folder name size text v n z t;
      good = no_fault_sized (codes "create") rows blocks refl has (no_bad (codes "create") rows text refl (set_choice (codes "create") text refl is.1));
      says = create_says folder name size text v n z t;
    }

pub reads_extend : (folder name size text : Text) → IsPlainSet folder text → IsPlainWord name → (blocks : ℕ) → IsExtent size blocks
    → Reads (ExtendOf folder name size text)
reads_extend folder name size text is plain blocks extent =
    let v = value_from_first folder is.0 in
    let n = value_from_first name plain in
    let z = value_from_first size (plain_extent size blocks extent) in
    let t = value_from_first text (plain_choice text is.1) in
    let rows = of_sized folder name size text v n z t (codes "extend") in
    let has : HasExtent rows blocks = (size, refl, extent) in
    record {
      name = codes "extend";
      rows = rows;
      enters = extend_enters folder name size text v n z t;
      good = no_fault_sized (codes "extend") rows blocks refl has (no_bad (codes "extend") rows text refl (set_choice (codes "extend") text refl is.1));
      says = extend_says folder name size text v n z t;
    }

pub reads_remove : (folder name text : Text) → IsPlainSet folder text → IsPlainWord name → Reads (RemoveOf folder name text)
reads_remove folder name text is plain =
    let v = value_from_first folder is.0 in
    let n = value_from_first name plain in
    let t = value_from_first text (plain_choice text is.1) in
    let rows = remove_rows folder name text v n t in
    record {
      name = codes "remove";
      rows = rows;
      enters = remove_enters folder name text v n t;
      good = no_fault_in (codes "remove") rows refl refl refl (no_bad (codes "remove") rows text refl (set_choice (codes "remove") text refl is.1));
      says = remove_says folder name text v n t;
    }

pub reads_rename : (folder name to text : Text) → IsPlainSet folder text → IsPlainWord name → IsPlainWord to → Reads (RenameOf folder name to text)
reads_rename folder name to text is plain new =
    let v = value_from_first folder is.0 in
    let n = value_from_first name plain in
    let w = value_from_first to new in
    let t = value_from_first text (plain_choice text is.1) in
    let rows = rename_rows folder name to text v n w t in
    record {
      name = codes "rename";
      rows = rows;
      enters = rename_enters folder name to text v n w t;
      good = no_fault_in (codes "rename") rows refl refl refl (no_bad (codes "rename") rows text refl (set_choice (codes "rename") text refl is.1));
      says = rename_says folder name to text v n w t;
    }
