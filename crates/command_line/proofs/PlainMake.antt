-- What clap makes of the words `make FOLDER --id H --members N --chunk C --stripes S`.
use Rattle.std.proofs.Common.{◌<◌, ◌^◌, ℕ, refl, arith, List, [], ◌∷◌, codes}
use Rattle.std.specs.Prelude.{decimal}
use Rattle.clap.specs.Faults.{defaults_fault, walk_fault}
use Rattle.clap.specs.Walk.{Row, Text, Walk, finished, nothing_held, used, walk_from, walked}
use Rattle.command_line.specs.declared.Invocation.{Invocation}
use Rattle.command_line.specs.declared.SetChoice.{SetChoice}
use Rattle.command_line.specs.declared.Invocation.TheVariants.{Change as ChangeVolumes, Make, MakeSized}
use Rattle.command_line.specs.Commands.{up_to}
use Rattle.command_line.specs.Invocations.{Enters, HasSizes, IsByStripes, SaysInvocation}
use Rattle.command_line.specs.Requests.{IsLineOf, IsNewSetText, IsPlainNewSet, IsPlainWord, MakeOf, words_of}
use Rattle.command_line.proofs.Answering.{Reads, no_bad, no_fault_by_stripes}
use Rattle.command_line.proofs.OneAsked.{no_change, one_form, one_sizes, other_invocation}
use Rattle.command_line.proofs.PlainNumbers.{IsNumberValue, decimal_spells, decimal_value}
use Rattle.command_line.proofs.PlainSteps.{IsValue, given, new_choice, plain_new, value_from_first}
use Rattle.command_line.proofs.PlainWalks.{EndsWell, Goes, HasSetRules, IsOption, StopsAt, id_rows, option_goes, set_goes, stays, sub_enters}
use Rattle.command_line.proofs.PlainWords.{set_values}
use Rattle.command_line.proofs.TakenWords.{built_chunk, built_folder, built_id, built_make, built_members, built_stripes}

module _ (folder text members chunk stripes : Text) (is_folder : IsValue folder) (is_id : IsValue text)
    (is_members : IsNumberValue (up_to 255) members) (is_chunk : IsNumberValue (up_to 65535) chunk)
    (is_stripes : IsNumberValue (up_to 4294967295) stripes) where
  abbrev members_rows : List Row
  members_rows = used built_members (members ∷ []) (id_rows folder text)

  abbrev chunk_rows : List Row
  chunk_rows = used built_chunk (chunk ∷ []) members_rows

  abbrev last : Walk
  last = given chunk_rows (codes "stripes") stripes

  -- the words after the name
  abbrev rest_words : List Text
  rest_words = folder ∷ codes "--id" ∷ text ∷ codes "--members" ∷ members ∷ codes "--chunk" ∷ chunk ∷ codes "--stripes" ∷ stripes ∷ []

  -- the rows of `make`
  abbrev rows : List Row
  rows = finished built_make.rules last.held

  has_set : HasSetRules built_make
  has_set = record { first = refl; own_folder = refl; own_id = refl; found = refl; alone = λ folder. refl }

  members_option : IsOption built_make (codes "--members") (codes "members") built_members
  members_option = record { not_end = refl; is_long = refl; found = refl; own = refl; takes = refl; one_value = λ value. refl }

  chunk_option : IsOption built_make (codes "--chunk") (codes "chunk") built_chunk
  chunk_option = record { not_end = refl; is_long = refl; found = refl; own = refl; takes = refl; one_value = λ value. refl }

  stripes_option : IsOption built_make (codes "--stripes") (codes "stripes") built_stripes
  stripes_option = record { not_end = refl; is_long = refl; found = refl; own = refl; takes = refl; one_value = λ value. refl }

  stripes_go : Goes built_make (given members_rows (codes "chunk") chunk) (codes "--stripes" ∷ stripes ∷ []) last
  stripes_go =
      option_goes built_make built_chunk refl members_rows chunk (rw is_chunk.passes refl) (codes "--stripes") (codes "stripes") built_stripes stripes_option
      stripes is_stripes.value [] last (stays built_make last)

  chunk_goes : Goes built_make (given (id_rows folder text) (codes "members") members) (codes "--chunk" ∷ chunk ∷ codes "--stripes" ∷ stripes ∷ []) last
  chunk_goes =
      option_goes built_make built_members refl (id_rows folder text) members (rw is_members.passes refl) (codes "--chunk")
      (codes "chunk") built_chunk chunk_option
      chunk is_chunk.value _ last stripes_go

  goes : Goes built_make (walk_from nothing_held) rest_words last
  goes = set_goes built_make has_set folder text is_folder is_id _ last
      (option_goes built_make built_id refl (used built_folder (folder ∷ []) []) text refl (codes "--members") (codes "members") built_members members_option
      members is_members.value _ last chunk_goes)

  ends_well : EndsWell built_make last
  unfolding defaults_fault
  ends_well = record { settles = rw is_stripes.passes refl; defaults = refl; checks = refl }

  make_stops : StopsAt built_make rest_words
  unfolding walked walk_fault
  make_stops = record { walk_is = refl; no_fault = refl; found = refl }

  plain_enters : Enters (codes "make" ∷ rest_words) (codes "make") rows
  plain_enters = sub_enters built_make rest_words last make_stops goes ends_well

-- a number below 256, one below 65,536 and one below 4,294,967,296
record AreSmall (members chunk stripes : ℕ) : Type 0 where
  members_small : members < 2 ^ 8
  chunk_small : chunk < 2 ^ 16
  stripes_small : stripes < 2 ^ 32

module _ (folder text : Text) (members chunk stripes : ℕ) (is_plain : IsPlainWord folder) (is_id : IsNewSetText text)
    (small : AreSmall members chunk stripes) where
  abbrev v : IsValue folder
  v = value_from_first folder is_plain

  abbrev t : IsValue text
  t = value_from_first text (plain_new text is_id)

  abbrev m : IsNumberValue (up_to 255) (decimal members)
  m = decimal_value 255 members (omega (arith, small.members_small)) (omega arith)

  abbrev c : IsNumberValue (up_to 65535) (decimal chunk)
  c = decimal_value 65535 chunk (omega (arith, small.chunk_small)) (omega arith)

  abbrev s : IsNumberValue (up_to 4294967295) (decimal stripes)
  s = decimal_value 4294967295 stripes (omega (arith, small.stripes_small)) (omega arith)

  -- their rows
  abbrev all_rows : List Row
  all_rows = rows folder text (decimal members) (decimal chunk) (decimal stripes) v t m c s

  make_enters : Enters (words_of (MakeOf folder text members chunk stripes)) (codes "make") all_rows
  make_enters = plain_enters folder text (decimal members) (decimal chunk) (decimal stripes) v t m c s

  sizes : HasSizes all_rows members chunk stripes
  sizes = record {
    members_is = (decimal members, refl, decimal_spells members (omega (arith, small.members_small)));
    chunk_is = (decimal chunk, refl, decimal_spells chunk (omega (arith, small.chunk_small)));
    stripes_is = (decimal stripes, refl, decimal_spells stripes (omega (arith, small.stripes_small)));
  }

  form : IsByStripes all_rows
  form = record { no_size = refl; has_chunk = refl; has_stripes = refl; not_over = refl; no_reserve = refl }

  -- all that they say
  make_says : (choice : SetChoice) (line : Invocation) → SaysInvocation (codes "make") all_rows choice line
      → IsLineOf (MakeOf folder text members chunk stripes) choice line
  make_says choice (Make f id ms cs ss) h =
      let set = set_values (codes "make") all_rows f.now folder text choice id h.1 refl refl in
      let same = one_sizes all_rows ms cs ss members chunk stripes h.2 sizes in
      (set.0, set.1, same.members_same, same.chunk_same, same.stripes_same)
  make_says choice (MakeSized f id ms cs size over reserve) h = absurd (one_form all_rows form h.2.by_size)
  make_says choice (ChangeVolumes f id change) h = absurd (no_change (codes "make") all_rows change refl refl refl refl refl h.1)
  make_says choice line h = absurd (other_invocation (codes "make") all_rows choice line refl h)

-- what clap makes of them
pub reads_make : (folder text : Text) (members chunk stripes : ℕ) → IsPlainNewSet folder text → members < 2 ^ 8 → chunk < 2 ^ 16 → stripes < 2 ^ 32
    → Reads (MakeOf folder text members chunk stripes)
reads_make folder text members chunk stripes is m c s =
    let small : AreSmall members chunk stripes = record { members_small = m; chunk_small = c; stripes_small = s } in
    record {
      name = codes "make";
      rows = all_rows folder text members chunk stripes is.0 is.1 small;
      enters = make_enters folder text members chunk stripes is.0 is.1 small;
      good =
          no_fault_by_stripes (all_rows folder text members chunk stripes is.0 is.1 small) (form folder text members chunk stripes is.0 is.1 small)
          (no_bad (codes "make") (all_rows folder text members chunk stripes is.0 is.1 small) text refl (new_choice text is.1));
      says = make_says folder text members chunk stripes is.0 is.1 small;
    }
