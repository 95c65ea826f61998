-- What clap makes of the words `make FOLDER --id H --members N --size SIZE`, after which `--chunk C`, `--over` and `--reserve` may stand.
use Rattle.std.proofs.Common.{◌≡◌, ◌∙◌, ◌<◌, ◌^◌, ◌++◌, inl, inr, arith, refl, sym, subst, ℕ, Bool, true, false, List, [], ◌∷◌, Option, Some, None, codes}
use Rattle.std.specs.Prelude.{IfSome, decimal}
use Rattle.clap.specs.Faults.{defaults_fault, walk_fault}
use Rattle.clap.specs.Walk.{Row, Text, Walk, finished, first_of, nothing_held, used, walk_from, walked}
use Rattle.command_line.specs.declared.Invocation.{Invocation}
use Rattle.command_line.specs.declared.Invocation.TheVariants.{Make, MakeSized, Change as ChangeVolumes}
use Rattle.command_line.specs.declared.SetChoice.{SetChoice}
use Rattle.command_line.specs.declared.Size.{Size}
use Rattle.command_line.specs.Commands.{up_to}
use Rattle.command_line.specs.Invocations.{Enters, HasFlag, HasNumber, HasNumberOr, HasRoom, IsBySize, SaysInvocation}
use Rattle.command_line.specs.Requests.{IsChunk, IsLineOf, IsPlainNewSet, MakeSizedOf, chunk_words, making_words}
use Rattle.command_line.specs.Sizes.{IsRoom}
use Rattle.command_line.proofs.Answering.{Reads, no_bad, no_fault_by_size}
use Rattle.command_line.proofs.OneAsked.{no_change, one_flag, one_form, one_number, one_number_or, other_invocation, same_text}
use Rattle.command_line.proofs.PlainNumbers.{IsNumberValue, decimal_spells, decimal_value, plain_room}
use Rattle.command_line.proofs.PlainSteps.{IsName, IsValue, flagged, given, new_choice, plain_new, value_from_first}
use Rattle.command_line.proofs.PlainWalks.{EndsWell, Goes, HasSetRules, IsOption, StopsAt, flag_goes, flags_go, id_rows, option_goes, set_goes, stays}
use Rattle.command_line.proofs.PlainWalks.{sub_enters}
use Rattle.command_line.proofs.PlainWords.{set_values}
use Rattle.command_line.proofs.TakenWords.{built_chunk, built_folder, built_id, built_make, built_members, built_over, built_reserve, built_size}

over_is : IsName built_make (codes "--over") (codes "over") built_over
over_is = record { not_end = refl; is_long = refl; found = refl }

reserve_is : IsName built_make (codes "--reserve") (codes "reserve") built_reserve
reserve_is = record { not_end = refl; is_long = refl; found = refl }

members_option : IsOption built_make (codes "--members") (codes "members") built_members
members_option = record { not_end = refl; is_long = refl; found = refl; own = refl; takes = refl; one_value = λ value. refl }

size_option : IsOption built_make (codes "--size") (codes "size") built_size
size_option = record { not_end = refl; is_long = refl; found = refl; own = refl; takes = refl; one_value = λ value. refl }

chunk_option : IsOption built_make (codes "--chunk") (codes "chunk") built_chunk
chunk_option = record { not_end = refl; is_long = refl; found = refl; own = refl; takes = refl; one_value = λ value. refl }

-- the value of `--chunk`, if it is given, is a number
abbrev IsChunkValue : Option ℕ → Type 0
IsChunkValue chunk = IfSome chunk (λ n. IsNumberValue (up_to 65535) (decimal n))

-- its digits
abbrev digits_of : Option ℕ → Option Text
digits_of None = None
digits_of (Some chunk) = Some (decimal chunk)

module _ (folder text members size : Text) (is_folder : IsValue folder) (is_id : IsValue text) (is_members : IsNumberValue (up_to 255) members)
    (is_size : IsValue size) where
  has_set : HasSetRules built_make
  has_set = record { first = refl; own_folder = refl; own_id = refl; found = refl; alone = λ folder. refl }

  abbrev members_rows : List Row
  members_rows = used built_members (members ∷ []) (id_rows folder text)

  abbrev size_rows : List Row
  size_rows = used built_size (size ∷ []) members_rows

  -- the words after the name
  abbrev rest : Option ℕ → (over reserve : Bool) → List Text
  rest chunk over reserve = folder ∷ codes "--id" ∷ text ∷ codes "--members" ∷ members ∷ codes "--size" ∷ size
      ∷ (chunk_words chunk ++ making_words over reserve)

  -- the rows before the flags, where they stand
  abbrev rows_before : Option ℕ → List Row
  rows_before None = size_rows
  rows_before (Some chunk) = used built_chunk (decimal chunk ∷ []) size_rows

  -- where the walk over the words ends
  abbrev last : Option ℕ → (over reserve : Bool) → Walk
  last None false false = given members_rows (codes "size") size
  last (Some chunk) false false = given size_rows (codes "chunk") (decimal chunk)
  last chunk true false = flagged (used built_over [] (rows_before chunk))
  last chunk false true = flagged (used built_reserve [] (rows_before chunk))
  last chunk true true = flagged (used built_reserve [] (used built_over [] (rows_before chunk)))

  none_goes : (over reserve : Bool) → Goes built_make (given members_rows (codes "size") size) (making_words over reserve) (last None over reserve)
  none_goes false false = stays built_make (last None false false)
  none_goes true false = flag_goes built_make built_size refl members_rows size refl (codes "--over") (codes "over") built_over over_is refl refl
  none_goes false true = flag_goes built_make built_size refl members_rows size refl (codes "--reserve") (codes "reserve") built_reserve reserve_is refl refl
  none_goes true true =
      flags_go built_make built_size refl members_rows size refl (codes "--over") (codes "over") built_over over_is refl refl
      (codes "--reserve") (codes "reserve") built_reserve reserve_is refl refl

  some_goes : (chunk : ℕ) → IsNumberValue (up_to 65535) (decimal chunk) → (over reserve : Bool)
      → Goes built_make (given size_rows (codes "chunk") (decimal chunk)) (making_words over reserve) (last (Some chunk) over reserve)
  some_goes chunk is false false = stays built_make (last (Some chunk) false false)
  some_goes chunk is true false =
      flag_goes built_make built_chunk refl size_rows (decimal chunk) (rw is.passes refl) (codes "--over") (codes "over") built_over over_is refl refl
  some_goes chunk is false true =
      flag_goes built_make built_chunk refl size_rows (decimal chunk) (rw is.passes refl) (codes "--reserve") (codes "reserve") built_reserve reserve_is
      refl refl
  some_goes chunk is true true =
      flags_go built_make built_chunk refl size_rows (decimal chunk) (rw is.passes refl) (codes "--over") (codes "over") built_over over_is refl refl
      (codes "--reserve") (codes "reserve") built_reserve reserve_is refl refl

  after_size : (chunk : Option ℕ) (over reserve : Bool) → IsChunkValue chunk
      → Goes built_make (given members_rows (codes "size") size) (chunk_words chunk ++ making_words over reserve) (last chunk over reserve)
  after_size None over reserve is = none_goes over reserve
  after_size (Some chunk) over reserve is =
      option_goes built_make built_size refl members_rows size refl (codes "--chunk") (codes "chunk") built_chunk chunk_option (decimal chunk) is.value
      (making_words over reserve) (last (Some chunk) over reserve) (some_goes chunk is over reserve)

  goes : (chunk : Option ℕ) (over reserve : Bool) → IsChunkValue chunk
      → Goes built_make (walk_from nothing_held) (rest chunk over reserve) (last chunk over reserve)
  goes chunk over reserve is =
      set_goes built_make has_set folder text is_folder is_id _ (last chunk over reserve)
      (option_goes built_make built_id refl (used built_folder (folder ∷ []) []) text refl (codes "--members") (codes "members") built_members members_option
      members is_members.value _ (last chunk over reserve)
      (option_goes built_make built_members refl (id_rows folder text) members (rw is_members.passes refl) (codes "--size") (codes "size") built_size
      size_option size is_size _ (last chunk over reserve) (after_size chunk over reserve is)))

  well : (chunk : Option ℕ) (over reserve : Bool) → IsChunkValue chunk → EndsWell built_make (last chunk over reserve)
  unfolding defaults_fault
  well None false false is = record { settles = refl; defaults = refl; checks = refl }
  well None false true is = record { settles = refl; defaults = refl; checks = refl }
  well None true false is = record { settles = refl; defaults = refl; checks = refl }
  well None true true is = record { settles = refl; defaults = refl; checks = refl }
  well (Some chunk) false false is = record { settles = rw is.passes refl; defaults = refl; checks = refl }
  well (Some chunk) false true is = record { settles = refl; defaults = refl; checks = refl }
  well (Some chunk) true false is = record { settles = refl; defaults = refl; checks = refl }
  well (Some chunk) true true is = record { settles = refl; defaults = refl; checks = refl }

  stops : (chunk : Option ℕ) (over reserve : Bool) → StopsAt built_make (rest chunk over reserve)
  unfolding walked walk_fault
  stops None false false = record { walk_is = refl; no_fault = refl; found = refl }
  stops None false true = record { walk_is = refl; no_fault = refl; found = refl }
  stops None true false = record { walk_is = refl; no_fault = refl; found = refl }
  stops None true true = record { walk_is = refl; no_fault = refl; found = refl }
  stops (Some chunk) false false = record { walk_is = refl; no_fault = refl; found = refl }
  stops (Some chunk) false true = record { walk_is = refl; no_fault = refl; found = refl }
  stops (Some chunk) true false = record { walk_is = refl; no_fault = refl; found = refl }
  stops (Some chunk) true true = record { walk_is = refl; no_fault = refl; found = refl }

  -- the rows of `make`
  abbrev rows : Option ℕ → (over reserve : Bool) → List Row
  rows chunk over reserve = finished built_make.rules (last chunk over reserve).held

  plain_enters : (chunk : Option ℕ) (over reserve : Bool) → IsChunkValue chunk
      → Enters (codes "make" ∷ rest chunk over reserve) (codes "make") (rows chunk over reserve)
  plain_enters chunk over reserve is =
      sub_enters built_make (rest chunk over reserve) (last chunk over reserve) (stops chunk over reserve) (goes chunk over reserve is)
      (well chunk over reserve is)

  -- what the rows have
  pub record HasAll (chunk : Option ℕ) (over reserve : Bool) (rows : List Row) : Type 0 where
    pub folder_is : first_of (codes "folder") rows ≡ Some folder
    pub id_is : first_of (codes "id") rows ≡ Some text
    pub members_is : first_of (codes "members") rows ≡ Some members
    pub size_is : first_of (codes "size") rows ≡ Some size
    pub chunk_is : first_of (codes "chunk") rows ≡ digits_of chunk
    pub no_stripes : first_of (codes "stripes") rows ≡ None
    pub over_is : HasFlag rows (codes "over") over
    pub reserve_is : HasFlag rows (codes "reserve") reserve

  has_all : (chunk : Option ℕ) (over reserve : Bool) → HasAll chunk over reserve (rows chunk over reserve)
  has_all None false false = record {
    folder_is = refl;
    id_is = refl;
    members_is = refl;
    size_is = refl;
    chunk_is = refl;
    no_stripes = refl;
    over_is = refl;
    reserve_is = refl;
  }
  has_all None false true = record {
    folder_is = refl;
    id_is = refl;
    members_is = refl;
    size_is = refl;
    chunk_is = refl;
    no_stripes = refl;
    over_is = refl;
    reserve_is = refl;
  }
  has_all None true false = record {
    folder_is = refl;
    id_is = refl;
    members_is = refl;
    size_is = refl;
    chunk_is = refl;
    no_stripes = refl;
    over_is = refl;
    reserve_is = refl;
  }
  has_all None true true = record {
    folder_is = refl;
    id_is = refl;
    members_is = refl;
    size_is = refl;
    chunk_is = refl;
    no_stripes = refl;
    over_is = refl;
    reserve_is = refl;
  }
  has_all (Some chunk) false false = record {
    folder_is = refl;
    id_is = refl;
    members_is = refl;
    size_is = refl;
    chunk_is = refl;
    no_stripes = refl;
    over_is = refl;
    reserve_is = refl;
  }
  has_all (Some chunk) false true = record {
    folder_is = refl;
    id_is = refl;
    members_is = refl;
    size_is = refl;
    chunk_is = refl;
    no_stripes = refl;
    over_is = refl;
    reserve_is = refl;
  }
  has_all (Some chunk) true false = record {
    folder_is = refl;
    id_is = refl;
    members_is = refl;
    size_is = refl;
    chunk_is = refl;
    no_stripes = refl;
    over_is = refl;
    reserve_is = refl;
  }
  has_all (Some chunk) true true = record {
    folder_is = refl;
    id_is = refl;
    members_is = refl;
    size_is = refl;
    chunk_is = refl;
    no_stripes = refl;
    over_is = refl;
    reserve_is = refl;
  }

module _ (folder text : Text) (members : ℕ) (size : Text) (chunk : Option ℕ) (over reserve : Bool) (is : IsPlainNewSet folder text) (small : members < 2 ^ 8)
    (room : Size) (is_room : IsRoom size room) (few : IfSome chunk (λ n. n < 2 ^ 16)) where
  abbrev v : IsValue folder
  v = value_from_first folder is.0

  abbrev t : IsValue text
  t = value_from_first text (plain_new text is.1)

  abbrev m : IsNumberValue (up_to 255) (decimal members)
  m = decimal_value 255 members (omega (arith, small)) (omega arith)

  abbrev z : IsValue size
  z = value_from_first size (plain_room size room is_room)

  abbrev all_rows : List Row
  all_rows = rows folder text (decimal members) size v t m z chunk over reserve

  has : HasAll folder text (decimal members) size v t m z chunk over reserve all_rows
  has = has_all folder text (decimal members) size v t m z chunk over reserve

  by_size : IsBySize all_rows
  by_size = record { has_size = rw has.size_is refl; no_stripes = has.no_stripes }

  has_members : HasNumber all_rows (codes "members") members
  has_members = (decimal members, has.members_is, decimal_spells members (omega (arith, small)))

  has_room : HasRoom all_rows room
  has_room = (size, has.size_is, is_room)

  chunk_same : (rs : List Row) (given : Option ℕ) → first_of (codes "chunk") rs ≡ digits_of given → IfSome given (λ n. n < 2 ^ 16) → (c : ℕ)
      → HasNumberOr rs (codes "chunk") 128 c → IsChunk given c
  chunk_same rs None is_chunk fits c h = one_number_or rs (codes "chunk") 128 c 128 h (inl (is_chunk, refl))
  chunk_same rs (Some n) is_chunk fits c h =
      one_number_or rs (codes "chunk") 128 c n h (inr (decimal n, is_chunk, decimal_spells n (omega (arith, fits))))

  -- all that they say
  room_says : (choice : SetChoice) (line : Invocation) → SaysInvocation (codes "make") all_rows choice line
      → IsLineOf (MakeSizedOf folder text members size chunk over reserve) choice line
  room_says choice (MakeSized f id ms cs s o r) h =
      let set = set_values (codes "make") all_rows f.now folder text choice id h.1 has.folder_is has.id_is in
      let said : IsRoom size s = subst (λ (t : Text). IsRoom t s) (same_text h.2.size_is.0 size (sym h.2.size_is.1 ∙ has.size_is)) h.2.size_is.2 in (
        set.0,
        set.1,
        one_number all_rows (codes "members") ms members h.2.members_is has_members,
        chunk_same all_rows chunk has.chunk_is few cs h.2.chunk_is,
        said,
        one_flag all_rows (codes "over") o over h.2.over_is has.over_is,
        one_flag all_rows (codes "reserve") r reserve h.2.reserve_is has.reserve_is,
      )
  room_says choice (Make f id ms cs ss) h = absurd (one_form all_rows h.3 by_size)
  room_says choice (ChangeVolumes f id change) h = absurd (no_change (codes "make") all_rows change refl refl refl refl refl h.1)
  room_says choice line h = absurd (other_invocation (codes "make") all_rows choice line refl h)

chunk_value : (chunk : Option ℕ) → IfSome chunk (λ n. n < 2 ^ 16) → IsChunkValue chunk
chunk_value None few = tt
chunk_value (Some n) few = decimal_value 65535 n (omega (arith, few)) (omega arith)

-- what clap makes of them
pub reads_room : (folder text : Text) (members : ℕ) (size : Text) (chunk : Option ℕ) (over reserve : Bool) → IsPlainNewSet folder text → members < 2 ^ 8
    → (room : Size) → IsRoom size room → IfSome chunk (λ n. n < 2 ^ 16) → Reads (MakeSizedOf folder text members size chunk over reserve)
reads_room folder text members size chunk over reserve is small room is_room few =
    let all = all_rows folder text members size chunk over reserve is small room is_room few in
    let had = has folder text members size chunk over reserve is small room is_room few in
    record {
      name = codes "make";
      rows = all;
      enters =
          plain_enters folder text (decimal members) size (v folder text members size chunk over reserve is small room is_room few)
          (t folder text members size chunk over reserve is small room is_room few) (m folder text members size chunk over reserve is small room is_room few)
          (z folder text members size chunk over reserve is small room is_room few) chunk over reserve (chunk_value chunk few);
      good =
          no_fault_by_size all room (by_size folder text members size chunk over reserve is small room is_room few)
          (has_room folder text members size chunk over reserve is small room is_room few) (no_bad (codes "make") all text had.id_is (new_choice text is.1));
      says = room_says folder text members size chunk over reserve is small room is_room few;
    }
