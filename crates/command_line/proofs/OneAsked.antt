-- That words ask for one invocation at most.
use Rattle.std.proofs.Common.{◌≡◌, ◌≢◌, ◌⊎◌, ◌∙◌, inl, inr, arith, refl, ℕ, Bool, true, false, true≢false, List, [], length, Option, Some, None, ap, sym}
use Rattle.std.proofs.Common.{subst, codes}
use Rattle.std.specs.Prelude.{IsSome, Ok, pos}
use Rattle.std.specs.Option.{option_map_or}
use Rattle.std.specs.Str.{bytes_eq}
use Rattle.std.specs.Str.Parse.{signed_digits_value}
use Rattle.std.proofs.lemmas.Slice.Eq.{bytes_eq-Decides}
use Rattle.clap.specs.Simple.{subcommand_of}
use Rattle.clap.specs.Walk.{Row, Text, first_of}
use Rattle.command_line.specs.declared.Asked.{Asked}
use Rattle.command_line.specs.declared.Change.{Change}
use Rattle.command_line.specs.declared.Change.TheVariants.{Create, Extend, Remove, Rename}
use Rattle.command_line.specs.declared.Change.TheVariants as change
use Rattle.command_line.specs.declared.Invocation.{Invocation}
use Rattle.command_line.specs.declared.Invocation.TheVariants.{Examine, Fail, Make, MakeSized, Rebuild, Replace, Run, Scrub, Serve, Status, Upgrade}
use Rattle.command_line.specs.declared.Invocation.TheVariants.{Change as ChangeVolumes}
use Rattle.command_line.specs.declared.InvocationFault.{InvocationFault}
use Rattle.command_line.specs.declared.InvocationFault.TheVariants.{BadId, BadShape, BadSize, Usage}
use Rattle.command_line.specs.declared.SetChoice.{SetChoice}
use Rattle.command_line.specs.declared.SetChoice.TheVariants.{Given, New, Only}
use Rattle.command_line.specs.declared.Size.{Size}
use Rattle.command_line.specs.Commands.{raidtool_app}
use Rattle.command_line.specs.Invocations.{AsksFor, AsksIn, Chooses, ChoosesOrNone, Enters, HasBadId, HasBadSize, HasCount, HasExtent, HasFlag, HasNumber}
use Rattle.command_line.specs.Invocations.{HasNumberOr, HasRoom, HasRoomValues, HasSizes, IsBySize, IsByStripes, IsChoice, IsFaultIn, IsFaultOf, IsIdText}
use Rattle.command_line.specs.Invocations.{IsMisshapen, NamesSet, SaysChange, SaysInvocation, of_extent, of_room}
use Rattle.command_line.specs.Sizes.{IsExtent, IsRoom}
use Rattle.command_line.proofs.SizeTexts.{one_extent, one_room}

-- ---- one subcommand

abbrev name_in : Option (Text × List Row) → Text
name_in entered = option_map_or (λ e. e.0) entered []

abbrev rows_in : Option (Text × List Row) → List Row
rows_in entered = option_map_or (λ e. e.1) entered []

-- no words are those of a subcommand
pub no_words : (name : Text) (rows : List Row) → Enters [] name rows → ⊥
no_words name rows h =
    let never : count (subcommand_of raidtool_app []) ≡ 1 = ap count h.entered in
    cc
  where
    count : Option (Text × List Row) → ℕ
    count entered = option_map_or (λ e. 1) entered 0

module _ (words : List Text) (n m : Text) (r s : List Row) (h : Enters words n r) (k : Enters words m s) where
  pub one_name : n ≡ m
  one_name = ap name_in (sym h.entered ∙ k.entered)

  pub one_rows : r ≡ s
  one_rows = ap rows_in (sym h.entered ∙ k.entered)

-- ---- one value of each name

pub same_text : (x y : Text) → Some x ≡ Some y → x ≡ y
same_text x y is = cc

-- what a text chooses, it may be
pub is_choice : (name text : Text) (choice : SetChoice) (id : List ℕ) → Chooses name text choice id → IsChoice name text
is_choice name text Given id h = inl h.0
is_choice name text New id h = inr (inl (h.0, h.1))
is_choice name text Only id h = inr (inr (h.0, h.1))

-- a word is no id
no_id_text : (text word : Text) → text ≡ word → length word ≢ 32 → IsIdText text → ⊥
no_id_text text word is short h = short (sym (ap length is) ∙ h.0)

-- a text chooses one set
pub record SameSet (c d : SetChoice) (i j : List ℕ) : Type 0 where
  pub choice_same : c ≡ d
  pub id_same : i ≡ j

pub one_chosen : (name text : Text) (c d : SetChoice) (i j : List ℕ) → Chooses name text c i → Chooses name text d j → SameSet c d i j
one_chosen name text Given Given i j h k =
    let both : Ok i ≡ Ok j = sym h.1 ∙ k.1 in
    record { choice_same = refl; id_same = cc }
one_chosen name text New New i j h k = record { choice_same = refl; id_same = h.2 ∙ sym k.2 }
one_chosen name text Only Only i j h k = record { choice_same = refl; id_same = h.2 ∙ sym k.2 }
one_chosen name text Given New i j h k = absurd (no_id_text text (codes "new") k.1 (λ e. omega arith) h.0)
one_chosen name text Given Only i j h k = absurd (no_id_text text (codes "auto") k.1 (λ e. omega arith) h.0)
one_chosen name text New Given i j h k = absurd (no_id_text text (codes "new") h.1 (λ e. omega arith) k.0)
one_chosen name text Only Given i j h k = absurd (no_id_text text (codes "auto") h.1 (λ e. omega arith) k.0)
one_chosen name text New Only i j h k = absurd (k.0 h.0)
one_chosen name text Only New i j h k = absurd (h.0 k.0)

module _ (name : Text) (rows : List Row) (f g : Text) (c d : SetChoice) (i j : List ℕ) (h : NamesSet name rows f c i) (k : NamesSet name rows g d j) where
  pub one_folder : f ≡ g
  one_folder = same_text f g (sym h.folder_value ∙ k.folder_value)

  pub one_set : SameSet c d i j
  one_set =
      let text : h.text ≡ k.text = same_text h.text k.text (sym h.id_value ∙ k.id_value) in
      one_chosen name k.text c d i j (subst (λ (t : Text). Chooses name t c i) text h.chosen) k.chosen

-- an id is good or bad
pub no_bad_id : (name : Text) (rows : List Row) (f : Text) (c : SetChoice) (i : List ℕ) → NamesSet name rows f c i → ¬ HasBadId name rows
no_bad_id name rows f c i h bad =
    let text : h.text ≡ bad.0 = same_text h.text bad.0 (sym h.id_value ∙ bad.1) in
    bad.2 (subst (IsChoice name) text (is_choice name h.text c i h.chosen))

-- the same where it may be left out
pub no_bad_some_id : (name : Text) (rows : List Row) (c : SetChoice) (id : Option (List ℕ)) → ChoosesOrNone name rows c id → ¬ HasBadId name rows
no_bad_some_id name rows c None none bad =
    let both : None ≡ Some bad.0 = sym none.0 ∙ bad.1 in
    cc
no_bad_some_id name rows c (Some id) h bad =
    let text : h.0 ≡ bad.0 = same_text h.0 bad.0 (sym h.1 ∙ bad.1) in
    bad.2 (subst (IsChoice name) text (is_choice name h.0 c id h.2))

-- a set that may be left out is the same one
pub record SameSome (c d : SetChoice) (i j : Option (List ℕ)) : Type 0 where
  pub choice_same : c ≡ d
  pub id_same : i ≡ j

pub one_some_id : (name : Text) (rows : List Row) (c d : SetChoice) (i j : Option (List ℕ)) → ChoosesOrNone name rows c i → ChoosesOrNone name rows d j
    → SameSome c d i j
one_some_id name rows c d None None h k = record { choice_same = h.1 ∙ sym k.1; id_same = refl }
one_some_id name rows c d None (Some j) h k =
    let both : None ≡ Some k.0 = sym h.0 ∙ k.1 in
    cc
one_some_id name rows c d (Some i) None h k =
    let both : None ≡ Some h.0 = sym k.0 ∙ h.1 in
    cc
one_some_id name rows c d (Some i) (Some j) h k =
    let text : h.0 ≡ k.0 = same_text h.0 k.0 (sym h.1 ∙ k.1) in
    let same = one_chosen name k.0 c d i j (subst (λ (t : Text). Chooses name t c i) text h.2) k.2 in
    record { choice_same = same.choice_same; id_same = ap Some same.id_same }

pub one_number : (rows : List Row) (name : Text) (m n : ℕ) → HasNumber rows name m → HasNumber rows name n → m ≡ n
one_number rows name m n h k =
    let text : h.0 ≡ k.0 = same_text h.0 k.0 (sym h.1 ∙ k.1) in
    let both : pos m ≡ pos n = sym h.2 ∙ ap (signed_digits_value 10) text ∙ k.2 in
    cc

pub one_count : (rows : List Row) (name : Text) (a b : Option ℕ) → HasCount rows name a → HasCount rows name b → a ≡ b
one_count rows name None None h k = refl
one_count rows name (Some m) (Some n) h k = ap Some (one_number rows name m n h.0 k.0)
one_count rows name None (Some n) h k =
    let both : None ≡ Some k.0.0 = sym h ∙ k.0.1 in
    cc
one_count rows name (Some m) None h k =
    let both : None ≡ Some h.0.0 = sym k ∙ h.0.1 in
    cc

pub one_flag : (rows : List Row) (name : Text) (a b : Bool) → HasFlag rows name a → HasFlag rows name b → a ≡ b
one_flag rows name true true h k = refl
one_flag rows name false false h k = refl
one_flag rows name true false h k =
    let both : codes "true" ≡ codes "false" = same_text (codes "true") (codes "false") (sym h ∙ k) in
    cc
one_flag rows name false true h k =
    let both : codes "false" ≡ codes "true" = same_text (codes "false") (codes "true") (sym h ∙ k) in
    cc

-- the same three numbers
pub record SameSizes (members chunk stripes m c s : ℕ) : Type 0 where
  pub members_same : members ≡ m
  pub chunk_same : chunk ≡ c
  pub stripes_same : stripes ≡ s

pub one_sizes : (rows : List Row) (members chunk stripes m c s : ℕ) → HasSizes rows members chunk stripes → HasSizes rows m c s
    → SameSizes members chunk stripes m c s
one_sizes rows members chunk stripes m c s h k = record {
  members_same = one_number rows (codes "members") members m h.members_is k.members_is;
  chunk_same = one_number rows (codes "chunk") chunk c h.chunk_is k.chunk_is;
  stripes_same = one_number rows (codes "stripes") stripes s h.stripes_is k.stripes_is;
}

pub one_number_or : (rows : List Row) (name : Text) (absent m n : ℕ) → HasNumberOr rows name absent m → HasNumberOr rows name absent n → m ≡ n
one_number_or rows name absent m n (inl h) (inl k) = h.1 ∙ sym k.1
one_number_or rows name absent m n (inr h) (inr k) = one_number rows name m n h k
one_number_or rows name absent m n (inl h) (inr k) =
    let both : None ≡ Some k.0 = sym h.0 ∙ k.1 in
    cc
one_number_or rows name absent m n (inr h) (inl k) =
    let both : None ≡ Some h.0 = sym k.0 ∙ h.1 in
    cc

pub one_room_value : (rows : List Row) (a b : Size) → HasRoom rows a → HasRoom rows b → a ≡ b
one_room_value rows a b h k =
    let text : h.0 ≡ k.0 = same_text h.0 k.0 (sym h.1 ∙ k.1) in
    one_room k.0 a b (subst (λ (t : Text). IsRoom t a) text h.2) k.2

-- a text that is no room is no value that is
pub no_room_value : (rows : List Row) (text : Text) → first_of (codes "size") rows ≡ Some text → ((size : Size) → ¬ IsRoom text size)
    → (size : Size) → ¬ HasRoom rows size
no_room_value rows text is none size h =
    none size (subst (λ (t : Text). IsRoom t size) (same_text h.0 text (sym h.1 ∙ is)) h.2)

pub no_extent_value : (rows : List Row) (text : Text) → first_of (codes "size") rows ≡ Some text → ((blocks : ℕ) → ¬ IsExtent text blocks)
    → (blocks : ℕ) → ¬ HasExtent rows blocks
no_extent_value rows text is none blocks h =
    none blocks (subst (λ (t : Text). IsExtent t blocks) (same_text h.0 text (sym h.1 ∙ is)) h.2)

pub one_extent_value : (rows : List Row) (a b : ℕ) → HasExtent rows a → HasExtent rows b → a ≡ b
one_extent_value rows a b h k =
    let text : h.0 ≡ k.0 = same_text h.0 k.0 (sym h.1 ∙ k.1) in
    one_extent k.0 a b (subst (λ (t : Text). IsExtent t a) text h.2) k.2

-- the same values of `make` by the room for volumes
pub record SameRoomValues (members chunk : ℕ) (size : Size) (over reserve : Bool) (m c : ℕ) (s : Size) (o r : Bool) : Type 0 where
  pub members_same : members ≡ m
  pub chunk_same : chunk ≡ c
  pub size_same : size ≡ s
  pub over_same : over ≡ o
  pub reserve_same : reserve ≡ r

pub one_room_values : (rows : List Row) (members chunk : ℕ) (size : Size) (over reserve : Bool) (m c : ℕ) (s : Size) (o r : Bool)
    → HasRoomValues rows members chunk size over reserve → HasRoomValues rows m c s o r → SameRoomValues members chunk size over reserve m c s o r
one_room_values rows members chunk size over reserve m c s o r h k = record {
  members_same = one_number rows (codes "members") members m h.members_is k.members_is;
  chunk_same = one_number_or rows (codes "chunk") 128 chunk c h.chunk_is k.chunk_is;
  size_same = one_room_value rows size s h.size_is k.size_is;
  over_same = one_flag rows (codes "over") over o h.over_is k.over_is;
  reserve_same = one_flag rows (codes "reserve") reserve r h.reserve_is k.reserve_is;
}

-- without `--size`, it is not the form with it
pub no_size_given : (rows : List Row) → first_of (codes "size") rows ≡ None → ¬ IsBySize rows
no_size_given rows none by_size =
    let some : IsSome (first_of (codes "size") rows) = by_size.has_size in
    let never = rw none at some in
    cc

-- `make` has one form
pub one_form : (rows : List Row) → IsByStripes rows → ¬ IsBySize rows
one_form rows by_stripes = no_size_given rows by_stripes.no_size

-- ---- one line

-- the name of a line's subcommand
abbrev pub change_name : Change → Text
change_name (Create volume blocks) = codes "create"
change_name (Extend volume blocks) = codes "extend"
change_name (Remove volume) = codes "remove"
change_name (Rename volume to) = codes "rename"
change_name change.List = codes "list"

abbrev pub invocation_name : Invocation → Text
invocation_name (Run folder id) = codes "run"
invocation_name (Serve folder id) = codes "serve"
invocation_name (Make folder id members chunk stripes) = codes "make"
invocation_name (MakeSized folder id members chunk size over reserve) = codes "make"
invocation_name (Status folder id json check) = codes "status"
invocation_name (Fail folder id slot) = codes "fail"
invocation_name (Replace folder id slot) = codes "replace"
invocation_name (Rebuild folder id steps) = codes "rebuild"
invocation_name (Scrub folder id) = codes "scrub"
invocation_name (Upgrade folder id) = codes "upgrade"
invocation_name (Examine folder id json check) = codes "examine"
invocation_name (ChangeVolumes folder id change) = change_name change

pub change_is : (name : Text) (rows : List Row) (change : Change) → SaysChange name rows change → name ≡ change_name change
change_is name rows (Create volume blocks) h = h.0
change_is name rows (Extend volume blocks) h = h.0
change_is name rows (Remove volume) h = h.0
change_is name rows (Rename volume to) h = h.0
change_is name rows change.List h = h

pub invocation_is : (name : Text) (rows : List Row) (choice : SetChoice) (line : Invocation) → SaysInvocation name rows choice line
    → name ≡ invocation_name line
invocation_is name rows choice (Run folder id) h = h.0
invocation_is name rows choice (Serve folder id) h = h.0
invocation_is name rows choice (Make folder id members chunk stripes) h = h.0
invocation_is name rows choice (MakeSized folder id members chunk size over reserve) h = h.0
invocation_is name rows choice (Status folder id json check) h = h.0
invocation_is name rows choice (Fail folder id slot) h = h.0
invocation_is name rows choice (Replace folder id slot) h = h.0
invocation_is name rows choice (Rebuild folder id steps) h = h.0
invocation_is name rows choice (Scrub folder id) h = h.0
invocation_is name rows choice (Upgrade folder id) h = h.0
invocation_is name rows choice (Examine folder id json check) h = h.0
invocation_is name rows choice (ChangeVolumes folder id change) h = change_is name rows change h.1

-- no line has a bad id
good_id : (name : Text) (rows : List Row) (choice : SetChoice) (line : Invocation) → SaysInvocation name rows choice line → ¬ HasBadId name rows
good_id name rows choice (Run folder id) h = no_bad_id name rows folder.now choice id h.1
good_id name rows choice (Serve folder id) h = no_bad_id name rows folder.now choice id h.1
good_id name rows choice (Make folder id members chunk stripes) h = no_bad_id name rows folder.now choice id h.1
good_id name rows choice (MakeSized folder id members chunk size over reserve) h = no_bad_id name rows folder.now choice id h.1
good_id name rows choice (Status folder id json check) h = no_bad_id name rows folder.now choice id h.1
good_id name rows choice (Fail folder id slot) h = no_bad_id name rows folder.now choice id h.1
good_id name rows choice (Replace folder id slot) h = no_bad_id name rows folder.now choice id h.1
good_id name rows choice (Rebuild folder id steps) h = no_bad_id name rows folder.now choice id h.1
good_id name rows choice (Scrub folder id) h = no_bad_id name rows folder.now choice id h.1
good_id name rows choice (Upgrade folder id) h = no_bad_id name rows folder.now choice id h.1
good_id name rows choice (Examine folder id json check) h = no_bad_some_id name rows choice id h.2
good_id name rows choice (ChangeVolumes folder id change) h = no_bad_id name rows folder.now choice id h.0

-- texts that differ are not one name
pub two_names : (a b : Text) → bytes_eq a b ≡ false → a ≡ b → ⊥
two_names a b differ is = true≢false (sym ((bytes_eq-Decides a b).1 is) ∙ differ)

-- a subcommand with the name of one line does not ask for another one
pub other_invocation : (name : Text) (rows : List Row) (choice : SetChoice) (line : Invocation) → bytes_eq name (invocation_name line) ≡ false
    → SaysInvocation name rows choice line → ⊥
other_invocation name rows choice line differ says = two_names name (invocation_name line) differ (invocation_is name rows choice line says)

-- nor for another change
pub other_change : (name : Text) (rows : List Row) (change : Change) → bytes_eq name (change_name change) ≡ false → ¬ SaysChange name rows change
other_change name rows change differ says = two_names name (change_name change) differ (change_is name rows change says)

-- a subcommand of another name changes no volumes
pub no_change : (name : Text) (rows : List Row) (change : Change) → bytes_eq name (codes "create") ≡ false → bytes_eq name (codes "extend") ≡ false
    → bytes_eq name (codes "remove") ≡ false → bytes_eq name (codes "rename") ≡ false → bytes_eq name (codes "list") ≡ false → ¬ SaysChange name rows change
no_change name rows (Create volume blocks) c e r n l h = two_names name (codes "create") c h.0
no_change name rows (Extend volume blocks) c e r n l h = two_names name (codes "extend") e h.0
no_change name rows (Remove volume) c e r n l h = two_names name (codes "remove") r h.0
no_change name rows (Rename volume to) c e r n l h = two_names name (codes "rename") n h.0
no_change name rows change.List c e r n l h = two_names name (codes "list") l h

-- a subcommand of one name is not one of another
other_name : (name a b : Text) → bytes_eq a b ≡ false → name ≡ a → name ≡ b → ⊥
other_name name a b differ is same = two_names a b differ (sym is ∙ same)

-- ---- a line or a fault

-- a line is in one of the forms of `make`
good_shape : (name : Text) (rows : List Row) (choice : SetChoice) (line : Invocation) → SaysInvocation name rows choice line → name ≡ codes "make"
    → ¬ IsMisshapen rows
good_shape name rows choice (Make folder id members chunk stripes) h make bad = bad.0 h.3
good_shape name rows choice (MakeSized folder id members chunk size over reserve) h make bad = bad.1 h.2.by_size
good_shape name rows choice (ChangeVolumes folder id (Create volume blocks)) h make bad = other_name name (codes "create") (codes "make") refl h.1.0 make
good_shape name rows choice (ChangeVolumes folder id (Extend volume blocks)) h make bad = other_name name (codes "extend") (codes "make") refl h.1.0 make
good_shape name rows choice (ChangeVolumes folder id (Remove volume)) h make bad = other_name name (codes "remove") (codes "make") refl h.1.0 make
good_shape name rows choice (ChangeVolumes folder id (Rename volume to)) h make bad = other_name name (codes "rename") (codes "make") refl h.1.0 make
good_shape name rows choice (ChangeVolumes folder id change.List) h make bad = other_name name (codes "list") (codes "make") refl h.1 make
good_shape name rows choice line h make bad = other_name name (invocation_name line) (codes "make") refl (invocation_is name rows choice line h) make

-- its sizes are such
good_room : (name : Text) (rows : List Row) (choice : SetChoice) (line : Invocation) → SaysInvocation name rows choice line → name ≡ codes "make"
    → IsBySize rows → ((size : Size) → ¬ HasRoom rows size) → ⊥
good_room name rows choice (Make folder id members chunk stripes) h make by_size bad = one_form rows h.3 by_size
good_room name rows choice (MakeSized folder id members chunk size over reserve) h make by_size bad = bad size h.2.size_is
good_room name rows choice (ChangeVolumes folder id (Create volume blocks)) h make by_size bad =
    other_name name (codes "create") (codes "make") refl h.1.0 make
good_room name rows choice (ChangeVolumes folder id (Extend volume blocks)) h make by_size bad =
    other_name name (codes "extend") (codes "make") refl h.1.0 make
good_room name rows choice (ChangeVolumes folder id (Remove volume)) h make by_size bad = other_name name (codes "remove") (codes "make") refl h.1.0 make
good_room name rows choice (ChangeVolumes folder id (Rename volume to)) h make by_size bad = other_name name (codes "rename") (codes "make") refl h.1.0 make
good_room name rows choice (ChangeVolumes folder id change.List) h make by_size bad = other_name name (codes "list") (codes "make") refl h.1 make
good_room name rows choice line h make by_size bad = other_name name (invocation_name line) (codes "make") refl (invocation_is name rows choice line h) make

-- the name is one of these two
neither : (name other : Text) → bytes_eq other (codes "create") ≡ false → bytes_eq other (codes "extend") ≡ false → name ≡ other
    → (name ≡ codes "create") ⊎ (name ≡ codes "extend") → ⊥
neither name other a b is (inl same) = other_name name other (codes "create") a is same
neither name other a b is (inr same) = other_name name other (codes "extend") b is same

good_extent : (name : Text) (rows : List Row) (choice : SetChoice) (line : Invocation) → SaysInvocation name rows choice line
    → (name ≡ codes "create") ⊎ (name ≡ codes "extend") → ((blocks : ℕ) → ¬ HasExtent rows blocks) → ⊥
good_extent name rows choice (ChangeVolumes folder id (Create volume blocks)) h named bad = bad blocks h.1.2
good_extent name rows choice (ChangeVolumes folder id (Extend volume blocks)) h named bad = bad blocks h.1.2
good_extent name rows choice (ChangeVolumes folder id (Remove volume)) h named bad = neither name (codes "remove") refl refl h.1.0 named
good_extent name rows choice (ChangeVolumes folder id (Rename volume to)) h named bad = neither name (codes "rename") refl refl h.1.0 named
good_extent name rows choice (ChangeVolumes folder id change.List) h named bad = neither name (codes "list") refl refl h.1 named
good_extent name rows choice line h named bad = neither name (invocation_name line) refl refl (invocation_is name rows choice line h) named

good_size : (name : Text) (rows : List Row) (choice : SetChoice) (line : Invocation) → SaysInvocation name rows choice line → ¬ HasBadSize name rows
good_size name rows choice line h (of_room make by_size bad) = good_room name rows choice line h make by_size bad
good_size name rows choice line h (of_extent named bad) = good_extent name rows choice line h named bad

-- what is asked for has no fault
no_fault : (name : Text) (rows : List Row) (asked : Asked) (fault : InvocationFault) → AsksIn name rows asked → IsFaultIn name rows fault → ⊥
no_fault name rows asked BadId h bad = good_id name rows asked.choice asked.line h bad
no_fault name rows asked BadShape h bad = good_shape name rows asked.choice asked.line h bad.1 bad.2
no_fault name rows asked BadSize h bad = good_size name rows asked.choice asked.line h bad.1
no_fault name rows asked (Usage error) h bad = bad

-- the fault is no word of clap's
abbrev pub IsOwn : InvocationFault → Type 0
IsOwn (Usage error) = ⊥
IsOwn fault = Unit {0}

entered_fault : (words : List Text) (fault : InvocationFault) → IsOwn fault → IsFaultOf words fault
    → (name : Text) × (rows : List Row) × Enters words name rows × IsFaultIn name rows fault
entered_fault words BadId own h = h
entered_fault words BadShape own h = h
entered_fault words BadSize own h = h
entered_fault words (Usage error) own h = absurd own

-- of words that ask for something, the program finds no fault
pub not_refused : (words : List Text) (asked : Asked) (fault : InvocationFault) → IsOwn fault → AsksFor words asked → IsFaultOf words fault → ⊥
not_refused words asked fault own asks bad =
    let f = entered_fault words fault own bad in
    let name = one_name words f.0 asks.0 f.1 asks.1 f.2 asks.2 in
    let rows = one_rows words f.0 asks.0 f.1 asks.1 f.2 asks.2 in
    no_fault asks.0 asks.1 asked fault asks.3
    (subst (λ (n : Text). IsFaultIn n asks.1 fault) name (subst (λ (rs : List Row). IsFaultIn f.0 rs fault) rows f.3))

-- ---- one fault

-- a subcommand has one fault
one_in : (name : Text) (rows : List Row) (a b : InvocationFault) → IsFaultIn name rows a → IsFaultIn name rows b → a ≡ b
one_in name rows BadId BadId h k = refl
one_in name rows BadShape BadShape h k = refl
one_in name rows BadSize BadSize h k = refl
one_in name rows BadId BadShape h k = absurd (k.0 h)
one_in name rows BadId BadSize h k = absurd (k.0 h)
one_in name rows BadShape BadId h k = absurd (h.0 k)
one_in name rows BadSize BadId h k = absurd (h.0 k)
one_in name rows BadShape BadSize h k = absurd (sized name rows h.1 h.2 k.1)
  where
    sized : (name : Text) (rows : List Row) → name ≡ codes "make" → IsMisshapen rows → HasBadSize name rows → ⊥
    sized name rows make bad (of_room is by_size none) = bad.1 by_size
    sized name rows make bad (of_extent named none) = neither name (codes "make") refl refl make named
one_in name rows BadSize BadShape h k = absurd (sized name rows k.1 k.2 h.1)
  where
    sized : (name : Text) (rows : List Row) → name ≡ codes "make" → IsMisshapen rows → HasBadSize name rows → ⊥
    sized name rows make bad (of_room is by_size none) = bad.1 by_size
    sized name rows make bad (of_extent named none) = neither name (codes "make") refl refl make named
one_in name rows (Usage error) b h k = absurd h
one_in name rows a (Usage error) h k = absurd k

-- words have one fault of the program's own
pub one_fault : (words : List Text) (a b : InvocationFault) → IsOwn a → IsOwn b → IsFaultOf words a → IsFaultOf words b → a ≡ b
one_fault words a b own its h k =
    let f = entered_fault words a own h in
    let g = entered_fault words b its k in
    let name = one_name words f.0 g.0 f.1 g.1 f.2 g.2 in
    let rows = one_rows words f.0 g.0 f.1 g.1 f.2 g.2 in
    one_in g.0 g.1 a b (subst (λ (n : Text). IsFaultIn n g.1 a) name (subst (λ (rs : List Row). IsFaultIn f.0 rs a) rows f.3)) g.3

-- ---- one line at most

-- the same change, whose names may lie elsewhere in memory
abbrev pub SameChange : Change → Change → Type 0
SameChange (Create a m) (Create b n) = (a.now ≡ b.now) × (m ≡ n)
SameChange (Extend a m) (Extend b n) = (a.now ≡ b.now) × (m ≡ n)
SameChange (Remove a) (Remove b) = a.now ≡ b.now
SameChange (Rename a p) (Rename b q) = (a.now ≡ b.now) × (p.now ≡ q.now)
SameChange change.List change.List = Unit {0}
SameChange _ _ = ⊥

-- the same line, whose texts may lie elsewhere in memory
abbrev pub SameInvocation : Invocation → Invocation → Type 0
SameInvocation (Run f i) (Run g j) = (f.now ≡ g.now) × (i ≡ j)
SameInvocation (Serve f i) (Serve g j) = (f.now ≡ g.now) × (i ≡ j)
SameInvocation (Make f i members chunk stripes) (Make g j m c s) = (f.now ≡ g.now) × (i ≡ j) × SameSizes members chunk stripes m c s
SameInvocation (MakeSized f i members chunk size over reserve) (MakeSized g j m c s o r) =
    (f.now ≡ g.now) × (i ≡ j) × SameRoomValues members chunk size over reserve m c s o r
SameInvocation (Status f i json check) (Status g j as_json as_check) = (f.now ≡ g.now) × (i ≡ j) × (json ≡ as_json) × (check ≡ as_check)
SameInvocation (Fail f i slot) (Fail g j k) = (f.now ≡ g.now) × (i ≡ j) × (slot ≡ k)
SameInvocation (Replace f i slot) (Replace g j k) = (f.now ≡ g.now) × (i ≡ j) × (slot ≡ k)
SameInvocation (Rebuild f i steps) (Rebuild g j t) = (f.now ≡ g.now) × (i ≡ j) × (steps ≡ t)
SameInvocation (Scrub f i) (Scrub g j) = (f.now ≡ g.now) × (i ≡ j)
SameInvocation (Upgrade f i) (Upgrade g j) = (f.now ≡ g.now) × (i ≡ j)
SameInvocation (Examine f i json check) (Examine g j as_json as_check) = (f.now ≡ g.now) × (i ≡ j) × (json ≡ as_json) × (check ≡ as_check)
SameInvocation (ChangeVolumes f i change) (ChangeVolumes g j d) = (f.now ≡ g.now) × (i ≡ j) × SameChange change d
SameInvocation _ _ = ⊥

-- the same line of the same choice
pub record SameAsked (a b : Asked) : Type 0 where
  pub choice_same : a.choice ≡ b.choice
  pub line_same : SameInvocation a.line b.line

one_change : (name : Text) (rows : List Row) (a b : Change) → SaysChange name rows a → SaysChange name rows b → SameChange a b
one_change name rows (Create a m) (Create b n) h k = (same_text a.now b.now (sym h.1 ∙ k.1), one_extent_value rows m n h.2 k.2)
one_change name rows (Extend a m) (Extend b n) h k = (same_text a.now b.now (sym h.1 ∙ k.1), one_extent_value rows m n h.2 k.2)
one_change name rows (Remove a) (Remove b) h k = same_text a.now b.now (sym h.1 ∙ k.1)
one_change name rows (Rename a p) (Rename b q) h k = (same_text a.now b.now (sym h.1 ∙ k.1), same_text p.now q.now (sym h.2 ∙ k.2))
one_change name rows change.List change.List h k = tt
one_change name rows a b h k = absurd (two_names (change_name a) (change_name b) refl (sym (change_is name rows a h) ∙ change_is name rows b k))

-- two lines of one set
module _ (name : Text) (rows : List Row) (c d : SetChoice) where
  -- the same set, in the same folder
  of_set : (f g : Text) (i j : List ℕ) → NamesSet name rows f c i → NamesSet name rows g d j → (c ≡ d) × (f ≡ g) × (i ≡ j)
  of_set f g i j h k =
      let set = one_set name rows f g c d i j h k in
      (set.choice_same, one_folder name rows f g c d i j h k, set.id_same)

  -- one subcommand with its rows says one line
  pub one_said : (a b : Invocation) → SaysInvocation name rows c a → SaysInvocation name rows d b → (c ≡ d) × SameInvocation a b
  one_said (Run f i) (Run g j) h k =
      let set = of_set f.now g.now i j h.1 k.1 in
      (set.0, (set.1, set.2))
  one_said (Serve f i) (Serve g j) h k =
      let set = of_set f.now g.now i j h.1 k.1 in
      (set.0, (set.1, set.2))
  one_said (Make f i members chunk stripes) (Make g j m n s) h k =
      let set = of_set f.now g.now i j h.1 k.1 in
      (set.0, (set.1, set.2, one_sizes rows members chunk stripes m n s h.2 k.2))
  one_said (Make f i members chunk stripes) (MakeSized g j m n s o r) h k = absurd (one_form rows h.3 k.2.by_size)
  one_said (MakeSized f i members chunk size over reserve) (Make g j m n s) h k = absurd (one_form rows k.3 h.2.by_size)
  one_said (MakeSized f i members chunk size over reserve) (MakeSized g j m n s o r) h k =
      let set = of_set f.now g.now i j h.1 k.1 in
      (set.0, (set.1, set.2, one_room_values rows members chunk size over reserve m n s o r h.2 k.2))
  one_said (Status f i json check) (Status g j as_json as_check) h k =
      let set = of_set f.now g.now i j h.1 k.1 in
      (set.0, (set.1, set.2, one_flag rows (codes "json") json as_json h.2 k.2, one_flag rows (codes "check") check as_check h.3 k.3))
  one_said (Fail f i slot) (Fail g j k') h k =
      let set = of_set f.now g.now i j h.1 k.1 in
      (set.0, (set.1, set.2, one_number rows (codes "slot") slot k' h.2 k.2))
  one_said (Replace f i slot) (Replace g j k') h k =
      let set = of_set f.now g.now i j h.1 k.1 in
      (set.0, (set.1, set.2, one_number rows (codes "slot") slot k' h.2 k.2))
  one_said (Rebuild f i steps) (Rebuild g j t) h k =
      let set = of_set f.now g.now i j h.1 k.1 in
      (set.0, (set.1, set.2, one_count rows (codes "steps") steps t h.2 k.2))
  one_said (Scrub f i) (Scrub g j) h k =
      let set = of_set f.now g.now i j h.1 k.1 in
      (set.0, (set.1, set.2))
  one_said (Upgrade f i) (Upgrade g j) h k =
      let set = of_set f.now g.now i j h.1 k.1 in
      (set.0, (set.1, set.2))
  one_said (Examine f i json check) (Examine g j as_json as_check) h k =
      let set = one_some_id name rows c d i j h.2 k.2 in
      let folder = same_text f.now g.now (sym h.1 ∙ k.1) in
      let as_json_same = one_flag rows (codes "json") json as_json h.3 k.3 in
      let checks = one_flag rows (codes "check") check as_check h.4 k.4 in
      (set.choice_same, (folder, set.id_same, as_json_same, checks))
  one_said (ChangeVolumes f i a) (ChangeVolumes g j b) h k =
      let set = of_set f.now g.now i j h.0 k.0 in
      (set.0, (set.1, set.2, one_change name rows a b h.1 k.1))
  one_said (ChangeVolumes f i (Create a m)) b h k = absurd (two_names (codes "create") (invocation_name b) refl (sym h.1.0 ∙ invocation_is name rows d b k))
  one_said (ChangeVolumes f i (Extend a m)) b h k = absurd (two_names (codes "extend") (invocation_name b) refl (sym h.1.0 ∙ invocation_is name rows d b k))
  one_said (ChangeVolumes f i (Remove a)) b h k = absurd (two_names (codes "remove") (invocation_name b) refl (sym h.1.0 ∙ invocation_is name rows d b k))
  one_said (ChangeVolumes f i (Rename a p)) b h k = absurd (two_names (codes "rename") (invocation_name b) refl (sym h.1.0 ∙ invocation_is name rows d b k))
  one_said (ChangeVolumes f i change.List) b h k = absurd (two_names (codes "list") (invocation_name b) refl (sym h.1 ∙ invocation_is name rows d b k))
  one_said a (ChangeVolumes f i (Create b m)) h k = absurd (two_names (invocation_name a) (codes "create") refl (sym (invocation_is name rows c a h) ∙ k.1.0))
  one_said a (ChangeVolumes f i (Extend b m)) h k = absurd (two_names (invocation_name a) (codes "extend") refl (sym (invocation_is name rows c a h) ∙ k.1.0))
  one_said a (ChangeVolumes f i (Remove b)) h k = absurd (two_names (invocation_name a) (codes "remove") refl (sym (invocation_is name rows c a h) ∙ k.1.0))
  one_said a (ChangeVolumes f i (Rename b p)) h k = absurd (two_names (invocation_name a) (codes "rename") refl (sym (invocation_is name rows c a h) ∙ k.1.0))
  one_said a (ChangeVolumes f i change.List) h k = absurd (two_names (invocation_name a) (codes "list") refl (sym (invocation_is name rows c a h) ∙ k.1))
  one_said a b h k =
      absurd (two_names (invocation_name a) (invocation_name b) refl (sym (invocation_is name rows c a h) ∙ invocation_is name rows d b k))

pub one_asked : (words : List Text) (a b : Asked) → AsksFor words a → AsksFor words b → SameAsked a b
one_asked words a b h k =
    let name = one_name words k.0 h.0 k.1 h.1 k.2 h.2 in
    let rows = one_rows words k.0 h.0 k.1 h.1 k.2 h.2 in
    let same = one_said h.0 h.1 a.choice b.choice a.line b.line h.3
    (subst (λ (t : Text). AsksIn t h.1 b) name (subst (λ (rs : List Row). AsksIn k.0 rs b) rows k.3)) in
    record { choice_same = same.0; line_same = same.1 }
