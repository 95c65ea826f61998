-- What words ask for, and what is wrong with them.
use Rattle.std.specs.Prelude.{◌≡◌, ◌≢◌, ◌⊎◌, ◌≤◌, ℕ, Bool, false, pos, List, [], Option, Some, None, Ok, IsSome, codes, length, replicate}
use Rattle.std.specs.List.{AllPass}
use Rattle.std.specs.Str.Parse.{signed_digits_value}
use Rattle.hex.specs.Hex.{decode_of, is_hex_digit}
use Rattle.clap.specs.Words.{Row, Text, first_of, subcommand_of}
use Rattle.clap.specs.Faults.{fault_of}
use Rattle.clap.specs.Kinds.{HasKind}
use Rattle.clap.specs.Values.{bool_text}
use Rattle.command_line.specs.declared.Invocation.{Invocation}
use Rattle.command_line.specs.declared.Asked.{Asked}
use Rattle.command_line.specs.declared.Change.{Change}
use Rattle.command_line.specs.declared.Change.TheVariants.{Create, Extend, Remove, Rename}
use Rattle.command_line.specs.declared.Change.TheVariants as change
use Rattle.command_line.specs.declared.Invocation.TheVariants.{Examine, Fail, Make, MakeSized, Rebuild, Replace, Run, Scrub, Serve, Status, Upgrade}
use Rattle.command_line.specs.declared.Invocation.TheVariants.{Change as ChangeVolumes}
use Rattle.command_line.specs.declared.InvocationFault.{InvocationFault}
use Rattle.command_line.specs.declared.InvocationFault.TheVariants.{BadId, BadShape, BadSize, Usage}
use Rattle.command_line.specs.declared.SetChoice.{SetChoice}
use Rattle.command_line.specs.declared.SetChoice.TheVariants.{Given, New, Only}
use Rattle.command_line.specs.declared.Size.{Size}
use Rattle.command_line.specs.Commands.{raidtool_app}
use Rattle.command_line.specs.Sizes.{IsExtent, IsRoom}

-- clap takes the words as the program's
abbrev pub IsTaken : List Text → Type 0
IsTaken words = fault_of raidtool_app words ≡ []

-- clap takes the words as those of the subcommand of this name, and these rows are what it finds after the name
pub record Enters (words : List Text) (name : Text) (rows : List Row) : Type 0 where
  pub taken : IsTaken words
  pub entered : subcommand_of raidtool_app words ≡ Some (name, rows)

-- ---- the id

-- 32 hexadecimal digits of either case
abbrev pub IsIdText : Text → Type 0
IsIdText text = (length text ≡ 32) × AllPass is_hex_digit text

-- what stands for the id of a set that the words don't give
abbrev pub no_id : List ℕ
no_id = replicate 16 0

-- the value of `--id` of the command of this name chooses this set: by the bytes that it spells, a new one by `new`, which is for `make` alone,
-- or the only one by `auto`, which is for all others
abbrev pub Chooses : (name text : Text) → SetChoice → List ℕ → Type 0
Chooses name text Given id = IsIdText text × (decode_of text ≡ Ok id)
Chooses name text New id = (name ≡ codes "make") × (text ≡ codes "new") × (id ≡ no_id)
Chooses name text Only id = (name ≢ codes "make") × (text ≡ codes "auto") × (id ≡ no_id)

-- it may be this text
abbrev pub IsChoice : (name text : Text) → Type 0
IsChoice name text = IsIdText text ⊎ (((name ≡ codes "make") × (text ≡ codes "new")) ⊎ ((name ≢ codes "make") × (text ≡ codes "auto")))

-- FOLDER is this, and the value of `--id` chooses this set
pub record NamesSet (name : Text) (rows : List Row) (folder : Text) (choice : SetChoice) (id : List ℕ) : Type 0 where
  pub text : Text
  pub folder_value : first_of (codes "folder") rows ≡ Some folder
  pub id_value : first_of (codes "id") rows ≡ Some text
  pub chosen : Chooses name text choice id

-- the value of `--id` chooses no set
abbrev pub HasBadId : Text → List Row → Type 0
HasBadId name rows = (text : Text) × (first_of (codes "id") rows ≡ Some text) × ¬ IsChoice name text

-- the value of `--id` chooses this set; None where the option is left out
abbrev pub ChoosesOrNone : Text → List Row → SetChoice → Option (List ℕ) → Type 0
ChoosesOrNone name rows choice None = (first_of (codes "id") rows ≡ None) × (choice ≡ Given)
ChoosesOrNone name rows choice (Some id) = (text : Text) × (first_of (codes "id") rows ≡ Some text) × Chooses name text choice id

-- ---- the other values

-- the text is this number in decimal digits, before which a sign may stand
abbrev pub Spells : Text → ℕ → Type 0
Spells text n = signed_digits_value 10 text ≡ pos n

-- the value of the option of this name is this number
abbrev pub HasNumber : List Row → Text → ℕ → Type 0
HasNumber rows name n = (text : Text) × (first_of name rows ≡ Some text) × Spells text n

-- the value of the option of this name is this number, of 1 or more; None where the option is left out
abbrev pub HasCount : List Row → Text → Option ℕ → Type 0
HasCount rows name None = first_of name rows ≡ None
HasCount rows name (Some n) = HasNumber rows name n × (1 ≤ n)

-- the value of the flag of this name: true where it is given
abbrev pub HasFlag : List Row → Text → Bool → Type 0
HasFlag rows name is_given = first_of name rows ≡ Some (bool_text is_given)

-- the values of three options of `make` are these numbers
pub record HasSizes (rows : List Row) (members chunk stripes : ℕ) : Type 0 where
  pub members_is : HasNumber rows (codes "members") members
  pub chunk_is : HasNumber rows (codes "chunk") chunk
  pub stripes_is : HasNumber rows (codes "stripes") stripes

-- the value of the option of this name is this number, which is `absent` where the option is left out
abbrev pub HasNumberOr : List Row → Text → (absent n : ℕ) → Type 0
HasNumberOr rows name absent n = ((first_of name rows ≡ None) × (n ≡ absent)) ⊎ HasNumber rows name n

-- ---- the two forms of `make`

-- `make` by chunks and stripes: both are given, and no option is that goes with `--size`
pub record IsByStripes (rows : List Row) : Type 0 where
  pub no_size : first_of (codes "size") rows ≡ None
  pub has_chunk : IsSome (first_of (codes "chunk") rows)
  pub has_stripes : IsSome (first_of (codes "stripes") rows)
  pub not_over : HasFlag rows (codes "over") false
  pub no_reserve : HasFlag rows (codes "reserve") false

-- `make` by the room for volumes: `--size` is given, and the stripes are not
pub record IsBySize (rows : List Row) : Type 0 where
  pub has_size : IsSome (first_of (codes "size") rows)
  pub no_stripes : first_of (codes "stripes") rows ≡ None

-- the value of `--size` is this much room
abbrev pub HasRoom : List Row → Size → Type 0
HasRoom rows size = (text : Text) × (first_of (codes "size") rows ≡ Some text) × IsRoom text size

-- what `make` by the room for volumes is given
pub record HasRoomValues (rows : List Row) (members chunk : ℕ) (size : Size) (over reserve : Bool) : Type 0 where
  pub by_size : IsBySize rows
  pub members_is : HasNumber rows (codes "members") members
  pub chunk_is : HasNumberOr rows (codes "chunk") 128 chunk
  pub size_is : HasRoom rows size
  pub over_is : HasFlag rows (codes "over") over
  pub reserve_is : HasFlag rows (codes "reserve") reserve

-- ---- volumes

-- SIZE is so many blocks
abbrev pub HasExtent : List Row → ℕ → Type 0
HasExtent rows blocks = (text : Text) × (first_of (codes "size") rows ≡ Some text) × IsExtent text blocks

-- the subcommand of this name with these rows asks for this change
abbrev pub SaysChange : Text → List Row → Change → Type 0
SaysChange name rows (Create volume blocks) = (name ≡ codes "create") × (first_of (codes "name") rows ≡ Some volume.now) × HasExtent rows blocks
SaysChange name rows (Extend volume blocks) = (name ≡ codes "extend") × (first_of (codes "name") rows ≡ Some volume.now) × HasExtent rows blocks
SaysChange name rows (Remove volume) = (name ≡ codes "remove") × (first_of (codes "name") rows ≡ Some volume.now)
SaysChange name rows (Rename volume to) = (name ≡ codes "rename") × (first_of (codes "name") rows ≡ Some volume.now)
    × (first_of (codes "new") rows ≡ Some to.now)
SaysChange name rows change.List = name ≡ codes "list"

-- ---- what words ask for

-- the subcommand of this name with these rows asks for this line of the set that is chosen so
abbrev pub SaysInvocation : Text → List Row → SetChoice → Invocation → Type 0
SaysInvocation name rows choice (Run folder id) = (name ≡ codes "run") × NamesSet name rows folder.now choice id
SaysInvocation name rows choice (Serve folder id) = (name ≡ codes "serve") × NamesSet name rows folder.now choice id
SaysInvocation name rows choice (Make folder id members chunk stripes) = (name ≡ codes "make") × NamesSet name rows folder.now choice id
    × HasSizes rows members chunk stripes × IsByStripes rows
SaysInvocation name rows choice (MakeSized folder id members chunk size over reserve) = (name ≡ codes "make") × NamesSet name rows folder.now choice id
    × HasRoomValues rows members chunk size over reserve
SaysInvocation name rows choice (Status folder id json check) = (name ≡ codes "status") × NamesSet name rows folder.now choice id
    × HasFlag rows (codes "json") json × HasFlag rows (codes "check") check
SaysInvocation name rows choice (Fail folder id slot) = (name ≡ codes "fail") × NamesSet name rows folder.now choice id × HasNumber rows (codes "slot") slot
SaysInvocation name rows choice (Replace folder id slot) = (name ≡ codes "replace") × NamesSet name rows folder.now choice id
    × HasNumber rows (codes "slot") slot
SaysInvocation name rows choice (Rebuild folder id steps) = (name ≡ codes "rebuild") × NamesSet name rows folder.now choice id
    × HasCount rows (codes "steps") steps
SaysInvocation name rows choice (Scrub folder id) = (name ≡ codes "scrub") × NamesSet name rows folder.now choice id
SaysInvocation name rows choice (Upgrade folder id) = (name ≡ codes "upgrade") × NamesSet name rows folder.now choice id
SaysInvocation name rows choice (Examine folder id json check) = (name ≡ codes "examine") × (first_of (codes "folder") rows ≡ Some folder.now)
    × ChoosesOrNone name rows choice id × HasFlag rows (codes "json") json × HasFlag rows (codes "check") check
SaysInvocation name rows choice (ChangeVolumes folder id change) = NamesSet name rows folder.now choice id × SaysChange name rows change

-- the subcommand of this name with these rows asks for this
abbrev pub AsksIn : Text → List Row → Asked → Type 0
AsksIn name rows asked = SaysInvocation name rows asked.choice asked.line

-- the words ask for this
abbrev pub AsksFor : List Text → Asked → Type 0
AsksFor words asked = (name : Text) × (rows : List Row) × Enters words name rows × AsksIn name rows asked

-- ---- what is wrong with words

-- the options of `make` are those of neither form
abbrev pub IsMisshapen : List Row → Type 0
IsMisshapen rows = ¬ IsByStripes rows × ¬ IsBySize rows

-- the value of `--size`, or SIZE, is no size
pub data HasBadSize (name : Text) (rows : List Row) : Type 0 where
  of_room : name ≡ codes "make" → IsBySize rows → ((size : Size) → ¬ HasRoom rows size) → HasBadSize name rows
  of_extent : (name ≡ codes "create") ⊎ (name ≡ codes "extend") → ((blocks : ℕ) → ¬ HasExtent rows blocks) → HasBadSize name rows

-- what is wrong with the values of the subcommand of this name, which clap took: the id comes first
abbrev pub IsFaultIn : Text → List Row → InvocationFault → Type 0
IsFaultIn name rows BadId = HasBadId name rows
IsFaultIn name rows BadShape = ¬ HasBadId name rows × (name ≡ codes "make") × IsMisshapen rows
IsFaultIn name rows BadSize = ¬ HasBadId name rows × HasBadSize name rows
IsFaultIn name rows (Usage error) = ⊥

-- why the words are no invocation of the program: what clap says of them, or what is wrong with values that clap takes
abbrev pub IsFaultOf : List Text → InvocationFault → Type 0
IsFaultOf words (Usage error) = HasKind (fault_of raidtool_app words) error
IsFaultOf words fault = (name : Text) × (rows : List Row) × Enters words name rows × IsFaultIn name rows fault

-- ---- the id of a line

-- the line with this id in place of its own
abbrev pub with_id : Invocation → List ℕ → Invocation
with_id (Run folder old) id = Run folder id
with_id (Serve folder old) id = Serve folder id
with_id (Make folder old members chunk stripes) id = Make folder id members chunk stripes
with_id (MakeSized folder old members chunk size over reserve) id = MakeSized folder id members chunk size over reserve
with_id (Status folder old json check) id = Status folder id json check
with_id (Fail folder old slot) id = Fail folder id slot
with_id (Replace folder old slot) id = Replace folder id slot
with_id (Rebuild folder old steps) id = Rebuild folder id steps
with_id (Scrub folder old) id = Scrub folder id
with_id (Upgrade folder old) id = Upgrade folder id
with_id (Examine folder old json check) id = Examine folder (Some id) json check
with_id (ChangeVolumes folder old change) id = ChangeVolumes folder id change
