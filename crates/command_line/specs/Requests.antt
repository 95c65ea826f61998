-- What may be asked of the program in plain words: each option after FOLDER, in one order, and the numbers in decimal digits.
use Rattle.std.specs.Prelude.{◌≡◌, ◌≢◌, ◌⊎◌, ◌≤◌, ◌<◌, ◌^◌, true, false, ℕ, Bool, List, [], ◌∷◌, ◌++◌, Option, Some, None, Result, Ok, Err, IfSome, codes}
use Rattle.std.specs.Prelude.{decimal}
use Rattle.std.specs.Prelude.{slice_get}
use Rattle.clap.specs.Words.{Text}
use Rattle.clap.specs.Values.{kind_of}
use Rattle.clap.specs.declared.error.kind.ErrorKind.TheVariants.{OutOfMemory}
use Rattle.command_line.specs.declared.Invocation.{Invocation}
use Rattle.command_line.specs.declared.Asked.{Asked}
use Rattle.command_line.specs.declared.Change.TheVariants.{Create, Extend, Remove, Rename}
use Rattle.command_line.specs.declared.Change.TheVariants as change
use Rattle.command_line.specs.declared.Invocation.TheVariants.{Examine, Fail, Make, MakeSized, Rebuild, Replace, Run, Scrub, Serve, Status, Upgrade}
use Rattle.command_line.specs.declared.Invocation.TheVariants.{Change as ChangeVolumes}
use Rattle.command_line.specs.declared.InvocationFault.{InvocationFault}
use Rattle.command_line.specs.declared.InvocationFault.TheVariants.{Usage}
use Rattle.command_line.specs.declared.SetChoice.{SetChoice}
use Rattle.command_line.specs.declared.SetChoice.TheVariants.{Given}
use Rattle.command_line.specs.declared.Size.{Size}
use Rattle.command_line.specs.Invocations.{Chooses, IsIdText}
use Rattle.command_line.specs.Sizes.{IsExtent, IsRoom}

-- each command, with the folder, the text of the id and the values that it is given; sizes are texts, and what may be left out is an Option, or a flag
pub data Request : Type 0 where
  RunOf : (folder id : Text) → Request
  ServeOf : (folder id : Text) → Request
  MakeOf : (folder id : Text) (members chunk stripes : ℕ) → Request
  StatusOf : (folder id : Text) (json check : Bool) → Request
  FailOf : (folder id : Text) (slot : ℕ) → Request
  ReplaceOf : (folder id : Text) (slot : ℕ) → Request
  RebuildOf : (folder id : Text) (steps : Option ℕ) → Request
  ScrubOf : (folder id : Text) → Request
  UpgradeOf : (folder id : Text) → Request
  ExamineOf : (folder : Text) (id : Option Text) (json check : Bool) → Request
  MakeSizedOf : (folder id : Text) (members : ℕ) (size : Text) (chunk : Option ℕ) (over reserve : Bool) → Request
  CreateOf : (folder name size id : Text) → Request
  ExtendOf : (folder name size id : Text) → Request
  RemoveOf : (folder name id : Text) → Request
  RenameOf : (folder name to id : Text) → Request
  ListOf : (folder id : Text) → Request

-- ---- its words

-- `--id H`, or nothing
abbrev pub id_words : Option Text → List Text
id_words None = []
id_words (Some id) = codes "--id" ∷ id ∷ []

-- `--steps T`, or nothing
abbrev pub steps_words : Option ℕ → List Text
steps_words None = []
steps_words (Some steps) = codes "--steps" ∷ decimal steps ∷ []

-- the words `--json` and `--check`, where they are given
abbrev pub flag_words : (json check : Bool) → List Text
flag_words true true = codes "--json" ∷ codes "--check" ∷ []
flag_words true false = codes "--json" ∷ []
flag_words false true = codes "--check" ∷ []
flag_words false false = []

-- `--chunk C`, or nothing
abbrev pub chunk_words : Option ℕ → List Text
chunk_words None = []
chunk_words (Some chunk) = codes "--chunk" ∷ decimal chunk ∷ []

-- the words `--over` and `--reserve`, where they are given
abbrev pub making_words : (over reserve : Bool) → List Text
making_words true true = codes "--over" ∷ codes "--reserve" ∷ []
making_words true false = codes "--over" ∷ []
making_words false true = codes "--reserve" ∷ []
making_words false false = []

-- the words of a command
abbrev pub words_of : Request → List Text
words_of (RunOf folder id) = codes "run" ∷ folder ∷ codes "--id" ∷ id ∷ []
words_of (ServeOf folder id) = codes "serve" ∷ folder ∷ codes "--id" ∷ id ∷ []
words_of (MakeOf folder id members chunk stripes) = codes "make" ∷ folder ∷ codes "--id" ∷ id ∷ codes "--members" ∷ decimal members
    ∷ codes "--chunk" ∷ decimal chunk ∷ codes "--stripes" ∷ decimal stripes ∷ []
words_of (StatusOf folder id json check) = codes "status" ∷ folder ∷ codes "--id" ∷ id ∷ flag_words json check
words_of (FailOf folder id slot) = codes "fail" ∷ folder ∷ codes "--id" ∷ id ∷ codes "--slot" ∷ decimal slot ∷ []
words_of (ReplaceOf folder id slot) = codes "replace" ∷ folder ∷ codes "--id" ∷ id ∷ codes "--slot" ∷ decimal slot ∷ []
words_of (RebuildOf folder id steps) = codes "rebuild" ∷ folder ∷ codes "--id" ∷ id ∷ steps_words steps
words_of (ScrubOf folder id) = codes "scrub" ∷ folder ∷ codes "--id" ∷ id ∷ []
words_of (UpgradeOf folder id) = codes "upgrade" ∷ folder ∷ codes "--id" ∷ id ∷ []
words_of (ExamineOf folder id json check) = codes "examine" ∷ folder ∷ (id_words id ++ flag_words json check)
words_of (MakeSizedOf folder id members size chunk over reserve) = codes "make" ∷ folder ∷ codes "--id" ∷ id ∷ codes "--members" ∷ decimal members
    ∷ codes "--size" ∷ size ∷ (chunk_words chunk ++ making_words over reserve)
words_of (CreateOf folder name size id) = codes "create" ∷ folder ∷ name ∷ size ∷ codes "--id" ∷ id ∷ []
words_of (ExtendOf folder name size id) = codes "extend" ∷ folder ∷ name ∷ size ∷ codes "--id" ∷ id ∷ []
words_of (RemoveOf folder name id) = codes "remove" ∷ folder ∷ name ∷ codes "--id" ∷ id ∷ []
words_of (RenameOf folder name to id) = codes "rename" ∷ folder ∷ name ∷ to ∷ codes "--id" ∷ id ∷ []
words_of (ListOf folder id) = codes "list" ∷ folder ∷ codes "--id" ∷ id ∷ []

-- ---- which ones are plain

-- a word that does not begin with a hyphen
abbrev pub IsPlainWord : Text → Type 0
IsPlainWord word = slice_get word 0 ≢ Some 45

-- an id, or `auto`
abbrev pub IsSetText : Text → Type 0
IsSetText text = IsIdText text ⊎ (text ≡ codes "auto")

-- an id, or `new`
abbrev pub IsNewSetText : Text → Type 0
IsNewSetText text = IsIdText text ⊎ (text ≡ codes "new")

-- FOLDER does not begin with a hyphen, and the id is one of a set, or `auto`
abbrev pub IsPlainSet : (folder id : Text) → Type 0
IsPlainSet folder id = IsPlainWord folder × IsSetText id

-- the same of a set to be made, whose id may be `new`
abbrev pub IsPlainNewSet : (folder id : Text) → Type 0
IsPlainNewSet folder id = IsPlainWord folder × IsNewSetText id

-- a number of steps is one of 64 bits, and not 0
abbrev pub AreSteps : Option ℕ → Type 0
AreSteps steps = IfSome steps (λ n. (1 ≤ n) × (n < 2 ^ 64))

-- so it is, and each number is one of its type
abbrev pub IsPlain : Request → Type 0
IsPlain (RunOf folder id) = IsPlainSet folder id
IsPlain (ServeOf folder id) = IsPlainSet folder id
IsPlain (MakeOf folder id members chunk stripes) = IsPlainNewSet folder id × (members < 2 ^ 8) × (chunk < 2 ^ 16) × (stripes < 2 ^ 32)
IsPlain (StatusOf folder id json check) = IsPlainSet folder id
IsPlain (FailOf folder id slot) = IsPlainSet folder id × (slot < 2 ^ 8)
IsPlain (ReplaceOf folder id slot) = IsPlainSet folder id × (slot < 2 ^ 8)
IsPlain (RebuildOf folder id steps) = IsPlainSet folder id × AreSteps steps
IsPlain (ScrubOf folder id) = IsPlainSet folder id
IsPlain (UpgradeOf folder id) = IsPlainSet folder id
IsPlain (ExamineOf folder id json check) = IsPlainWord folder × IfSome id IsSetText
IsPlain (MakeSizedOf folder id members size chunk over reserve) = IsPlainNewSet folder id × (members < 2 ^ 8)
    × ((room : Size) × IsRoom size room) × IfSome chunk (λ n. n < 2 ^ 16)
IsPlain (CreateOf folder name size id) = IsPlainSet folder id × IsPlainWord name × ((blocks : ℕ) × IsExtent size blocks)
IsPlain (ExtendOf folder name size id) = IsPlainSet folder id × IsPlainWord name × ((blocks : ℕ) × IsExtent size blocks)
IsPlain (RemoveOf folder name id) = IsPlainSet folder id × IsPlainWord name
IsPlain (RenameOf folder name to id) = IsPlainSet folder id × IsPlainWord name × IsPlainWord to
IsPlain (ListOf folder id) = IsPlainSet folder id

-- ---- what they are answered with

-- the set is chosen as the text says; with no id where there is no text
abbrev pub IsChosenBy : (name : Text) (text : Option Text) → SetChoice → (id : Option (List ℕ)) → Type 0
IsChosenBy name None choice None = choice ≡ Given
IsChosenBy name (Some text) choice (Some id) = Chooses name text choice id
IsChosenBy name text choice id = ⊥

-- the chunk is the number that is given, or 128
abbrev pub IsChunk : Option ℕ → ℕ → Type 0
IsChunk None chunk = chunk ≡ 128
IsChunk (Some given) chunk = chunk ≡ given

-- the line of this command, of the set that is chosen so, with the values that it is given
abbrev pub IsLineOf : Request → SetChoice → Invocation → Type 0
IsLineOf (RunOf folder text) choice (Run f id) = (f.now ≡ folder) × Chooses (codes "run") text choice id
IsLineOf (ServeOf folder text) choice (Serve f id) = (f.now ≡ folder) × Chooses (codes "serve") text choice id
IsLineOf (MakeOf folder text members chunk stripes) choice (Make f id m c s) =
    (f.now ≡ folder) × Chooses (codes "make") text choice id × (m ≡ members) × (c ≡ chunk) × (s ≡ stripes)
IsLineOf (StatusOf folder text json check) choice (Status f id j c) = (f.now ≡ folder) × Chooses (codes "status") text choice id × (j ≡ json) × (c ≡ check)
IsLineOf (FailOf folder text slot) choice (Fail f id k) = (f.now ≡ folder) × Chooses (codes "fail") text choice id × (k ≡ slot)
IsLineOf (ReplaceOf folder text slot) choice (Replace f id k) = (f.now ≡ folder) × Chooses (codes "replace") text choice id × (k ≡ slot)
IsLineOf (RebuildOf folder text steps) choice (Rebuild f id t) = (f.now ≡ folder) × Chooses (codes "rebuild") text choice id × (t ≡ steps)
IsLineOf (ScrubOf folder text) choice (Scrub f id) = (f.now ≡ folder) × Chooses (codes "scrub") text choice id
IsLineOf (UpgradeOf folder text) choice (Upgrade f id) = (f.now ≡ folder) × Chooses (codes "upgrade") text choice id
IsLineOf (ExamineOf folder text json check) choice (Examine f id j c) =
    (f.now ≡ folder) × IsChosenBy (codes "examine") text choice id × (j ≡ json) × (c ≡ check)
IsLineOf (MakeSizedOf folder text members size chunk over reserve) choice (MakeSized f id m c s o r) =
    (f.now ≡ folder) × Chooses (codes "make") text choice id × (m ≡ members) × IsChunk chunk c × IsRoom size s × (o ≡ over) × (r ≡ reserve)
IsLineOf (CreateOf folder name size text) choice (ChangeVolumes f id (Create volume blocks)) =
    (f.now ≡ folder) × Chooses (codes "create") text choice id × (volume.now ≡ name) × IsExtent size blocks
IsLineOf (ExtendOf folder name size text) choice (ChangeVolumes f id (Extend volume blocks)) =
    (f.now ≡ folder) × Chooses (codes "extend") text choice id × (volume.now ≡ name) × IsExtent size blocks
IsLineOf (RemoveOf folder name text) choice (ChangeVolumes f id (Remove volume)) =
    (f.now ≡ folder) × Chooses (codes "remove") text choice id × (volume.now ≡ name)
IsLineOf (RenameOf folder name to text) choice (ChangeVolumes f id (Rename volume new)) =
    (f.now ≡ folder) × Chooses (codes "rename") text choice id × (volume.now ≡ name) × (new.now ≡ to)
IsLineOf (ListOf folder text) choice (ChangeVolumes f id change.List) = (f.now ≡ folder) × Chooses (codes "list") text choice id
IsLineOf request choice invocation = ⊥

-- what this command asks for, with the values that it is given
abbrev pub IsAskedBy : Request → Asked → Type 0
IsAskedBy request asked = IsLineOf request asked.choice asked.line

-- the answer is one of which this holds, or that memory ran out
abbrev pub AnswersBy : (Asked → Type 0) → Result Asked InvocationFault → Type 0
AnswersBy Is (Ok asked) = Is asked
AnswersBy Is (Err (Usage error)) = kind_of error ≡ OutOfMemory
AnswersBy Is (Err fault) = ⊥
