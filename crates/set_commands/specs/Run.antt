-- A script that is run over a store: which lines were answered, what was written, and where it stopped.
use Rattle.std.specs.Prelude.{◌≡◌, ◌⊎◌, ℕ, List, [], ◌∷◌, ◌++◌, take, Option, Some}
use Rattle.std.specs.Io.KnownBytes.{Appends}
use Rattle.sector_model.specs.declared.refusal.Refusal.{Refusal}
use Rattle.sector_model.specs.declared.refusal.Refusal.TheVariants.{Memory, ReadFault, WriteFault}
use Rattle.array_io.specs.Believed.Views.{EndsIt}
use Rattle.volume_table.specs.Listing.{told}
use Rattle.volume_table.specs.Volumes.{Block}
use Rattle.volume_table.specs.VolumeStep.{Blocks, Done, Refused, Reply, Volumes}
use Rattle.volume_table.specs.Stands.{StoreView}
use Rattle.volume_table.specs.StoreCalls.{EndsStore}
use Rattle.set_commands.specs.declared.script.Outcome.{Outcome}
use Rattle.set_commands.specs.declared.script.Outcome.TheVariants as outcome
use Rattle.report.specs.Lines.{StopsInLine}
use Rattle.report.specs.Replies.{refusal_line, reply_text}
use Rattle.report.specs.Script.{Answers, IsPart, Serves, lines_of, texts_of}

-- the reply that an outcome is; the blocks that were read lie in the buffer
abbrev pub reply_in : Outcome → List Block → Reply
reply_in outcome.Done buffer = Done
reply_in (outcome.Read count) buffer = Blocks (take count buffer)
reply_in (outcome.Listed volumes) buffer = Volumes (told volumes.items)
reply_in (outcome.Refused refusal) buffer = Refused refusal

-- what a reader has left, and what a writer holds, where they tell it
pub record Streams : Type 0 where
  pub remaining : Option (List ℕ)
  pub contents : Option (List ℕ)

abbrev pub streams : Option (List ℕ) → Option (List ℕ) → Streams
streams remaining contents = record { remaining = remaining; contents = contents }

-- a line was answered, and its reply written
pub record LineIsDone (honest : Type 0) (line : List ℕ) (old new : StoreView) (was is : Option (List ℕ)) : Type 0 where
  pub reply : Reply
  pub answers : Answers honest line old new reply
  pub goes : ¬ EndsStore reply
  pub written : Appends was is (reply_text reply)

-- a line was answered, and of its reply a part was written
pub record LineIsCut (honest : Type 0) (line : List ℕ) (old new : StoreView) (was is : Option (List ℕ)) : Type 0 where
  pub reply : Reply
  pub answers : Answers honest line old new reply
  pub part : List ℕ
  pub is_part : IsPart part (reply_text reply)
  pub written : Appends was is part

-- a line was answered with the refusal that ended the store, and that was written
pub record LineIsLast (honest : Type 0) (line : List ℕ) (old new : StoreView) (refusal : Refusal) (was is : Option (List ℕ)) : Type 0 where
  pub answers : Answers honest line old new (Refused refusal)
  pub ends : EndsIt refusal
  pub written : Appends was is (refusal_line refusal)

-- these are the first lines of a script, of which a reader has the others left
pub record AreReadOf (script : List ℕ) (lines : List (List ℕ)) (remaining : Option (List ℕ)) : Type 0 where
  pub left : List ℕ
  pub split : lines_of script ≡ lines ++ lines_of left
  pub remains : remaining ≡ Some left

-- these are all lines of a script, and nothing is left
pub record AreAllOf (script : List ℕ) (lines : List (List ℕ)) (remaining : Option (List ℕ)) : Type 0 where
  pub all : lines_of script ≡ lines
  pub remains : remaining ≡ Some []

-- these are the first lines of a script, and in the next one the reader stopped
pub record AreReadWhole (script : List ℕ) (lines : List (List ℕ)) (remaining : Option (List ℕ)) : Type 0 where
  pub left : List ℕ
  pub split : lines_of script ≡ lines ++ lines_of left
  pub stopped : StopsInLine left remaining

-- Lines were answered, and their replies written. Of a reader that tells its bytes they are read so from the script, with so much left.
pub record HasAnswered (honest : Type 0) (old new : StoreView) (was is : Streams)
    (AreRead : (script : List ℕ) (lines : List (List ℕ)) (remaining : Option (List ℕ)) → Type 0) : Type 0 where
  pub lines : List (List ℕ)
  pub replies : List Reply
  pub serves : Serves honest lines replies old new
  pub written : Appends was.contents is.contents (texts_of replies)
  pub read : (script : List ℕ) → was.remaining ≡ Some script → AreRead script lines is.remaining

-- what was done so far, of the first lines of the script
abbrev pub HasCome : (honest : Type 0) (old new : StoreView) (was is : Streams) → Type 0
HasCome honest old new was is = HasAnswered honest old new was is AreReadOf

-- all lines were answered, and the replies written
abbrev pub HasRun : (honest : Type 0) (old new : StoreView) (was is : Streams) → Type 0
HasRun honest old new was is = HasAnswered honest old new was is AreAllOf

-- the reader failed: the lines read whole were answered, and their replies written
abbrev pub StoppedReading : (honest : Type 0) (old new : StoreView) (was is : Streams) → Type 0
StoppedReading honest old new was is = HasAnswered honest old new was is AreReadWhole

-- the writer failed: the lines before were answered and their replies written; one more was answered, and a part of its reply written
pub record StoppedWriting (honest : Type 0) (old new : StoreView) (was is : Streams) : Type 0 where
  pub lines : List (List ℕ)
  pub replies : List Reply
  pub mid : StoreView
  pub serves : Serves honest lines replies old mid
  pub line : List ℕ
  pub reply : Reply
  pub answers : Answers honest line mid new reply
  pub part : List ℕ
  pub is_part : IsPart part (reply_text reply)
  pub written : Appends was.contents is.contents (texts_of replies ++ part)
  pub read : (script : List ℕ) → was.remaining ≡ Some script → AreReadOf script (lines ++ line ∷ []) is.remaining

-- the store ended: the lines before were answered and their replies written, and then the refusal that ended it
pub record StoppedByStore (honest : Type 0) (refusal : Refusal) (old new : StoreView) (was is : Streams) : Type 0 where
  pub lines : List (List ℕ)
  pub replies : List Reply
  pub mid : StoreView
  pub serves : Serves honest lines replies old mid
  pub line : List ℕ
  pub answers : Answers honest line mid new (Refused refusal)
  pub written : Appends was.contents is.contents (texts_of replies ++ refusal_line refusal)
  pub read : (script : List ℕ) → was.remaining ≡ Some script → AreReadOf script (lines ++ line ∷ []) is.remaining

-- what a script may end with
abbrev pub IsScriptRefusal : Refusal → Type 0
IsScriptRefusal refusal = (refusal ≡ Memory) ⊎ ((refusal ≡ ReadFault) ⊎ ((refusal ≡ WriteFault) ⊎ EndsIt refusal))
