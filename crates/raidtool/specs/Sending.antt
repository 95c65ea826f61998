-- Replies that are buffered, and when they have left.
use Rattle.std.specs.Prelude.{◌≡◌, ◌⊎◌, ℕ, true, false, List, [], Option, codes}
use Rattle.std.specs.Io.{StartsWith}
use Rattle.std.specs.Io.KnownBytes.{Appends, Keeps}
use Rattle.std.specs.Io.Buffered.{writer_buffer, writer_contents, writer_inner}
use Rattle.raidtool.specs.declared.console.BufferedReplies.{BufferedReplies}

module _ {W : Type 0} where
  -- what waits to leave
  abbrev pub waiting : BufferedReplies W → List ℕ
  waiting buffered = writer_buffer buffered.writer

  -- what has left, where the writer tells it
  abbrev pub left : (W → Option (List ℕ)) → BufferedReplies W → Option (List ℕ)
  left contents buffered = contents (writer_inner buffered.writer)

  -- all that was written: what has left, and then what waits
  abbrev pub written : (W → Option (List ℕ)) → BufferedReplies W → Option (List ℕ)
  written contents buffered = writer_contents contents buffered.writer

  -- all that was written has left
  pub record HasLeft (buffered : BufferedReplies W) : Type 0 where
    pub none_waits : waiting buffered ≡ []
    pub whole : buffered.is_broken ≡ false

-- there are replies over this writer, of which none waits
pub record IsBegun {W : Type 0} (writer : W) : Type 0 where
  pub buffered : BufferedReplies W
  pub over : writer_inner buffered.writer ≡ writer
  pub empty : HasLeft buffered

-- the reply to the line that these bytes begin may wait
abbrev pub MayWait : List ℕ → Type 0
MayWait bytes = StartsWith bytes (codes "read ")

-- Of the replies in a cell no clause knows what they were before a call, so the following speak of some.

-- what waited has left, and all that was written
pub record WasSent {W : Type 0} (contents : W → Option (List ℕ)) : Type 0 where
  pub old : BufferedReplies W
  pub new : BufferedReplies W
  pub sent : Appends (left contents old) (left contents new) (waiting old)
  pub whole : HasLeft new

-- some could not leave, and none are lost; after a fault nothing was tried
pub record IsStopped {W : Type 0} (contents : W → Option (List ℕ)) : Type 0 where
  pub old : BufferedReplies W
  pub new : BufferedReplies W
  pub kept : Keeps (written contents old) (written contents new)
  pub broken : new.is_broken ≡ true
  pub untried : old.is_broken ≡ true → new ≡ old

-- the reply to the line that these bytes begin may wait, or all that were written have left
pub record MadeWay {W : Type 0} (contents : W → Option (List ℕ)) (line : List ℕ) : Type 0 where
  pub old : BufferedReplies W
  pub new : BufferedReplies W
  pub kept : Keeps (written contents old) (written contents new)
  pub waits : MayWait line → new ≡ old
  pub way : MayWait line ⊎ HasLeft new
