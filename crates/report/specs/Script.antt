-- Scripts: their lines, and what a store answers to these in turn.
use Rattle.std.specs.Prelude.{◌≡◌, ◌≢◌, ◌⊎◌, ℕ, ◌≤◌, ◌==◌, if◌then◌else◌, List, [], ◌∷◌, ◌++◌, length}
use Rattle.std.specs.List.{flat_map}
use Rattle.sector_model.specs.declared.refusal.Refusal.TheVariants.{BadLine}
use Rattle.volume_table.specs.VolumeStep.{Command, OnVolumes, Refused, Reply}
use Rattle.volume_table.specs.Stands.{StoreView}
use Rattle.volume_table.specs.StoreCalls.{Applies, EndsStore}
use Rattle.report.specs.Grammar.{IsBadLine, Says}
use Rattle.report.specs.Replies.{reply_text}
use Rattle.report.specs.declared.lines.TheConstants.{LONGEST_LINE}

abbrev pub onto_first : ℕ → List (List ℕ) → List (List ℕ)
onto_first byte [] = (byte ∷ []) ∷ []
onto_first byte (line ∷ lines) = (byte ∷ line) ∷ lines

-- the lines of a script: each ends at a byte 10, and bytes after the last are a line where there is one
abbrev pub lines_of : List ℕ → List (List ℕ)
lines_of [] = []
lines_of (byte ∷ script) = if byte == 10 then [] ∷ lines_of script else onto_first byte (lines_of script)

-- the lines as they stand in a script, each with its end
abbrev pub ended : List (List ℕ) → List ℕ
ended lines = flat_map (λ line. line ++ 10 ∷ []) lines

-- the texts of replies, one after another
abbrev pub texts_of : List Reply → List ℕ
texts_of replies = flat_map reply_text replies

-- a beginning of a text, and not all of it
pub record IsPart (part whole : List ℕ) : Type 0 where
  pub rest : List ℕ
  pub joined : part ++ rest ≡ whole
  pub some : rest ≢ []

-- a line says a command, which the store is asked
pub record IsDoneLine (honest : Type 0) (line : List ℕ) (command : Command) (old new : StoreView) (reply : Reply) : Type 0 where
  pub short : length line ≤ LONGEST_LINE
  pub says : Says line command
  pub applies : Applies honest (OnVolumes command) old new reply

-- a line says none, and nothing is done
pub record IsRefusedLine (line : List ℕ) (old new : StoreView) (reply : Reply) : Type 0 where
  pub bad : IsBadLine line
  pub answer : reply ≡ Refused BadLine
  pub same : new ≡ old

-- how a line is answered over a store
abbrev pub Answers : (honest : Type 0) → List ℕ → (old new : StoreView) → Reply → Type 0
Answers honest line old new reply = ((command : Command) × IsDoneLine honest line command old new reply) ⊎ IsRefusedLine line old new reply

-- lines that are answered so, one after another; none of the replies ends the store
pub data Serves (honest : Type 0) : List (List ℕ) → List Reply → (old new : StoreView) → Type 0 where
  none_read : {store : StoreView} → Serves honest [] [] store store
  then_read : {old new : StoreView} {lines : List (List ℕ)} {replies : List Reply} (mid : StoreView) (line : List ℕ) (reply : Reply)
      → Answers honest line old mid reply → ¬ EndsStore reply → Serves honest lines replies mid new → Serves honest (line ∷ lines) (reply ∷ replies) old new
