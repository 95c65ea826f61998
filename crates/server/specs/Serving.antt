-- What a server does, request by request, and what it has written then: each reply after the commit of what its line says.
use Rattle.std.specs.Prelude.{◌≡◌, ◌≢◌, ◌⊎◌, ℕ, ◌+◌, ◌<◌, ◌≤◌, min, List, [], ◌∷◌, ◌++◌, length, All, codes, decimal, Option, Some, None, Result, Ok, Err}
use Rattle.std.specs.List.{flat_map}
use Rattle.std.specs.Io.KnownBytes.{Appends, Consumes}
use Rattle.sector_model.specs.declared.refusal.Refusal.{Refusal}
use Rattle.sector_model.specs.declared.refusal.Refusal.TheVariants.{BadCount, BadLine}
use Rattle.array_io.specs.Believed.Views.{EndsIt}
use Rattle.volume_table.specs.Admission.{HasBlocksAt}
use Rattle.volume_table.specs.StagedParts.{AdmitsBlocks, RefusesBlocks}
use Rattle.volume_table.specs.Staging.{CommitsStaged}
use Rattle.volume_table.specs.Stands.{StoreView}
use Rattle.volume_table.specs.Volumes.{Block, IsBlock}
use Rattle.volume_table.specs.VolumeStep.{Command, Write}
use Rattle.volume_table.specs.declared.event.TheConstants.{MOST_BLOCKS_AT_ONCE}
use Rattle.report.specs.Replies.{refusal_line}
use Rattle.report.specs.declared.lines.TheConstants.{LONGEST_LINE}
use Rattle.requests.specs.Demands.{Demand, Demands, ScrubRows, Together, WriteBlocks}
use Rattle.scrub.specs.Scrubbing.{Report}
use Rattle.server.specs.Scrubs.{ScrubsOn, none_scrubbed}
use Rattle.server.specs.Answers.{EndsServing, IsServed, Told, told_text, TellsDone, TellsRefusal}
use Rattle.server.specs.declared.counts.TheConstants.{MOST_LINES_TOGETHER, MOST_WRITTEN_AT_ONCE}

-- a line without its end, and the blocks that follow it
pub record Line : Type 0 where
  pub bytes : List ℕ
  pub blocks : List Block

-- how it stands in the input
abbrev pub spelled : Line → List ℕ
spelled line = line.bytes ++ 10 ∷ flat_map (λ block. block) line.blocks

abbrev pub input_of : List Line → List ℕ
input_of lines = flat_map spelled lines

-- how many blocks follow a line that demands this
abbrev pub blocks_after : Demand → ℕ
blocks_after (WriteBlocks name at count) = count
blocks_after demand = 0

-- a line of the grammar, with its blocks
pub record IsRequest (line : Line) (demand : Demand) : Type 0 where
  pub unbroken : All (λ byte. byte ≢ 10) line.bytes
  pub short : length line.bytes ≤ LONGEST_LINE
  pub demands : Demands line.bytes demand
  pub as_many : length line.blocks ≡ blocks_after demand
  pub whole : All IsBlock line.blocks

-- the blocks of one write, in order, as writes of at most 32 blocks
pub data AreParts (name : List ℕ) : (at end : ℕ) → List Block → List Command → Type 0 where
  no_part : {at : ℕ} → AreParts name at at [] []
  then_part : {at end : ℕ} {blocks : List Block} {parts : List Command} → AreParts name at end blocks parts → (part : List Block)
      → 1 ≤ length part → length part ≤ MOST_BLOCKS_AT_ONCE
      → AreParts name at (end + length part) (blocks ++ part) (parts ++ Write name end part ∷ [])

-- a line is a write of 1 to 2,048 blocks that the volume has, and these are its parts
pub record IsWrite (store : StoreView) (line : Line) (parts : List Command) : Type 0 where
  pub name : List ℕ
  pub at : ℕ
  pub count : ℕ
  pub number : ℕ
  pub request : IsRequest line (WriteBlocks name at count)
  pub least : 1 ≤ count
  pub most : count ≤ MOST_WRITTEN_AT_ONCE
  pub admitted : AdmitsBlocks store name at count number
  pub are : AreParts name at (at + count) line.blocks parts

-- a line is a write of 1 to 2,048 blocks that the volume has not, or there is none
pub record IsRefusedWrite (store : StoreView) (line : Line) (refusal : Refusal) : Type 0 where
  pub name : List ℕ
  pub at : ℕ
  pub count : ℕ
  pub request : IsRequest line (WriteBlocks name at count)
  pub least : 1 ≤ count
  pub most : count ≤ MOST_WRITTEN_AT_ONCE
  pub refuses : RefusesBlocks store name at count refusal

-- what is written to those who asked, one after another
abbrev pub texts_of : List Told → List ℕ
texts_of replies = flat_map told_text replies

-- What was served so far: these lines were read, and this was written. These writes wait to be committed, and these replies for their commit; these parts of
-- the next line wait or are committed already, and so many lines are still to come that are committed together. The scrub in parts has found this so far.
pub data Serves (honest : Type 0) : (lines : List Line) (text : List ℕ) (waiting : List Command) (replies : List Told) (parts : List Command) (left : ℕ)
    (so_far : Report) (old new : StoreView) → Type 0 where
  nothing_served : {store : StoreView} → Serves honest [] [] [] [] [] 0 none_scrubbed store store
  -- a request that is answered at once
  then_answered : {lines : List Line} {text : List ℕ} {so_far : Report} {old new : StoreView} (mid : StoreView) (line : Line) (demand : Demand) (told : Told)
      → Serves honest lines text [] [] [] 0 so_far old mid → IsRequest line demand → IsServed honest demand mid new told → ¬ EndsServing told
      → Serves honest (lines ++ line ∷ []) (text ++ told_text told) [] [] [] 0 so_far old new
  -- some rows are scrubbed
  then_scrubbed : {lines : List Line} {text : List ℕ} {so_far : Report} {old new : StoreView} (mid : StoreView) (line : Line) (rows : ℕ) (after : Report)
      (told : Told) → Serves honest lines text [] [] [] 0 so_far old mid → IsRequest line (ScrubRows rows)
      → ScrubsOn honest rows mid new so_far after told → new.ended ≡ None
      → Serves honest (lines ++ line ∷ []) (text ++ told_text told) [] [] [] 0 after old new
  -- one write is to come, or as many as a line says
  then_alone : {lines : List Line} {text : List ℕ} {so_far : Report} {old new : StoreView}
      → Serves honest lines text [] [] [] 0 so_far old new → Serves honest lines text [] [] [] 1 so_far old new
  then_together : {lines : List Line} {text : List ℕ} {so_far : Report} {old new : StoreView} (line : Line) (count : ℕ)
      → Serves honest lines text [] [] [] 0 so_far old new → IsRequest line (Together count) → 1 ≤ count → count ≤ MOST_LINES_TOGETHER
      → Serves honest (lines ++ line ∷ []) text [] [] [] count so_far old new
  -- a part of a write waits; all of them do, or are committed; or the write is refused
  then_staged : {lines : List Line} {text : List ℕ} {waiting : List Command} {replies : List Told} {parts : List Command} {left : ℕ}
      {so_far : Report} {old new : StoreView}
      (part : Command) → Serves honest lines text waiting replies parts left so_far old new
      → Serves honest lines text (waiting ++ part ∷ []) replies (parts ++ part ∷ []) left so_far old new
  then_taken : {lines : List Line} {text : List ℕ} {waiting : List Command} {replies : List Told} {parts : List Command} {left : ℕ}
      {so_far : Report} {old new : StoreView}
      (line : Line) → Serves honest lines text waiting replies parts (left + 1) so_far old new → IsWrite new line parts
      → Serves honest (lines ++ line ∷ []) text waiting (replies ++ TellsDone ∷ []) [] left so_far old new
  then_refused : {lines : List Line} {text : List ℕ} {waiting : List Command} {replies : List Told} {left : ℕ} {so_far : Report} {old new : StoreView}
      (line : Line) (refusal : Refusal) → Serves honest lines text waiting replies [] (left + 1) so_far old new → IsRefusedWrite new line refusal
      → Serves honest (lines ++ line ∷ []) text waiting (replies ++ TellsRefusal refusal ∷ []) [] left so_far old new
  -- what waits is committed as one, and then the replies that wait for it are written
  then_committed : {lines : List Line} {text : List ℕ} {waiting : List Command} {replies : List Told} {parts : List Command} {left : ℕ}
      {so_far : Report} {old new : StoreView}
      (mid : StoreView) → Serves honest lines text waiting replies parts left so_far old mid → CommitsStaged honest waiting mid new (Ok tt)
      → Serves honest lines (text ++ texts_of replies) [] [] parts left so_far old new
