-- How far a server has come, and how it ends.
use Rattle.std.specs.Prelude.{◌≡◌, ◌≢◌, ◌⊎◌, ℕ, ◌+◌, ◌<◌, ◌≤◌, List, [], ◌∷◌, ◌++◌, length, map, All, Option, Some, None, OnSome, Result, Ok, Err}
use Rattle.std.specs.Io.KnownBytes.{Appends, Consumes, IsAtEnd}
use Rattle.sector_model.specs.declared.refusal.Refusal.{Refusal}
use Rattle.sector_model.specs.declared.refusal.Refusal.TheVariants.{BadCount, BadLine, Memory, ReadFault, TwoLost, Worn, WriteFault}
use Rattle.batch.specs.Places.{Given}
use Rattle.array_io.specs.Believed.Views.{EndsIt}
use Rattle.volume_table.specs.Staging.{CommitsStaged, HoldSome, HoldsWrites}
use Rattle.volume_table.specs.Stands.{StoreView}
use Rattle.volume_table.specs.StoreCalls.{extents_for_store}
use Rattle.volume_table.specs.VolumeStep.{Command, Done, Refused, Reply}
use Rattle.volume_table.specs.Volumes.{Block}
use Rattle.volume_table.specs.declared.event.TheConstants.{MOST_ZEROED_AT_ONCE}
use Rattle.report.specs.Replies.{refusal_line}
use Rattle.report.specs.Script.{IsPart}
use Rattle.report.specs.Written.{AppendsPart}
use Rattle.report.specs.declared.lines.TheConstants.{LONGEST_LINE}
use Rattle.requests.specs.Demands.{Demand, Demands, DemandsNothing, ReadBlocks, ReplaceSlot, ScrubRows, Together, WriteBlocks, ZeroBlocks}
use Rattle.scrub.specs.Scrubbing.{Report}
use Rattle.server.specs.Scrubs.{ScrubsOn}
use Rattle.set_commands.specs.Run.{Streams}
use Rattle.server.specs.Answers.{IsMissingSlot, IsServed, Told, TellsDone, TellsRefusal, slot_of, told_text}
use Rattle.server.specs.Serving.{AreParts, IsRequest, Line, Serves, input_of, spelled}
use Rattle.server.specs.declared.ending.Ending.{Ending}
use Rattle.server.specs.declared.ending.Ending.TheVariants.{Input, Replace}
use Rattle.server.specs.declared.counts.TheConstants.{MOST_LINES_TOGETHER, MOST_WRITTEN_AT_ONCE}

-- a store, what its reader has left and its writer holds, the sectors that wait, the replies that do, and what a scrub found so far
pub record ServerState : Type 0 where
  pub store : StoreView
  pub streams : Streams
  pub waits : Given
  pub replies : List Told
  pub so_far : Report

abbrev pub state_of : StoreView → Streams → Given → List Told → Report → ServerState
state_of store streams waits replies so_far =
    record { store = store; streams = streams; waits = waits; replies = replies; so_far = so_far }

-- sectors that wait hold some writes
abbrev pub Waits : StoreView → Given → Type 0
Waits store sectors = HoldSome (extents_for_store store) store.keeps sectors

-- the reply to a write that waits for its commit: what it was refused with, if it was
abbrev pub reply_to_write : Option Refusal → Told
reply_to_write None = TellsDone
reply_to_write (Some refusal) = TellsRefusal refusal

-- its text
abbrev pub reply_text_to_write : Option Refusal → List ℕ
reply_text_to_write reply = told_text (reply_to_write reply)

-- it, as the reply of a command
abbrev pub reply_of_write : Option Refusal → Reply
reply_of_write None = Done
reply_of_write (Some refusal) = Refused refusal

abbrev pub replies_of : List (Option Refusal) → List Told
replies_of replies = map reply_to_write replies

-- How far it has come since it began: these parts of the next write wait or are committed, so many lines are to come together, and of the input these bytes
-- were read after the lines that were served.
pub record HasCome (honest : Type 0) (start : StoreView) (was : Streams) (parts : List Command) (left : ℕ) (ahead : List ℕ) (is : ServerState) : Type 0 where
  pub lines : List Line
  pub text : List ℕ
  pub waiting : List Command
  pub serves : Serves honest lines text waiting is.replies parts left is.so_far start is.store
  pub holds : HoldsWrites (extents_for_store is.store) is.store.keeps waiting is.waits
  pub written : Appends was.contents is.streams.contents text
  pub read : Consumes was.remaining is.streams.remaining (input_of lines ++ ahead)

-- so it is where nothing waits
pub record NoneWaits (honest : Type 0) (start : StoreView) (was : Streams) (parts : List Command) (left : ℕ) (ahead : List ℕ) (store : StoreView) (is : Streams)
    (so_far : Report) : Type 0 where
  pub lines : List Line
  pub text : List ℕ
  pub serves : Serves honest lines text [] [] parts left so_far start store
  pub written : Appends was.contents is.contents text
  pub read : Consumes was.remaining is.remaining (input_of lines ++ ahead)

-- The store was ended: by the commit of what waited, or by a request. The replies before are this text.
pub data EndsStore (honest : Type 0) (start : StoreView) (refusal : Refusal) : (lines : List Line) (text : List ℕ) (new : StoreView) → Type 0 where
  by_commit : {lines : List Line} {text : List ℕ} {waiting : List Command} {replies : List Told} {parts : List Command} {left : ℕ} {so_far : Report}
      {new : StoreView} (mid : StoreView) → Serves honest lines text waiting replies parts left so_far start mid
      → CommitsStaged honest waiting mid new (Err refusal)
      → EndsStore honest start refusal lines text new
  by_scrub : {lines : List Line} {text : List ℕ} {so_far : Report} {new : StoreView} (mid : StoreView) (line : Line) (rows : ℕ) (after : Report)
      → Serves honest lines text [] [] [] 0 so_far start mid → IsRequest line (ScrubRows rows)
      → ScrubsOn honest rows mid new so_far after (TellsRefusal refusal) → EndsStore honest start refusal (lines ++ line ∷ []) text new
  by_request : {lines : List Line} {text : List ℕ} {so_far : Report} {new : StoreView} (mid : StoreView) (line : Line) (demand : Demand)
      → Serves honest lines text [] [] [] 0 so_far start mid → IsRequest line demand → IsServed honest demand mid new (TellsRefusal refusal)
      → EndsStore honest start refusal (lines ++ line ∷ []) text new

-- and the refusal was written after them
pub record StoppedByStore (honest : Type 0) (start : StoreView) (was : Streams) (refusal : Refusal) (store : StoreView) (is : Streams) : Type 0 where
  pub lines : List Line
  pub text : List ℕ
  pub ahead : List ℕ
  pub ends_it : EndsIt refusal
  pub ends : EndsStore honest start refusal lines text store
  pub written : Appends was.contents is.contents (text ++ refusal_line refusal)
  pub read : Consumes was.remaining is.remaining (input_of lines ++ ahead)

-- a count of blocks lies outside its limits
abbrev pub IsOutside : (most count : ℕ) → Type 0
IsOutside most count = (count ≡ 0) ⊎ (most < count)

-- the count of a request lies outside its limits
abbrev pub HasBadCount : Demand → Type 0
HasBadCount (ReadBlocks name at count) = IsOutside MOST_WRITTEN_AT_ONCE count
HasBadCount (WriteBlocks name at count) = IsOutside MOST_WRITTEN_AT_ONCE count
HasBadCount (ZeroBlocks name at count) = IsOutside MOST_ZEROED_AT_ONCE count
HasBadCount (Together count) = IsOutside MOST_LINES_TOGETHER count
HasBadCount demand = ⊥

abbrev pub IsWriteDemand : Demand → Type 0
IsWriteDemand (WriteBlocks name at count) = Unit {0}
IsWriteDemand demand = ⊥

-- Why a line, without its end, is refused and ends the server: it is none of the grammar, or its count lies outside its limits, or it is no write where so
-- many are to come together.
abbrev pub IsBadRequest : (left : ℕ) (line : List ℕ) → Refusal → Type 0
IsBadRequest left line BadLine = (LONGEST_LINE < length line)
    ⊎ ((length line ≤ LONGEST_LINE) × (DemandsNothing line ⊎ ((demand : Demand) × Demands line demand × (¬ IsWriteDemand demand) × (1 ≤ left))))
IsBadRequest left line BadCount = (length line ≤ LONGEST_LINE) × ((demand : Demand) × Demands line demand × HasBadCount demand)
IsBadRequest left line refusal = ⊥

-- A line ended it, of which the refusal is not written yet: so far it had come.
pub record MeetsBadRequest (Come : (left : ℕ) (ahead : List ℕ) → Type 0) (refusal : Refusal) : Type 0 where
  pub left : ℕ
  pub line : List ℕ
  pub unbroken : All (λ byte. byte ≢ 10) line
  pub bad : IsBadRequest left line refusal
  pub come : Come left (line ++ 10 ∷ [])

-- the input ended, or the reader failed, in a line, in the blocks after it, or where more lines were to come
pub record MeetsNoRequest (Come : (left : ℕ) (ahead : List ℕ) → Type 0) : Type 0 where
  pub left : ℕ
  pub ahead : List ℕ
  pub come : Come left ahead

-- all that was to be written until then
pub data Whole (honest : Type 0) (start : StoreView) : (lines : List Line) (text : List ℕ) (new : StoreView) → Type 0 where
  serving : {lines : List Line} {text : List ℕ} {waiting : List Command} {replies : List Told} {parts : List Command} {left : ℕ} {so_far : Report}
      {new : StoreView} → Serves honest lines text waiting replies parts left so_far start new → Whole honest start lines text new
  ending : {lines : List Line} {text : List ℕ} {new : StoreView} (refusal : Refusal) → EndsIt refusal → EndsStore honest start refusal lines text new
      → Whole honest start lines (text ++ refusal_line refusal) new
  refusing : {lines : List Line} {text : List ℕ} {left : ℕ} {so_far : Report} {new : StoreView} (refusal : Refusal) (line : List ℕ)
      → Serves honest lines text [] [] [] left so_far start new → IsBadRequest left line refusal
      → Whole honest start lines (text ++ refusal_line refusal) new

-- the writer failed: a beginning of that was written, and not all
pub record StoppedWriting (honest : Type 0) (start : StoreView) (was : Streams) (store : StoreView) (is : Streams) : Type 0 where
  pub lines : List Line
  pub text : List ℕ
  pub ahead : List ℕ
  pub part : List ℕ
  pub whole : Whole honest start lines text store
  pub is_part : IsPart part text
  pub written : Appends was.contents is.contents part
  pub read : Consumes was.remaining is.remaining (input_of lines ++ ahead)

-- Why serving stopped: for good, or by what was read, where it had come so far.
abbrev pub StopsAt : (honest : Type 0) (start : StoreView) (was : Streams) (store : StoreView) (is : Streams)
    → (Come : (left : ℕ) (ahead : List ℕ) → Type 0) → Refusal → Type 0
StopsAt honest start was store is Come TwoLost = StoppedByStore honest start was TwoLost store is
StopsAt honest start was store is Come Worn = StoppedByStore honest start was Worn store is
StopsAt honest start was store is Come WriteFault = StoppedWriting honest start was store is
StopsAt honest start was store is Come ReadFault = MeetsNoRequest Come
StopsAt honest start was store is Come BadLine = MeetsBadRequest Come BadLine
StopsAt honest start was store is Come BadCount = MeetsBadRequest Come BadCount
StopsAt honest start was store is Come refusal = ⊥

-- while writes may wait
abbrev pub Stops : (honest : Type 0) (start : StoreView) (was : Streams) → Refusal → ServerState → Type 0
Stops honest start was refusal is =
    StopsAt honest start was is.store is.streams (λ left ahead. HasCome honest start was [] left ahead is) refusal

-- while none does
abbrev pub StopsReady : (honest : Type 0) (start : StoreView) (was : Streams) (store : StoreView) (is : Streams) → Refusal → Type 0
StopsReady honest start was store is refusal =
    StopsAt honest start was store is (λ left ahead. (so_far : Report) × NoneWaits honest start was [] left ahead store is so_far) refusal

-- it stopped for good: the store was ended, or the writer failed
abbrev pub StopsForGood : (honest : Type 0) (start : StoreView) (was : Streams) (store : StoreView) (is : Streams) → Refusal → Type 0
StopsForGood honest start was store is refusal = StopsAt honest start was store is (λ left ahead. ⊥) refusal

-- what waited was committed, or it stopped for good
abbrev pub CommitsNow : (honest : Type 0) (start : StoreView) (was : Streams) (parts : List Command) (left : ℕ) (ahead : List ℕ)
    → Result (Unit {0}) Refusal → (store : StoreView) (is : Streams) (so_far : Report) → Type 0
CommitsNow honest start was parts left ahead (Ok done) store is so_far = NoneWaits honest start was parts left ahead store is so_far
CommitsNow honest start was parts left ahead (Err refusal) store is so_far = StopsForGood honest start was store is refusal

-- a request was served, or it stopped
abbrev pub Commits : (honest : Type 0) (start : StoreView) (was : Streams) (parts : List Command) (left : ℕ) (ahead : List ℕ)
    → Result (Unit {0}) Refusal → (store : StoreView) (is : Streams) (so_far : Report) → Type 0
Commits honest start was parts left ahead (Ok done) store is so_far = NoneWaits honest start was parts left ahead store is so_far
Commits honest start was parts left ahead (Err refusal) store is so_far = StopsReady honest start was store is refusal

-- a step of serving was done, or it stopped
abbrev pub Comes : (honest : Type 0) (start : StoreView) (was : Streams) (parts : List Command) (left : ℕ) (ahead : List ℕ)
    → Result (Unit {0}) Refusal → ServerState → Type 0
Comes honest start was parts left ahead (Ok done) is = HasCome honest start was parts left ahead is
Comes honest start was parts left ahead (Err refusal) is = Stops honest start was refusal is

-- the first blocks of a write wait in parts, or are committed
abbrev pub StagesSome : (honest : Type 0) (start : StoreView) (was : Streams) (left : ℕ) (ahead name : List ℕ) (at count : ℕ) (blocks : List Block)
    → ServerState → Type 0
StagesSome honest start was left ahead name at count blocks is =
    (parts : List Command) × AreParts name at (at + count) blocks parts × HasCome honest start was parts left ahead is

-- all parts of a write wait or are committed, or it stopped
abbrev pub StagesParts : (honest : Type 0) (start : StoreView) (was : Streams) (left : ℕ) (ahead name : List ℕ) (at : ℕ) (blocks : List Block)
    → Result (Unit {0}) Refusal → ServerState → Type 0
StagesParts honest start was left ahead name at blocks (Ok done) is = StagesSome honest start was left ahead name at (length blocks) blocks is
StagesParts honest start was left ahead name at blocks (Err refusal) is = Stops honest start was refusal is

-- ---- the end of it

-- all lines of the input were served, and their replies written
pub record AllServed (honest : Type 0) (old new : StoreView) (was is : Streams) : Type 0 where
  pub so_far : Report
  pub come : NoneWaits honest old was [] 0 [] new is so_far
  pub read : OnSome was.remaining (IsAtEnd is.remaining)

-- the lines before were, and then a device was asked for, for a slot that is missing
pub record AsksReplace (honest : Type 0) (old new : StoreView) (was is : Streams) (slot : ℕ) : Type 0 where
  pub number : ℕ
  pub line : Line
  pub request : IsRequest line (ReplaceSlot number)
  pub slot_said : slot ≡ slot_of number
  pub missing : IsMissingSlot new.array.table slot
  pub so_far : Report
  pub come : NoneWaits honest old was [] 0 (spelled line) new is so_far

-- a line was served, or ends the server
abbrev pub ServesLine : (honest : Type 0) (start : StoreView) (was : Streams) → Result (Option Ending) Refusal → (store : StoreView) (is : Streams)
    (so_far : Report) → Type 0
ServesLine honest start was (Ok None) store is so_far = NoneWaits honest start was [] 0 [] store is so_far
ServesLine honest start was (Ok (Some Input)) store is so_far = ⊥
ServesLine honest start was (Ok (Some (Replace slot))) store is so_far = AsksReplace honest start store was is slot
ServesLine honest start was (Err refusal) store is so_far = StopsReady honest start was store is refusal

-- all lines were, or one ended the server
abbrev pub ServesLines : (honest : Type 0) (start : StoreView) (was : Streams) → Result Ending Refusal → (store : StoreView) (is : Streams) → Type 0
ServesLines honest start was (Ok Input) store is = AllServed honest start store was is
ServesLines honest start was (Ok (Replace slot)) store is = AsksReplace honest start store was is slot
ServesLines honest start was (Err refusal) store is = StopsReady honest start was store is refusal

-- what is written last: nothing where the input ended or failed, and the refusal of a line that is none of the grammar
abbrev pub IsLast : (left : ℕ) (ahead last : List ℕ) → Type 0
IsLast left ahead last = (last ≡ [])
    ⊎ ((refusal : Refusal) × (line : List ℕ) × IsBadRequest left line refusal × (ahead ≡ line ++ 10 ∷ []) × (last ≡ refusal_line refusal))

-- The input ended in a line or in the blocks after it, or where more lines were to come together, or the reader failed, or a line was refused that ends the
-- server. All lines before were served, what waited was committed, and their replies written.
pub record StoppedReading (honest : Type 0) (old new : StoreView) (was is : Streams) : Type 0 where
  pub lines : List Line
  pub text : List ℕ
  pub left : ℕ
  pub ahead : List ℕ
  pub last : List ℕ
  pub so_far : Report
  pub serves : Serves honest lines text [] [] [] left so_far old new
  pub is_last : IsLast left ahead last
  pub written : Appends was.contents is.contents (text ++ last)
  pub read : Consumes was.remaining is.remaining (input_of lines ++ ahead)

-- how serving ends
abbrev pub HasServed : (honest : Type 0) (old new : StoreView) (was is : Streams) → Result Ending Refusal → Type 0
HasServed honest old new was is (Ok Input) = AllServed honest old new was is
HasServed honest old new was is (Ok (Replace slot)) = AsksReplace honest old new was is slot
HasServed honest old new was is (Err Memory) = (new ≡ old) × (is ≡ was)
HasServed honest old new was is (Err ReadFault) = StoppedReading honest old new was is
HasServed honest old new was is (Err WriteFault) = StoppedWriting honest old was new is
HasServed honest old new was is (Err TwoLost) = StoppedByStore honest old was TwoLost new is
HasServed honest old new was is (Err Worn) = StoppedByStore honest old was Worn new is
HasServed honest old new was is (Err refusal) = ⊥

-- serving stopped for good: the store was ended, or the writer failed
abbrev pub IsForGood : Refusal → Type 0
IsForGood TwoLost = Unit {0}
IsForGood Worn = Unit {0}
IsForGood WriteFault = Unit {0}
IsForGood refusal = ⊥

-- the refusal of a line that ends the server
abbrev pub IsBadRefusal : Refusal → Type 0
IsBadRefusal refusal = (refusal ≡ BadLine) ⊎ (refusal ≡ BadCount)

-- it was written, or a beginning of it
pub record TellsBadRequest (old new : Option (List ℕ)) (refusal : Refusal) (told : Result Ending Refusal) : Type 0 where
  pub ok : told ≢ Err WriteFault → (told ≡ Err ReadFault) × Appends old new (refusal_line refusal)
  pub part : told ≡ Err WriteFault → AppendsPart old new (refusal_line refusal)
