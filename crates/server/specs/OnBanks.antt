-- Requests that are served over the set on a bank: from its opening on, or after one of its slots was given a device.
use Rattle.std.specs.Prelude.{◌≡◌, ℕ, List, Option, None, Result, Ok, Err}
use Rattle.std.specs.Io.KnownBytes.{Appends}
use Rattle.sector_model.specs.declared.refusal.Refusal.{Refusal}
use Rattle.sector_model.specs.declared.refusal.Refusal.TheVariants.{WriteFault}
use Rattle.array_io.specs.Believed.Views.{EndsIt}
use Rattle.recovery.specs.Making.{BankView}
use Rattle.report.specs.Replies.{refusal_line}
use Rattle.report.specs.Written.{AppendsPart}
use Rattle.set_commands.specs.Run.{Streams, streams}
use Rattle.set_commands.specs.Serving.{IsNotOpened, ServesOn}
use Rattle.volume_table.specs.Stands.{StoreView}
use Rattle.volume_table.specs.StoreFunctions.{Answer, ReplacesDevice}
use Rattle.server.specs.Answers.{done_told, told_text}
use Rattle.server.specs.Ends.{HasServed}
use Rattle.server.specs.declared.ending.Ending.{Ending}

-- requests were served over the set, or it was not opened, and then nothing was read or written
pub data ServesSet (honest : Type 0) (id : List ℕ) (bank : BankView) (was : Streams) : (is : Streams) → Result Ending Refusal → Type 0 where
  not_opened : (refusal : Refusal) → IsNotOpened honest id bank refusal → ServesSet honest id bank was was (Err refusal)
  opened : {is : Streams} {result : Result Ending Refusal} → ServesOn honest id bank (λ first last. HasServed honest first last was is result)
      → ServesSet honest id bank was is result

-- a slot was given a device, or that was refused, and this was written; unless the store was ended by it or the writer failed, requests can be served
pub data TellsReplaced (honest : Type 0) (slot : ℕ) (old new : StoreView) (was is : Option (List ℕ)) : Result (Unit {0}) Refusal → Type 0 where
  goes_on : (answer : Answer) → ReplacesDevice honest slot old new answer → new.ended ≡ None → Appends was is (told_text (done_told answer))
      → TellsReplaced honest slot old new was is (Ok tt)
  ended : (refusal : Refusal) → ReplacesDevice honest slot old new (Err refusal) → EndsIt refusal → Appends was is (refusal_line refusal)
      → TellsReplaced honest slot old new was is (Err refusal)
  untold : (answer : Answer) → ReplacesDevice honest slot old new answer → AppendsPart was is (told_text (done_told answer))
      → TellsReplaced honest slot old new was is (Err WriteFault)

-- after that requests were served, or that was the last line
pub data ReplacesAndServes (honest : Type 0) (slot : ℕ) (old : StoreView) (was : Streams) : (new : StoreView) (is : Streams) → Result Ending Refusal → Type 0
  where
    then_served : {new : StoreView} {is : Streams} {result : Result Ending Refusal} (mid : StoreView) (between : Option (List ℕ))
        → TellsReplaced honest slot old mid was.contents between (Ok tt) → HasServed honest mid new (streams was.remaining between) is result
        → ReplacesAndServes honest slot old was new is result
    then_stopped : {new : StoreView} {contents : Option (List ℕ)} (refusal : Refusal)
        → TellsReplaced honest slot old new was.contents contents (Err refusal)
        → ReplacesAndServes honest slot old was new (streams was.remaining contents) (Err refusal)

-- a refusal was written as the last line, or a beginning of it
pub data TellsLast (was is : Option (List ℕ)) (refusal : Refusal) : Result Ending Refusal → Type 0 where
  last_told : Appends was is (refusal_line refusal) → TellsLast was is refusal (Err refusal)
  last_cut : AppendsPart was is (refusal_line refusal) → TellsLast was is refusal (Err WriteFault)

-- so it was over the set on a bank; where that was not opened, this is the last line
pub data ServesReplaced (honest : Type 0) (id : List ℕ) (slot : ℕ) (bank : BankView) (was : Streams) : (is : Streams) → Result Ending Refusal → Type 0 where
  none_opened : {contents : Option (List ℕ)} {result : Result Ending Refusal} (refusal : Refusal) → IsNotOpened honest id bank refusal
      → TellsLast was.contents contents refusal result → ServesReplaced honest id slot bank was (streams was.remaining contents) result
  set_opened : {is : Streams} {result : Result Ending Refusal}
      → ServesOn honest id bank (λ first last. ReplacesAndServes honest slot first was last is result) → ServesReplaced honest id slot bank was is result
