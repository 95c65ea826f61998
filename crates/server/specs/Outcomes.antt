-- What those who asked are told, by what a request came to.
use Rattle.std.specs.Prelude.{List, take}
use Rattle.std.specs.String.{string_bytes}
use Rattle.rebuild.specs.Stepping.{progress_by}
use Rattle.volume_table.specs.Listing.{told}
use Rattle.volume_table.specs.Volumes.{Block}
use Rattle.server.specs.Answers.{Told, TellsBlocks, TellsDone, TellsProgress, TellsRefusal, TellsStatus, TellsVolumes}
use Rattle.server.specs.declared.answering.Outcome.{Outcome}
use Rattle.server.specs.declared.answering.Outcome.TheVariants as outcome

-- what an outcome tells; the blocks that were read are the first of the buffer
abbrev pub told_in : Outcome → (buffer : List Block) → Told
told_in outcome.Done buffer = TellsDone
told_in (outcome.Read count) buffer = TellsBlocks (take count buffer)
told_in (outcome.Listed volumes) buffer = TellsVolumes (told volumes.items)
told_in (outcome.Status json) buffer = TellsStatus (string_bytes json)
told_in (outcome.Progress progress format rows) buffer = TellsProgress format rows (progress_by progress)
told_in (outcome.Refused refusal) buffer = TellsRefusal refusal
