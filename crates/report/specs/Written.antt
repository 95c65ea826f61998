-- What a reply is, and what is written of its text.
use Rattle.std.specs.Prelude.{◌≡◌, ℕ, List, map, Option, Result, IfErr, OnOk, OnErr}
use Rattle.std.specs.Io.KnownBytes.{Appends}
use Rattle.sector_model.specs.declared.refusal.Refusal.{Refusal}
use Rattle.sector_model.specs.declared.refusal.Refusal.TheVariants.{WriteFault}
use Rattle.volume_table.specs.declared.listed.Listed.{Listed}
use Rattle.volume_table.specs.VolumeStep.{Reply, Blocks as BlocksReply, Done as DoneReply, Refused as RefusedReply, Volumes as VolumesReply}
use Rattle.report.specs.Script.{IsPart}
use Rattle.report.specs.declared.replies.Answer.{Answer}
use Rattle.report.specs.declared.replies.Answer.TheVariants.{Done, Blocks, Volumes, Refused}

-- a volume's name and its number of blocks
abbrev pub volume_of : Listed → List ℕ × ℕ
volume_of volume = (volume.name.bytes.items, volume.blocks)

-- the reply that an answer is
abbrev pub reply_of : Answer → Reply
reply_of Done = DoneReply
reply_of (Blocks blocks) = BlocksReply blocks.now
reply_of (Volumes volumes) = VolumesReply (map volume_of volumes.now)
reply_of (Refused refusal) = RefusedReply refusal

-- what a writer holds grew by a beginning of a text, and not by all of it
pub record AppendsPart (old new : Option (List ℕ)) (text : List ℕ) : Type 0 where
  pub part : List ℕ
  pub is_part : IsPart part text
  pub written : Appends old new part

-- all of a text was written, or a beginning of it with the one refusal that a writer gives
pub record WritesText (old new : Option (List ℕ)) (text : List ℕ) (result : Result (Unit {0}) Refusal) : Type 0 where
  pub ok : OnOk result (Appends old new text)
  pub part : OnErr result (AppendsPart old new text)
  pub kind : IfErr result (λ refusal. refusal ≡ WriteFault)
