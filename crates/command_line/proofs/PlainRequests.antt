-- What clap makes of the plain words of each command.
use Rattle.command_line.specs.Requests.{CreateOf, ExamineOf, ExtendOf, FailOf, IsPlain, ListOf, MakeOf, MakeSizedOf, RebuildOf, RemoveOf, RenameOf, ReplaceOf}
use Rattle.command_line.specs.Requests.{Request, RunOf, ScrubOf, ServeOf, StatusOf, UpgradeOf}
use Rattle.command_line.proofs.Answering.{Reads}
use Rattle.command_line.proofs.PlainExamine.{reads_examine}
use Rattle.command_line.proofs.PlainMake.{reads_make}
use Rattle.command_line.proofs.PlainRebuild.{reads_rebuild}
use Rattle.command_line.proofs.PlainRoom.{reads_room}
use Rattle.command_line.proofs.PlainSlot.{reads_fail, reads_replace}
use Rattle.command_line.proofs.PlainStatus.{reads_status}
use Rattle.command_line.proofs.PlainVolumes.{reads_create, reads_extend, reads_remove, reads_rename}
use Rattle.command_line.proofs.PlainWords.{reads_list, reads_run, reads_scrub, reads_serve, reads_upgrade}

pub reads_plain : (request : Request) → IsPlain request → Reads request
reads_plain (RunOf folder id) is = reads_run folder id is
reads_plain (ServeOf folder id) is = reads_serve folder id is
reads_plain (MakeOf folder id members chunk stripes) is = reads_make folder id members chunk stripes is.0 is.1 is.2 is.3
reads_plain (StatusOf folder id json check) is = reads_status folder id json check is
reads_plain (FailOf folder id slot) is = reads_fail folder id slot is.0 is.1
reads_plain (ReplaceOf folder id slot) is = reads_replace folder id slot is.0 is.1
reads_plain (RebuildOf folder id steps) is = reads_rebuild folder id steps is.0 is.1
reads_plain (ScrubOf folder id) is = reads_scrub folder id is
reads_plain (UpgradeOf folder id) is = reads_upgrade folder id is
reads_plain (ExamineOf folder id json check) is = reads_examine folder id json check is.0 is.1
reads_plain (MakeSizedOf folder id members size chunk over reserve) is =
    reads_room folder id members size chunk over reserve is.0 is.1 is.2.0 is.2.1 is.3
reads_plain (CreateOf folder name size id) is = reads_create folder name size id is.0 is.1 is.2.0 is.2.1
reads_plain (ExtendOf folder name size id) is = reads_extend folder name size id is.0 is.1 is.2.0 is.2.1
reads_plain (RemoveOf folder name id) is = reads_remove folder name id is.0 is.1
reads_plain (RenameOf folder name to id) is = reads_rename folder name to id is.0 is.1 is.2
reads_plain (ListOf folder id) is = reads_list folder id is
