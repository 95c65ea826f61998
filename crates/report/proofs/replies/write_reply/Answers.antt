use Rattle.std.proofs.Common.{rules}
use Rattle.std.proofs.lemmas.List.Folds.{flat_map-map}
use Rattle.report.specs.Replies.{volume_line}
use Rattle.report.specs.Written.{volume_of}
use Rattle.report.proofs.replies.write_reply.Goals as goal

pub returns-in-Volumes-clause-ok : goal.returns-in-Volumes-clause-ok
returns-in-Volumes-clause-ok g c = rw (c.in-Volumes.is, flat_map-map volume_line volume_of c.in-Volumes.volumes.now) c.write_volumes.ensures.ok

pub returns-in-Volumes-clause-part : goal.returns-in-Volumes-clause-part
returns-in-Volumes-clause-part g c = rw (c.in-Volumes.is, flat_map-map volume_line volume_of c.in-Volumes.volumes.now) c.write_volumes.ensures.part

pub returns-in-Done-clause-ok : goal.returns-in-Done-clause-ok
returns-in-Done-clause-ok c = search rules

pub returns-in-Done-clause-part : goal.returns-in-Done-clause-part
returns-in-Done-clause-part c = search rules
