use Rattle.array_io.proofs.Images.Codecs.{spellings}
use Rattle.array_io.proofs.Images.Loss as loss
use Rattle.array_io.proofs.law.lost_member.one_member_may_go.Goals as goal

pub returns : goal.returns
returns c = loss.one_member_may_go spellings
