use Rattle.stripe_journal.proofs.Masks.{full_mask}
use Rattle.stripe_journal.proofs.entry.whole_mask.Goals as goal

pub returns : goal.returns
returns c = λ member within. full_mask c.args.members member c.requires.least c.requires.most within
