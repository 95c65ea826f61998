use contract.BorrowLft.{⊑_static, ⊑_trans}
use Rattle.raidtool.proofs.Needs.{need_not_found, need_over, need_within}
use Rattle.raidtool.proofs.replacing.need_over.Goals as goal

pub need_on-requires-lives-B-Bank : goal.need_on-requires-lives-B-Bank
need_on-requires-lives-B-Bank g c κs within = ⊑_trans _ _ _ (⊑_static _) c.type_bounds.static-F

pub returns-clause-need : goal.returns-clause-need
returns-clause-need g c = need_over _ _ c.args.id c.args.slot _ _ c.in_ok-bank.ensures.begins c.need_on.result c.need_on.ensures

pub returns-clause-within : goal.returns-clause-within
returns-clause-within g c = need_within _ c.args.id c.args.slot _ _ c.need_on.result c.need_on.ensures c.in_ok-bank.ensures.devices

pub returns-clause-cause : goal.returns-clause-cause
returns-clause-cause g c = need_not_found _ _ c.args.id c.args.slot _ _ c.in_ok-bank.ensures.begins c.need_on.result c.need_on.ensures
