use contract.BorrowLft.{⊑_static, ⊑_trans}
use Rattle.raidtool.proofs.Chosen.{appended_all}
use Rattle.raidtool.proofs.choosing.ids_in.Goals as goal

pub push_ids_above-requires-lives-B-Bank : goal.push_ids_above-requires-lives-B-Bank
push_ids_above-requires-lives-B-Bank g c κs within = ⊑_trans _ _ _ (⊑_static _) c.type_bounds.static-D-InspectedFile

pub returns-clause-ids : goal.returns-clause-ids
returns-clause-ids g c = record {
  bank = _;
  after = _;
  begins = (c.in_ok-files.files.files.items, c.in_ok-files.ensures.inspected, c.in_ok-bank.ensures.begins);
  finds = appended_all _ _ _ c.new-ids.ensures.items c.in_ok-push_ids_above.ensures.found;
}
