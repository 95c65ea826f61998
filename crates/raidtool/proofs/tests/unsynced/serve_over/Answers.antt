use contract.BorrowLft.{⊑_static, ⊑_trans}
use Rattle.raidtool.proofs.tests.unsynced.serve_over.Goals as goal

pub serve_on-requires-lives-B-Bank : goal.serve_on-requires-lives-B-Bank
serve_on-requires-lives-B-Bank g c κs within = ⊑_trans _ _ _ (⊑_static _) c.type_bounds.static-F

pub serve_on-requires-lives-B-Destruct : goal.serve_on-requires-lives-B-Destruct
serve_on-requires-lives-B-Destruct g c κs within = ⊑_trans _ _ _ (⊑_static _) c.type_bounds.static-F
