use Rattle.extents.proofs.ExtentLawLemmas.{extents_are_counted, taking_keeps, giving_back_keeps, block_is_within, sector_is_one}
use Rattle.extents.proofs.extent_map.extent_map_law.Goals as goal

pub returns-clause-counted : goal.returns-clause-counted
returns-clause-counted c = extents_are_counted

pub returns-clause-taking : goal.returns-clause-taking
returns-clause-taking c = taking_keeps

pub returns-clause-giving_back : goal.returns-clause-giving_back
returns-clause-giving_back c = giving_back_keeps

pub returns-clause-within : goal.returns-clause-within
returns-clause-within c = block_is_within

pub returns-clause-apart : goal.returns-clause-apart
returns-clause-apart c = sector_is_one
