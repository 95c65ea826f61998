use Rattle.volume_table.proofs.RebuildCount.{rebuild_advances, rebuild_counts, rebuild_ends}
use Rattle.volume_table.proofs.RebuildResumed.{rebuild_resumes}
use Rattle.volume_table.proofs.law.rebuilds.rebuilds_end.Goals as goal

pub returns-clause-resumes : goal.returns-clause-resumes
returns-clause-resumes c = rebuild_resumes

pub returns-clause-advances : goal.returns-clause-advances
returns-clause-advances c = rebuild_advances

pub returns-clause-ends : goal.returns-clause-ends
returns-clause-ends c = rebuild_ends

pub returns-clause-counts : goal.returns-clause-counts
returns-clause-counts c = rebuild_counts
