-- An event is done by its call, and its reply is what that call answers.
use Rattle.volume_table.proofs.store.Store.apply.Goals as goal

pub returns-in-Create-clause-honest : goal.returns-in-Create-clause-honest
returns-in-Create-clause-honest g c = c.create.ensures.honest

pub returns-in-Create-clause-applies : goal.returns-in-Create-clause-applies
returns-in-Create-clause-applies g c = rw (c.in-Create.is, c.reply_to.ensures) c.create.ensures.creates

pub returns-in-Extend-clause-honest : goal.returns-in-Extend-clause-honest
returns-in-Extend-clause-honest g c = c.extend.ensures.honest

pub returns-in-Extend-clause-applies : goal.returns-in-Extend-clause-applies
returns-in-Extend-clause-applies g c = rw (c.in-Extend.is, c.reply_to-in-Extend.ensures) c.extend.ensures.extends

pub returns-in-Remove-clause-honest : goal.returns-in-Remove-clause-honest
returns-in-Remove-clause-honest g c = c.remove.ensures.honest

pub returns-in-Remove-clause-applies : goal.returns-in-Remove-clause-applies
returns-in-Remove-clause-applies g c = rw (c.in-Remove.is, c.reply_to-in-Remove.ensures) c.remove.ensures.removes

pub returns-in-Read-clause-honest : goal.returns-in-Read-clause-honest
returns-in-Read-clause-honest g c = c.reply_to_read.ensures.honest

pub returns-in-Read-clause-applies : goal.returns-in-Read-clause-applies
returns-in-Read-clause-applies g c = rw c.in-Read.is c.reply_to_read.ensures.applies

pub returns-in-Write-clause-honest : goal.returns-in-Write-clause-honest
returns-in-Write-clause-honest g c = c.write.ensures.honest

pub returns-in-Write-clause-applies : goal.returns-in-Write-clause-applies
returns-in-Write-clause-applies g c = rw (c.in-Write.is, c.reply_to-in-Write.ensures) c.write.ensures.writes

pub returns-in-Rename-clause-honest : goal.returns-in-Rename-clause-honest
returns-in-Rename-clause-honest g c = c.rename.ensures.honest

pub returns-in-Rename-clause-applies : goal.returns-in-Rename-clause-applies
returns-in-Rename-clause-applies g c = rw (c.in-Rename.is, c.reply_to-in-Rename.ensures) c.rename.ensures.renames

pub returns-in-List-clause-honest : goal.returns-in-List-clause-honest
returns-in-List-clause-honest g c = c.list.ensures.honest

pub returns-in-List-clause-applies : goal.returns-in-List-clause-applies
returns-in-List-clause-applies g c = rw (c.in-List.is, c.reply_to_list.ensures) c.list.ensures.lists

pub returns-in-Fail-clause-honest : goal.returns-in-Fail-clause-honest
returns-in-Fail-clause-honest g c = c.fail.ensures.honest

pub returns-in-Fail-clause-applies : goal.returns-in-Fail-clause-applies
returns-in-Fail-clause-applies g c = rw (c.in-Fail.is, c.reply_to-in-Fail.ensures) c.fail.ensures.fails

pub returns-in-Replace-clause-honest : goal.returns-in-Replace-clause-honest
returns-in-Replace-clause-honest g c = c.replace.ensures.honest

pub returns-in-Replace-clause-applies : goal.returns-in-Replace-clause-applies
returns-in-Replace-clause-applies g c = rw (c.in-Replace.is, c.reply_to-in-Replace.ensures) c.replace.ensures.replaces

pub returns-in-RebuildStep-clause-honest : goal.returns-in-RebuildStep-clause-honest
returns-in-RebuildStep-clause-honest g c = c.rebuild_step.ensures.honest

pub returns-in-RebuildStep-clause-applies : goal.returns-in-RebuildStep-clause-applies
returns-in-RebuildStep-clause-applies g c = rw (c.in-RebuildStep.is, c.reply_to_step.ensures) c.rebuild_step.ensures.rebuilds

pub returns-in-Scrub-clause-honest : goal.returns-in-Scrub-clause-honest
returns-in-Scrub-clause-honest g c = c.scrub.ensures.honest

pub returns-in-Scrub-clause-applies : goal.returns-in-Scrub-clause-applies
returns-in-Scrub-clause-applies g c = rw (c.in-Scrub.is, c.reply_to_scrub.ensures) c.scrub.ensures.scrubs

pub returns-in-ScrubRows-clause-honest : goal.returns-in-ScrubRows-clause-honest
returns-in-ScrubRows-clause-honest g c = c.scrub_rows.ensures.honest

pub returns-in-ScrubRows-clause-applies : goal.returns-in-ScrubRows-clause-applies
returns-in-ScrubRows-clause-applies g c = rw (c.in-ScrubRows.is, c.reply_to_scrub-in-ScrubRows.ensures) c.scrub_rows.ensures.scrubs
