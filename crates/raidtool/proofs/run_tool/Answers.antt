use Rattle.raidtool.proofs.run_tool.Goals as goal

pub returns-clause-ok : goal.returns-clause-ok
returns-clause-ok g c = record {
  most = c.tool-status.ensures.status;
  done = c.tool-status.ensures.done;
  wrong = c.tool-status.ensures.wrong;
}
