-- What a builder has.
use Rattle.std.specs.Prelude.{List}
use Rattle.entry_runs.specs.declared.builder.RunsBuilder.{RunsBuilder}
use Rattle.entry_runs.specs.declared.run.Run.{Run}

-- its runs
abbrev pub runs_in : RunsBuilder → List Run
runs_in builder = builder.list.items
