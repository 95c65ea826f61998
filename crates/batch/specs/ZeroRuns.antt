-- What rows that are made zero have.
use Rattle.std.specs.Prelude.{List}
use Rattle.entry_runs.specs.declared.run.Run.{Run}
use Rattle.batch.specs.declared.zero_rows.ZeroRows.{ZeroRows}

-- their runs
abbrev pub zero_runs : ZeroRows → List Run
zero_runs rows = rows.list.items
