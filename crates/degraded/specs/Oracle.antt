-- One row in memory, as a way to the rows of a set.
use Rattle.std.specs.Prelude.{false, [], None, slice_index_or}
use Rattle.degraded.specs.declared.oracle.sources.RowSources.{RowSources}
use Rattle.degraded.specs.RowValue.{Rows}

-- the rows of a set, each of which has these sectors
abbrev pub rows_of_sources : RowSources → Rows
rows_of_sources sources = record {
  members = sources.members;
  entry = λ row member. slice_index_or sources.entry member None;
  trusted = λ row member. slice_index_or sources.trusted member false;
  own = λ row member. slice_index_or sources.own member [];
}
