use Rattle.array_io.proofs.Laws.Begun.{a_crash_then_a_start}
use Rattle.volume_table.proofs.law.runs.volumes_after_a_start.Goals as goal

pub returns : goal.returns
returns c = λ base devices table old new maps stands chosen starts. record {
  lists = stands.lists;
  holds = a_crash_then_a_start base devices table old new stands.lists stands.holds chosen starts;
  shown = stands.shown;
}
