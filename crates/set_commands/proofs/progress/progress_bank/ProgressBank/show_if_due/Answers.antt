use Rattle.std.proofs.Math.Logic.{∥∥₁_elim}
use Rattle.std.proofs.Props.{props}
use Rattle.set_commands.proofs.Shown.{shown_by}
use Rattle.set_commands.proofs.progress.progress_bank.ProgressBank.show_if_due.Goals as goal

pub show-requires : goal.show-requires
show-requires g c = ∥∥₁_elim c.args.self.now.began_is (hlevel props) (λ began.
    ∣ shown_by (g.M.Meter.reads c.args.self.now.meter.now) c.in-Some-Some.began c.in-Some-Some.now c.saturating_sub-elapsed.result _ _ _ _ _ _
    (rw c.in-Some-Some.is-0 at began) (rw c.in-Some-Some.is-1 at c.millis.ensures) c.saturating_sub-elapsed.ensures c.percent.ensures.exact
    c.average_speed-speed.ensures c.time_left-left.ensures.none c.time_left-left.ensures.some c.told.ensures ∣₁)
