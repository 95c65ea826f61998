use Rattle.std.proofs.Common.{rules, ◌≡◌, ◌∙◌, sym}
use Rattle.std.specs.Prelude.{count_by, is_some}
use Rattle.volume_table.proofs.StatusTold.{used_are_counted}
use Rattle.volume_table.proofs.store.status.used.Goals as goal

pub returns : goal.returns
returns c =
    let counted : c.count.result ≡ count_by is_some c.args.records.now = search rules in
    counted ∙ sym (used_are_counted c.args.records.now)
