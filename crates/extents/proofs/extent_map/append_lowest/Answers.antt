-- An extent is given where it is free and wanted and fewer than n are given, and is passed over otherwise.
use Rattle.std.proofs.Common.{◌<◌, not, length, ◌∙◌, sym, ap, arith}
use Rattle.std.proofs.lemmas.List.{set-get_or}
use Rattle.extents.specs.ExtentMaps.{is_wanted}
use Rattle.extents.proofs.TakeLemmas.{append_begins, append_gives, append_passes_owned, append_passes_unwanted, append_passes_rest}
use Rattle.extents.proofs.extent_map.append_lowest.Goals as goal
use Rattle.extents.proofs.extent_map.append_lowest.Goals.{then-taken-n+then-is_none+then-is_wanted, else-taken-n}
use Rattle.extents.proofs.extent_map.append_lowest.Goals.{else-taken-n-via-then-taken-n+then-is_none+else-is_wanted}
use Rattle.extents.proofs.extent_map.append_lowest.Goals.{else-taken-n-via-then-taken-n+else-is_none, else-taken-n-via-else-taken-n}

pub loop-extent-init : goal.loop-extent-init
loop-extent-init c = append_begins (is_wanted c.args.all c.args.dirty.now) c.args.owners.now c.args.volume c.args.first c.args.n

pub loop-extent-preserved : goal.loop-extent-preserved
loop-extent-preserved c =
    let within : c.loop-extent.extent < length c.loop-extent.owners = omega arith in
    let so_far = c.loop-extent.invariant in
    elim c.if-taken-n.branch [
      | then-taken-n+then-is_none+then-is_wanted w ↦ rw (w.owners-is, w.taken-is)
          (append_gives _ _ _ _ _ _ _ _ so_far within (w.is_none.ensures ∙ ap not w.if-is_none.true)
          (sym w.is_wanted.ensures ∙ w.if-is_wanted.true) w.if-taken-n.true)
      | else-taken-n w ↦ elim w.else-taken-n.branch [
        | else-taken-n-via-then-taken-n+then-is_none+else-is_wanted w' ↦ rw (w.owners-is, w'.owners-is, w.taken-is, set-get_or)
            (append_passes_unwanted _ _ _ _ _ _ _ _ so_far within (sym w'.is_wanted.ensures ∙ w'.if-is_wanted.false))
        | else-taken-n-via-then-taken-n+else-is_none w' ↦ rw (w.owners-is, w'.owners-is, w.taken-is, set-get_or)
            (append_passes_owned _ _ _ _ _ _ _ _ so_far within (w'.is_none.ensures ∙ ap not w'.if-is_none.false))
        | else-taken-n-via-else-taken-n w' ↦ rw (w.owners-is, w'.owners-is, w.taken-is, set-get_or)
            (append_passes_rest _ _ _ _ _ _ _ _ so_far within w'.if-taken-n.false)
      ]
    ]
