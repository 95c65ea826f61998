use Rattle.std.proofs.Common.{◌<◌, ◌+◌, ℕ, length, get_or, drop, ◌∙◌, arith}
use Rattle.sector_model.specs.History.{sector_of}
use Rattle.sector_model.specs.Memory.{put_by, put_by_all}
use Rattle.sector_model.proofs.Chosen.{IsSameChoice, same_choice, same_choice_none}
use Rattle.sector_model.proofs.Entries.{no_entry, put_by_all-more}
use Rattle.sector_model.proofs.memory.after_crash.put_chosen.Goals as goal
use Rattle.sector_model.proofs.memory.after_crash.put_chosen.Goals.{in-Some, in_default}

pub loop-entry-preserved : goal.loop-entry-preserved
loop-entry-preserved c =
    let l = c.loop-entry in
    let log = c.args.log.now in
    let rest = λ (a : ℕ). put_by_all (drop (l.entry-index + 1) log) c.room_after-room.result c.args.dev a in
    let puts = λ (a : ℕ). put_by (get_or log l.entry-index no_entry).event l.room c.args.dev a in
    let all = λ (a : ℕ). put_by_all (drop l.entry-index log) l.room c.args.dev a in
    let first = λ (a : ℕ). put_by_all-more log l.entry-index l.room c.room_after-room.result c.args.dev a c.loop-entry-test.true c.room_after-room.ensures in
    let same : (a : ℕ) → a < length l.disk → IsSameChoice (sector_of l.disk a) (sector_of c.match-candidate.disk a) (get_or l.numbers a 0)
    (get_or c.match-candidate.numbers a 0) (all a) (rest a) = λ a within.
    elim c.match-candidate.branch [
      | in-Some w ↦ same_choice l.disk c.match-candidate.disk l.numbers c.match-candidate.numbers w.in-Some.at w.in-Some.value.now a (puts a) (all a) (rest a)
          (first a) (w.in-Some.ensures a)
          (w.disk-is ∙ w.put_if_chosen.ensures.disk) (w.numbers-is ∙ w.put_if_chosen.ensures.numbers) within (omega (arith, c.requires.len))
      | in_default w ↦ same_choice_none l.disk c.match-candidate.disk l.numbers c.match-candidate.numbers a (puts a) (all a) (rest a) (first a)
          (w.in_default.ensures a) w.disk-is w.numbers-is
    ] in record {
      left = λ a within. (same a (omega arith)).left (l.invariant.left a within);
      chosen = λ a within. (same a (omega arith)).chosen ∙ l.invariant.chosen a within;
    }
