use Rattle.std.proofs.Common.{◌⊎◌, ◌∙◌, Err, ap, inl, inr, refl}
use Rattle.set_commands.specs.Run.{streams}
use Rattle.set_commands.specs.declared.serving.health.Health.TheVariants.{Complete}
use Rattle.raidtool.specs.Causes.{IsCaused}
use Rattle.raidtool.specs.Stops.{IsToldAfter}
use Rattle.raidtool.specs.Tool.{IsBlamedIn}
use Rattle.raidtool.proofs.Checked.{checked_of, complete_of, incomplete_of, misshapen_status, most_of, never_two, none_of_four, one_of, unassembled_of}
use Rattle.raidtool.proofs.Checked.{well_of, zero_of}
use Rattle.raidtool.proofs.DoneLines.{unmade_by, was_stopped, written_of}
use Rattle.raidtool.proofs.Statuses.{done_by, stopped_by}
use Rattle.raidtool.proofs.tool.end_line.Goals as goal

pub returns : goal.returns
returns g c =
    let line = c.args.line in
    let done = c.do_line-done.result in
    let status = c.folder_status-status.result in
    let health = c.do_line-done.new.health in
    let ended = c.checked.result in
    let is = c.checked.ensures in
    let st = c.folder_status-status.ensures.status in
    let does = c.do_line-done.ensures in
    record {
      most = most_of line done status health ended is st;
      never_two = never_two line done status health ended is st;
      does = λ zero. (health, done_by _ done status st (zero_of line done status health ended is st zero) does.does);
      complete = λ asks zero. rw (complete_of line done status health ended is st asks zero) at
          (done_by _ done status st (zero_of line done status health ended is st zero) does.does);
      written = λ zero. written_of g.D.File.Growing g.D.File.BankFile.left g.D.InspectedFile.Growing g.D.InspectedFile.BankFile.left
          (g.D.SlotFiles.opens c.args.disk.now) (g.D.SlotFiles.creates c.args.disk.now) (g.D.InspectFiles.inspects c.args.disk.now)
          (λ folder. g.D.FolderSync.is_safe c.args.disk.now folder ⊎ g.D.FolderSync.is_never c.args.disk.now folder)
          c.args.drawn line (streams (g.R.Read.remaining c.args.reader.now) (g.W.Write.contents c.args.out.now))
          (streams (g.R.Read.remaining c.do_line-done.new.reader) (g.W.Write.contents c.do_line-done.new.out)) Complete health
          (done_by _ done status st (zero_of line done status health ended is st zero) does.does);
      read = λ zero run known. done_by _ done status st (zero_of line done status health ended is st zero) (does.read run known);
      quiet = λ well. rw (done_by _ done status st (well_of line done status health ended is st well) c.folder_status-status.ensures.quiet) does.passed;
      hushed = λ none well. done_by _ done status st (well_of line done status health ended is st well) c.folder_status-status.ensures.quiet ∙ does.hushed none;
      refused = λ one.
          let stop = stopped_by _ _ done status st (one_of line done status health ended is st one) does.stopped c.folder_status-status.ensures.told in
          was_stopped (IsCaused g.D.File.Growing g.D.File.BankFile.left g.D.InspectedFile.Growing g.D.InspectedFile.BankFile.left
          (g.D.SlotFiles.opens c.args.disk.now) (g.D.InspectFiles.inspects c.args.disk.now) line)
          (IsBlamedIn g.D.File.Growing (g.D.SlotFiles.opens c.args.disk.now) (g.D.SlotFiles.creates c.args.disk.now)
          (g.D.InspectFiles.inspects c.args.disk.now) line) line _
          (λ text. IsToldAfter g.E.Write.contents text c.args.err.now c.folder_status-status.new.err) _ stop.0
          c.folder_of.ensures stop.2 (rw stop.1 at does.named) (c.do_line-done.new.err, does.passed, stop.3)
          (rw stop.1 at does.alone)
          (λ refusal same. none_of_four line done status health ended is one refusal (stop.1 ∙ ap Err same)) (rw stop.1 at does.cause);
      unwritten = λ beside one.
          let stop = stopped_by _ _ done status st (one_of line done status health ended is st one) does.stopped c.folder_status-status.ensures.told in
          let unwritten = does.unwritten beside in
          let cut = does.cut beside in
          unmade_by c.args.drawn line _ _ _ (λ text. IsToldAfter g.E.Write.contents text c.args.err.now c.folder_status-status.new.err) _ stop.0
          (c.do_line-done.new.err, does.passed, stop.3) (rw stop.1 at unwritten) (rw stop.1 at cut);
      checked = checked_of line done status health ended is st;
      incomplete = λ three.
          let both = incomplete_of line done status health ended is st three in
          rw both.1 at (done_by _ done status st both.0 does.does);
      unassembled = λ four. elim (unassembled_of line done status health ended is st four) [
        | inl both ↦ inl (
          rw both.1 at (done_by _ done status st both.0 does.does),
          rw (done_by _ done status st both.0 c.folder_status-status.ensures.quiet) does.passed,
        )
        | inr (refusal, by, none) ↦ inr (
          refusal,
          none,
          (rw by at does.cause) refusal refl,
          (c.do_line-done.new.err, does.passed, rw by at c.folder_status-status.ensures.told),
        )
      ];
      beside = does.beside;
      misshapen = λ bad.
          let refused = does.misshapen bad in
          let same = misshapen_status line done status health bad in (
            is ∙ same ∙ (rw refused.0 at st),
            rw refused.1 at (rw refused.0 at c.folder_status-status.ensures.told),
          );
    }
