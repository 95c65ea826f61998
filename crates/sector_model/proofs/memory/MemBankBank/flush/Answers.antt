use Rattle.std.proofs.Common.{◌≡◌, ℕ, Bool, true, false, not, ◌||◌, ◌==◌, ◌+◌, ◌⊎◌, inl, inr, Vec, Global, length, sym, ◌∙◌, ap, arith}
use Rattle.std.specs.Prelude.{slice_set}
use Rattle.sector_model.specs.declared.event.Event.TheVariants.{DeviceFailed}
use Rattle.sector_model.specs.History.{After}
use Rattle.sector_model.specs.Memory.{contents_of, run_of, slots_of}
use Rattle.sector_model.specs.Plans.{fails_at}
use Rattle.sector_model.proofs.MemPanels.{HasData, has_data, read_down, after_down, after_failure, after_answer, run_down, run_failure, cause_down, cause_up}
use Rattle.sector_model.proofs.MemPanels.{some_fault, no_fault}
use Rattle.sector_model.proofs.memory.MemBankBank.flush.Goals as goal
use Rattle.sector_model.proofs.memory.MemBankBank.flush.Goals.{then-self-eq0-via-then-self-eq0, then-self-eq0-via-else-self-eq0+then-fails}

pub returns-then-index : goal.returns-then-index
returns-then-index c =
    let m = c.args.self.now in
    let down = read_down m.down c.args.dev c.index.result.now true c.requires.call.device c.index.ensures c.if-index.true in
    let passed = c.pass.ensures in
    record {
      panel = after_down c.args.dev m.calls _ down passed.disks passed.down passed.calls;
      honest = (λ h. h, λ h. h);
      history = λ _. run_down c.args.dev (DeviceFailed c.args.dev) (sym (m.replayed.down c.args.dev) ∙ down) passed.run;
      cause = cause_down (m.room == 0 || fails_at m.plan c.args.dev m.calls) down;
      plan = passed.plan;
      room = omega (arith, passed.room);
    }

pub returns-then-self-eq0 : goal.returns-then-self-eq0
returns-then-self-eq0 c =
    let m = c.args.self.now in
    let up = read_down m.down c.args.dev c.index.result.now false c.requires.call.device c.index.ensures c.if-index.false in
    let fails = fails_at m.plan c.args.dev m.calls in
    let same : HasData c.then-self-eq0.self m.disks m.down m.calls m.room m.plan (run_of (slots_of m.start.items) m.log.items m.calls) =
    elim c.then-self-eq0.branch [
      | then-self-eq0-via-then-self-eq0 w ↦ has_data w.self-is
      | then-self-eq0-via-else-self-eq0+then-fails w ↦ has_data w.self-is
    ] in
    let why : (m.room ≡ 0) ⊎ (fails ≡ true) = elim c.then-self-eq0.branch [
      | then-self-eq0-via-then-self-eq0 w ↦ inl w.if-self-eq0.true
      | then-self-eq0-via-else-self-eq0+then-fails w ↦ inr (sym w.if-fails.ensures)
    ] in
    let failed = c.fail_device.ensures in
    record {
      panel = after_failure c.args.dev m.calls _ m.down c.fail_device.new.self.down c.requires.call.device (failed.disks ∙ same.disks)
          (failed.down ∙ ap (λ (v : Vec Bool Global). slice_set v.items c.args.dev true) same.down) (failed.calls ∙ ap (λ (n : ℕ). n + 1) same.calls);
      honest = (λ h. h, λ h. h);
      history = λ _. run_failure c.args.dev (DeviceFailed c.args.dev) (sym (m.replayed.down c.args.dev) ∙ up)
          (failed.run ∙ ap (After (DeviceFailed c.args.dev)) same.run);
      cause = cause_up (m.room == 0 || fails) up (ap not (some_fault why));
      plan = failed.plan ∙ same.plan;
      room = omega (arith, failed.room, same.room);
    }

pub returns : goal.returns
returns c =
    let m = c.args.self.now in
    let up = read_down m.down c.args.dev c.index.result.now false c.requires.call.device c.index.ensures c.if-index.false in
    let done = c.settle.ensures in
    record {
      panel = after_answer c.args.dev m.calls _ m.disks c.settle.new.self.disks up (λ d. ap (λ disks. length (contents_of disks.items d)) done.disks) done.down
          done.calls;
      honest = (λ h. h, λ h. h);
      history = λ _. done.run;
      cause = cause_up (m.room == 0 || fails_at m.plan c.args.dev m.calls) up (ap not (no_fault c.if-self-eq0.false (sym c.if-fails.ensures)));
      plan = done.plan;
      room = sym done.room;
    }
