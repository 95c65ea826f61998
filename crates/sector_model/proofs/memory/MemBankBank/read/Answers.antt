use Rattle.std.proofs.Common.{rules, ◌<◌, true, false, not, [], List, length, get_or, vec_len, sym, ◌∙◌, ap, arith}
use Rattle.std.proofs.lemmas.List.{get_or_default}
use Rattle.sector_model.specs.declared.event.Event.TheVariants.{DeviceFailed}
use Rattle.sector_model.specs.History.{Bytes}
use Rattle.sector_model.specs.Memory.{contents_of}
use Rattle.sector_model.specs.Plans.{fails_at}
use Rattle.sector_model.proofs.Copies.{contents_at}
use Rattle.sector_model.proofs.MemPanels.{read_down, after_down, after_failure, after_answer, run_down, run_failure, cause_down, cause_up}
use Rattle.sector_model.proofs.memory.MemBankBank.read.Goals as goal

pub returns-then-index : goal.returns-then-index
returns-then-index c =
    let m = c.args.self.now in
    let down = read_down m.down c.args.dev c.index.result.now true c.requires.call.device c.index.ensures c.if-index.true in
    let passed = c.pass.ensures in
    record {
      panel = after_down c.args.dev m.calls _ down passed.disks passed.down passed.calls;
      honest = (λ h. h, λ h. h);
      history = λ _. run_down c.args.dev (DeviceFailed c.args.dev) (sym (m.replayed.down c.args.dev) ∙ down) passed.run;
      bytes = λ _. tt;
      cause = cause_down (fails_at m.plan c.args.dev m.calls) down;
      plan = passed.plan;
      room = passed.room;
    }

pub returns-then-fails : goal.returns-then-fails
returns-then-fails c =
    let m = c.args.self.now in
    let up = read_down m.down c.args.dev c.index.result.now false c.requires.call.device c.index.ensures c.if-index.false in
    let failed = c.fail_device.ensures in
    record {
      panel = after_failure c.args.dev m.calls _ m.down c.fail_device.new.self.down c.requires.call.device failed.disks failed.down failed.calls;
      honest = (λ h. h, λ h. h);
      history = λ _. run_failure c.args.dev (DeviceFailed c.args.dev) (sym (m.replayed.down c.args.dev) ∙ up) failed.run;
      bytes = λ _. tt;
      cause = cause_up (fails_at m.plan c.args.dev m.calls) up (ap not c.if-fails.ensures);
      plan = failed.plan;
      room = failed.room;
    }

pub returns-clause-panel : goal.returns-clause-panel
returns-clause-panel c =
    let m = c.args.self.now in
    let up = read_down m.down c.args.dev c.index.result.now false c.requires.call.device c.index.ensures c.if-index.false in
    after_answer c.args.dev m.calls _ m.disks c.pass-2.new.self.disks up (λ d. ap (λ disks. length (contents_of disks.items d)) c.pass-2.ensures.disks)
    c.pass-2.ensures.down c.pass-2.ensures.calls

pub returns-clause-history : goal.returns-clause-history
returns-clause-history c = search rules

pub returns-clause-bytes : goal.returns-clause-bytes
returns-clause-bytes c =
    let m = c.args.self.now in
    let device : c.args.dev < vec_len m.down = c.requires.call.device in
    let here = contents_at m.disks.items c.args.dev c.index-2.result.now (omega (arith, m.disks.ok.0, m.whole, device)) c.index-2.ensures in
    let is_up = read_down m.down c.args.dev c.index.result.now false c.requires.call.device c.index.ensures c.if-index.false in
    let within : c.args.at < length c.index-2.result.now.items = omega (arith, ap length here, c.requires.within is_up) in
    λ _. c.index-3.ensures ∙ get_or_default c.index-2.result.now.items c.args.at _ _ within
    ∙ ap (λ (l : List Bytes). get_or l c.args.at []) (sym here ∙ m.replayed.seen c.args.dev)

pub returns-clause-cause : goal.returns-clause-cause
returns-clause-cause c =
    let m = c.args.self.now in
    cause_up (fails_at m.plan c.args.dev m.calls) (read_down m.down c.args.dev c.index.result.now false c.requires.call.device c.index.ensures c.if-index.false)
    (ap not c.if-fails.ensures)
