use Rattle.std.proofs.Common.{◌≡◌, ◌-◌, ℕ, List, length, count_by, ◌∙◌, ap, arith}
use Rattle.std.proofs.lemmas.Result.{err_from_is_err_and}
use Rattle.std.proofs.lemmas.List.{take_at}
use Rattle.sector_model.specs.declared.memory.Entry.{Entry}
use Rattle.sector_model.specs.History.{Bytes, sector_of}
use Rattle.sector_model.specs.Memory.{all_written, is_answered}
use Rattle.sector_model.proofs.Runs.{taken_since}
use Rattle.sector_model.proofs.memory.after_crash.disk_after.Goals as goal

pub returns-clause-taken : goal.returns-clause-taken
returns-clause-taken c = λ start began a within.
    let safe = c.split_at.result.0.now in
    let base = c.deref_mut-2.result.now in
    let same : length c.write_again.new.disk ≡ c.in_ok-disk.disk.len = omega (arith, c.in_ok-disk.disk.ok.0, ap length c.deref_mut.ensures.value) in
    let base_is : base ≡ all_written safe c.args.dev c.args.began.now =
    c.deref_mut-2.ensures.value ∙ take_at c.write_again.new.disk _ c.in_ok-disk.disk.len same ∙ c.write_again.ensures
    ∙ ap (all_written safe c.args.dev) (c.deref_mut.ensures.value ∙ c.in_ok-disk.ensures.copied) in
    let many : length base ≡ c.in_ok-disk.disk.len = omega
    (arith, same, ap length (c.deref_mut-2.ensures.value ∙ take_at c.write_again.new.disk _ c.in_ok-disk.disk.len same)) in
    let room : c.saturating_sub-room.result ≡ c.args.room - count_by (λ (entry : Entry). is_answered entry.event) safe = c.saturating_sub-room.ensures
    ∙ ap (λ (n : ℕ). c.args.room - n) c.answered.ensures in
    ap (λ (l : List Bytes). sector_of l a) (take_at c.put_by_choice.new.disk _ c.in_ok-disk.disk.len (omega (arith, many)))
    ∙ c.put_by_choice.ensures a (omega (arith, many, c.in_ok-disk.disk.ok.0, ap length c.in_ok-disk.ensures.copied, within))
    ∙ taken_since c.args.choice c.args.room start c.args.log.now safe c.split_at.result.1.now c.args.dev a c.after_last_flush.result c.args.began.now base
    c.saturating_sub-room.result
    c.after_last_flush.ensures.within c.after_last_flush.ensures.last c.split_at.ensures.front c.split_at.ensures.back began base_is room

pub returns-in_err-disk-clause-len : goal.returns-in_err-disk-clause-len
returns-in_err-disk-clause-len c = rw (err_from_is_err_and c.from_residual.result c.from_residual.ensures.1).1 tt

pub returns-in_err-disk-clause-taken : goal.returns-in_err-disk-clause-taken
returns-in_err-disk-clause-taken c = rw (err_from_is_err_and c.from_residual.result c.from_residual.ensures.1).1 tt

pub returns-in_err-numbers-clause-len : goal.returns-in_err-numbers-clause-len
returns-in_err-numbers-clause-len c = rw (err_from_is_err_and c.from_residual-in_err-numbers.result c.from_residual-in_err-numbers.ensures.1).1 tt

pub returns-in_err-numbers-clause-taken : goal.returns-in_err-numbers-clause-taken
returns-in_err-numbers-clause-taken c = rw (err_from_is_err_and c.from_residual-in_err-numbers.result c.from_residual-in_err-numbers.ensures.1).1 tt

pub returns-clause-len : goal.returns-clause-len
returns-clause-len c =
    let same : length c.write_again.new.disk ≡ c.in_ok-disk.disk.len = omega (arith, c.in_ok-disk.disk.ok.0, ap length c.deref_mut.ensures.value) in
    let many : length c.deref_mut-2.result.now ≡ c.in_ok-disk.disk.len =
    omega (arith, same, ap length (c.deref_mut-2.ensures.value ∙ take_at c.write_again.new.disk _ c.in_ok-disk.disk.len same)) in
    ap length (take_at c.put_by_choice.new.disk _ c.in_ok-disk.disk.len (omega (arith, many)))
    ∙ omega (arith, many, c.in_ok-disk.disk.ok.0, ap length c.in_ok-disk.ensures.copied)
