use Rattle.std.proofs.Common.{ℕ, List, sym, ◌∙◌, ap, get_or}
use Rattle.std.proofs.lemmas.Result.{err_from_is_err_and}
use Rattle.sector_model.proofs.DiskFiles.{holds_none, holds_more, holds_all, size_more, size_all}
use Rattle.sector_model.proofs.mem_file.MemFile.new.Goals as goal

pub returns-in_err-safe-clause-size : goal.returns-in_err-safe-clause-size
returns-in_err-safe-clause-size c = rw (err_from_is_err_and c.from_residual-in_err-safe.result c.from_residual-in_err-safe.ensures.1).1 tt

pub returns-in_err-safe-clause-holds : goal.returns-in_err-safe-clause-holds
returns-in_err-safe-clause-holds c = rw (err_from_is_err_and c.from_residual-in_err-safe.result c.from_residual-in_err-safe.ensures.1).1 tt

pub returns-in_err-safe-clause-synced : goal.returns-in_err-safe-clause-synced
returns-in_err-safe-clause-synced c = rw (err_from_is_err_and c.from_residual-in_err-safe.result c.from_residual-in_err-safe.ensures.1).1 tt

pub returns-in_err-safe-clause-whole : goal.returns-in_err-safe-clause-whole
returns-in_err-safe-clause-whole c = rw (err_from_is_err_and c.from_residual-in_err-safe.result c.from_residual-in_err-safe.ensures.1).1 tt

pub returns-in_err-extend_from_slice-clause-size : goal.returns-in_err-extend_from_slice-clause-size
returns-in_err-extend_from_slice-clause-size c = rw (err_from_is_err_and c.from_residual.result c.from_residual.ensures.1).1 tt

pub returns-in_err-extend_from_slice-clause-holds : goal.returns-in_err-extend_from_slice-clause-holds
returns-in_err-extend_from_slice-clause-holds c = rw (err_from_is_err_and c.from_residual.result c.from_residual.ensures.1).1 tt

pub returns-in_err-extend_from_slice-clause-synced : goal.returns-in_err-extend_from_slice-clause-synced
returns-in_err-extend_from_slice-clause-synced c = rw (err_from_is_err_and c.from_residual.result c.from_residual.ensures.1).1 tt

pub returns-in_err-extend_from_slice-clause-whole : goal.returns-in_err-extend_from_slice-clause-whole
returns-in_err-extend_from_slice-clause-whole c = rw (err_from_is_err_and c.from_residual.result c.from_residual.ensures.1).1 tt

pub loop-sector-init : goal.loop-sector-init
loop-sector-init c = record { size = c.new-bytes.ensures.len; holds = holds_none _ }

pub loop-sector-preserved : goal.loop-sector-preserved
loop-sector-preserved c = record {
  size = size_more _ c.in_ok-extend_from_slice.ensures.len c.loop-sector.invariant.size (c.told-disk c.loop-sector.sector-index c.loop-sector-test.true);
  holds = holds_more c.loop-sector.bytes.items c.extend_from_slice.new.self.items c.args.disk.now c.loop-sector.sector-index
      c.in_ok-extend_from_slice.ensures.items
      (sym c.loop-sector.bytes.ok.0 ∙ c.loop-sector.invariant.size) c.loop-sector-test.true c.loop-sector.invariant.holds;
}

pub invariant_of-result : goal.invariant_of-result
invariant_of-result c = record { same = c.in_ok-safe.ensures.len ∙ c.deref.ensures.len }

pub returns-clause-size : goal.returns-clause-size
returns-clause-size c = size_all _ c.loop-sector.invariant.size c.loop-sector-test.false c.loop-sector.auto.sector-index-end

pub returns-clause-holds : goal.returns-clause-holds
returns-clause-holds c = holds_all c.args.disk.now c.loop-sector.sector-index c.loop-sector-test.false c.loop-sector.invariant.holds

pub returns-clause-synced : goal.returns-clause-synced
returns-clause-synced c = λ p. ap (λ (l : List ℕ). get_or l p 0) (c.in_ok-safe.ensures.items ∙ c.deref.ensures.value)

pub returns-clause-whole : goal.returns-clause-whole
returns-clause-whole c = record { each = c.told-disk }
