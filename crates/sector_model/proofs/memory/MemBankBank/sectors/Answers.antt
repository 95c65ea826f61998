use Rattle.std.proofs.Common.{ℕ, min, length, sym, ◌∙◌, ap, arith}
use Rattle.sector_model.proofs.Copies.{contents_at}
use Rattle.sector_model.proofs.memory.MemBankBank.sectors.Goals as goal

pub returns : goal.returns
returns c =
    let m = c.args.self.now in
    let here = contents_at m.disks.items c.args.dev c.index.result.now (omega (arith, m.disks.ok.0, m.whole, c.requires)) c.index.ensures in
    c.min-count.ensures ∙ ap (λ (n : ℕ). min n 4294967295) (c.len.ensures ∙ c.index.result.now.ok.0 ∙ sym (ap length here))

pub index-requires : goal.index-requires
index-requires c = let m = c.args.self.now in omega (arith, m.disks.ok.0, m.whole, c.requires)
