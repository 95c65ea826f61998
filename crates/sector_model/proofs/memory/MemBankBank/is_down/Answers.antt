use Rattle.std.proofs.Common.{ℕ, ◌<◌, true, ◌∙◌, subst}
use Rattle.std.proofs.lemmas.List.{get_or_default}
use Rattle.sector_model.proofs.memory.MemBankBank.is_down.Goals as goal

pub returns : goal.returns
returns c =
    let down = c.args.self.now.down in
    c.index.ensures ∙ get_or_default down.items c.args.dev c.index.result.now true (subst (λ (n : ℕ). c.args.dev < n) down.ok.0 c.requires)
