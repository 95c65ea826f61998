use contract.BorrowLft.{⊑_static, ⊑_trans}
use Rattle.std.proofs.Common.{◌≡◌, ap, rules, sym, ◌∙◌}
use Rattle.std.proofs.lemmas.Result.{err_from_is_err_and}
use Rattle.sector_model.specs.declared.refusal.Refusal.{Refusal}
use Rattle.sector_model.specs.declared.refusal.Refusal.TheVariants.{Memory, WriteFault}
use Rattle.device_files.specs.declared.FolderFault.TheVariants.{Refused}
use Rattle.set_commands.proofs.Applied.{replaced_by}
use Rattle.raidtool.proofs.Causes.{by_refusal, not_cut, not_memory}
use Rattle.raidtool.proofs.replacing.replace_over.Goals as goal

of_write : (refusal : Refusal) → Refused refusal ≡ Refused WriteFault → refusal ≡ WriteFault
of_write refusal cut = cc

pub apply_on-requires-lives-B-Bank : goal.apply_on-requires-lives-B-Bank
apply_on-requires-lives-B-Bank g c κs within = ⊑_trans _ _ _ (⊑_static _) c.type_bounds.static-F

pub apply_on-requires-lives-B-Destruct : goal.apply_on-requires-lives-B-Destruct
apply_on-requires-lives-B-Destruct g c κs within = ⊑_trans _ _ _ (⊑_static _) c.type_bounds.static-F

pub returns-in_err-apply_on : goal.returns-in_err-apply_on
returns-in_err-apply_on g c =
    let from = err_from_is_err_and c.from_residual-in_err-apply_on.result c.from_residual-in_err-apply_on.ensures.1 in
    record {
      synced = search rules;
      replaced = search rules;
      written = search rules;
      fault = search rules;
      blamed = search rules;
      cause = rw (from.1, from.2) (by_refusal _ _
          (λ other. (_, (_, c.requires.safe, c.in_ok-bank.ensures.begins), c.in_err-apply_on.ensures.refused (not_cut _ other))));
      unwritten = rw (from.1, from.2) (λ apart. c.in_err-apply_on.ensures.unwritten (λ is. apart (ap Refused is)));
      cut = rw (from.1, from.2) (λ cut.
          let done = replaced_by _ _ _ _ _ (c.in_err-apply_on.ensures.cut (of_write _ cut)) in
          (record { bank = _; begins = c.in_ok-bank.ensures.begins; replaced = done.0 }, done.1));
    }

no_memory_to_write : (refusal : Refusal) → refusal ≡ Memory → Refused refusal ≡ Refused WriteFault → ⊥
no_memory_to_write refusal memory cut = let never : Memory ≡ WriteFault = sym memory ∙ of_write refusal cut in cc

pub returns-in_err-bank : goal.returns-in_err-bank
returns-in_err-bank g c =
    let from = err_from_is_err_and c.from_residual.result c.from_residual.ensures.1 in
    record {
      synced = search rules;
      replaced = search rules;
      written = search rules;
      fault = search rules;
      blamed = search rules;
      cause = rw (from.1, from.2) (by_refusal _ _ (λ other. absurd (not_memory _ other c.in_err-bank.ensures.err)));
      unwritten = search rules;
      cut = rw (from.1, from.2) (λ cut. absurd (no_memory_to_write _ c.in_err-bank.ensures.err cut));
    }

pub returns : goal.returns
returns g c = record {
  synced = search rules;
  replaced = record { bank = _; begins = c.in_ok-bank.ensures.begins; replaced = (replaced_by _ _ _ _ _ c.in_ok-apply_on.ensures.applied).0 };
  written = (replaced_by _ _ _ _ _ c.in_ok-apply_on.ensures.applied).1;
  fault = search rules;
  cause = search rules;
  blamed = search rules;
  unwritten = search rules;
  cut = search rules;
}
