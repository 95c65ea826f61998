use Rattle.std.proofs.Common.{◌≡◌, sym, ◌∙◌, subst, arith}
use Rattle.std.proofs.lemmas.Bool.{false≢true}
use Rattle.std.proofs.lemmas.Option.{same_Some}
use Rattle.superblock.specs.Newest.{BelongsAt, IsOfSet}
use Rattle.superblock.proofs.counting.counted.Goals.{else-is_of_set-via-then-is_of_set+else-belongs_at, else-is_of_set-via-else-is_of_set}
use Rattle.superblock.proofs.counting.counted.Goals as goal

pub returns-in_err-superblock-clause-some : goal.returns-in_err-superblock-clause-some
returns-in_err-superblock-clause-some c = rw c.from_residual.ensures tt

pub returns-in_err-superblock-clause-none : goal.returns-in_err-superblock-clause-none
returns-in_err-superblock-clause-none c = λ _ superblock counts.
    grind (arith, sym (c.decode.ensures.exact superblock counts.spelled) ∙ c.in_err-superblock.was)

pub returns-then-belongs_at-clause-some : goal.returns-then-belongs_at-clause-some
returns-then-belongs_at-clause-some c = record {
  spelled = c.in_ok-superblock.ensures.some;
  of_set = c.is_of_set.ensures.0 c.if-is_of_set.true;
  belongs = c.belongs_at.ensures.0 c.if-belongs_at.true;
}

pub returns-then-belongs_at-clause-none : goal.returns-then-belongs_at-clause-none
returns-then-belongs_at-clause-none c = λ some. absurd (false≢true (sym some))

pub returns-else-is_of_set-clause-none : goal.returns-else-is_of_set-clause-none
returns-else-is_of_set-clause-none c = λ _ superblock counts.
    let found = c.in_ok-superblock.superblock in
    let same : superblock ≡ found = same_Some superblock found (sym (c.decode.ensures.exact superblock counts.spelled) ∙ c.in_ok-superblock.was) in
    elim c.else-is_of_set.branch [
      | else-is_of_set-via-then-is_of_set+else-belongs_at w ↦
          false≢true (sym w.if-belongs_at.false ∙ w.belongs_at.ensures.1 (subst (BelongsAt c.args.slot c.args.place) same counts.belongs))
      | else-is_of_set-via-else-is_of_set w ↦
          false≢true (sym w.if-is_of_set.false ∙ c.is_of_set.ensures.1 (subst (IsOfSet c.args.id.now c.args.devices) same counts.of_set))
    ]
