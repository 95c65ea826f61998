use Rattle.std.proofs.Common.{◌≡◌, ℕ, ◌*◌, ◌-◌, ◌<◌, ◌≤◌, ◌∙◌, min, List, [], ◌∷◌, Bool, true, not, nat_eq, Option, Some, ap, arith, refl, sym, subst}
use Rattle.std.proofs.lemmas.Bool.{eq-eqb}
use Rattle.std.specs.Cmp.Lexicographic.{pointwise}
use Rattle.layout_map.specs.Placement.{rows_of}
use Rattle.superblock.specs.Spelling.{superblock_sector}
use Rattle.superblock.specs.declared.table.Superblock.{Superblock}
use Rattle.superblock.specs.declared.table.Table.{Table}
use Rattle.set_commands.specs.Progress.{most_rows_of, sectors_of}
use Rattle.set_commands.proofs.progress.progress_bank.ProgressBank.learn.Goals.{then-ne-via-then-ne, then-ne-via-else-ne+then-table-sought}
use Rattle.set_commands.proofs.progress.progress_bank.ProgressBank.learn.Goals as goal

sectors_by : (table : Table) (steps : Option ℕ) (most rows total : ℕ) → most ≡ most_rows_of table.geometry.format steps
    → rows ≡ min (rows_of table.geometry.chunk table.geometry.stripes - table.position) most
    → total ≡ min (table.geometry.members * rows) 18446744073709551615 → total ≡ sectors_of table steps
sectors_by table steps most rows total most_is rows_is total_is =
    total_is ∙ (ap (λ (r : ℕ). min (table.geometry.members * r) 18446744073709551615)
    (rows_is ∙ (ap (λ (m : ℕ). min (rows_of table.geometry.chunk table.geometry.stripes - table.position) m) most_is)))

-- a sector spells one superblock
one_spelled : (from : List ℕ) (result : Option Superblock) (found superblock : Superblock) → ((s : Superblock) → from ≡ superblock_sector s → result ≡ Some s)
    → result ≡ Some found → from ≡ superblock_sector superblock → found ≡ superblock
one_spelled from result found superblock exact is spelled = cc (is, exact superblock spelled)

same_id : (id : List ℕ) → pointwise nat_eq id id ≡ true
same_id [] = refl
same_id (byte ∷ id) = rw (eq-eqb byte byte refl) (same_id id)

not_another : (found sought : List ℕ) (answer : Bool) → found ≡ sought → answer ≡ not (pointwise nat_eq found sought) → answer ≡ true → ⊥
not_another found sought answer same is differ =
    let clash = sym differ ∙ is ∙ ap (λ (id : List ℕ). not (pointwise nat_eq id sought)) same ∙ ap not (same_id sought) in cc

not_newer : (found generation known : ℕ) → found ≡ generation → found ≤ known → known < generation → ⊥
not_newer found generation known same most newer = omega (arith, same, most, newer)

pub returns-then-ne-clause-total : goal.returns-then-ne-clause-total
returns-then-ne-clause-total g c = rw c.in-Some.is (λ superblock spelled same newer.
    let one = one_spelled _ c.decode.result c.in-Some-decode.superblock superblock c.decode.ensures.exact c.in-Some-decode.is spelled in
    elim c.then-ne.branch [
      | then-ne-via-then-ne w ↦ absurd (not_another _ _ c.ne.result (ap (λ (s : Superblock). s.table.id) one ∙ same) c.ne.ensures w.if-ne.true)
      | then-ne-via-else-ne+then-table-sought w ↦ absurd
          (not_newer _ _ _ (ap (λ (s : Superblock). s.table.generation) one) w.if-table-sought.true newer)
    ])

pub returns-clause-total : goal.returns-clause-total
returns-clause-total g c = rw c.in-Some.is (λ superblock spelled same newer.
    subst (λ (s : Superblock). c.calls_of-self.result ≡ sectors_of s.table c.in-Some.sought.steps)
    (one_spelled _ c.decode.result c.in-Some-decode.superblock superblock c.decode.ensures.exact c.in-Some-decode.is spelled)
    (sectors_by c.in-Some-decode.superblock.table c.in-Some.sought.steps _ _ _ c.most_rows-most.ensures c.rows_left.ensures c.calls_of-self.ensures))
