-- Tables that come one after another.
use Rattle.std.proofs.Common.{ℕ, ◌≤◌, List, refl, sym, ◌∙◌, subst, arith}
use Rattle.superblock.specs.declared.table.Table.{Table}
use Rattle.superblock.specs.declared.state.State.{State}
use Rattle.superblock.specs.declared.table.Superblock.{Superblock}
use Rattle.superblock.specs.Counted.{Content, Counts, IsStale}
use Rattle.superblock.specs.NextTables.{IsNext, IsNotOlder, NotOlderInTurn}
use Rattle.superblock.specs.Tables.{incarnation_at}

pub not_older_same : (table : Table) → IsNotOlder table table
not_older_same table = record { same_id = refl; same_geometry = refl; generation = omega arith; incarnation = λ slot. omega arith }

pub not_older_both : NotOlderInTurn
not_older_both first second third old new = record {
  same_id = new.same_id ∙ old.same_id;
  same_geometry = new.same_geometry ∙ old.same_geometry;
  generation = omega (arith, old.generation, new.generation);
  incarnation = λ slot. omega (arith, old.incarnation slot, new.incarnation slot);
}

-- the next table, whose incarnations are none lower, is not older
pub next_not_older : (old : Table) (states : List State) (incarnations : List ℕ) (position : ℕ) (new : Table) → IsNext old states incarnations position new
    → ((slot : ℕ) → incarnation_at old.incarnations slot ≤ incarnation_at incarnations slot) → IsNotOlder old new
next_not_older old states incarnations position new next grow = record {
  same_id = next.same_id;
  same_geometry = next.same_geometry;
  generation = omega (arith, next.generation);
  incarnation = λ slot. subst (λ (l : List ℕ). incarnation_at old.incarnations slot ≤ incarnation_at l slot) (sym next.has_incarnations) (grow slot);
}

-- what is stale under a table is stale under each later one
pub stale_goes_on : (devices : ℕ) (old new : Table) (slot : ℕ) (content : Content) → IsNotOlder old new → IsStale devices old slot content
    → IsStale devices new slot content
stale_goes_on devices old new slot content later stale = record {
  older = λ place superblock counts. omega (arith, later.generation, stale.older place superblock (counted place superblock counts));
  earlier = λ place superblock counts. omega (arith, later.incarnation slot, stale.earlier place superblock (counted place superblock counts));
}
  where
    counted : (place : ℕ) (superblock : Superblock) → Counts new.id devices slot content place superblock → Counts old.id devices slot content place superblock
    counted = λ place superblock counts. subst (λ (i : List ℕ). Counts i devices slot content place superblock) later.same_id counts
