-- No name so far is greater.
use Rattle.std.proofs.Common.{◌≡◌, ℕ, ◌<◌, get_or}
use Rattle.std.specs.declared.cmp.Ordering.TheVariants.{Less}
use Rattle.volume_table.specs.Names.{name_order}
use Rattle.volume_table.specs.declared.listed.Listed.{Listed}
use Rattle.volume_table.proofs.store.listing.place_of.Given as goal

abbrev pub invariant-loop-place : goal.invariant-loop-place
invariant-loop-place l = (k : ℕ) (blank : Listed) → k < l.place → name_order l.name (get_or l.volumes k blank).name.bytes.items ≡ Less → ⊥
