-- Which devices of a slot are stale.
use Rattle.std.proofs.Common.{inl, inr, ℕ, List, [], ◌∷◌, ◌++◌}
use Rattle.std.specs.Prelude.{Some}
use Rattle.sector_model.specs.History.{Bytes}
use Rattle.superblock.specs.declared.table.Table.{Table}
use Rattle.superblock.specs.Counted.{IsStale}
use Rattle.array_io.specs.Believed.Holds.{AllButOneStale, AllStale}

-- one device of a list, and the others of it
stale_apart : (devices : ℕ) (table : Table) (slot : ℕ) (before : List (List Bytes)) (disk : List Bytes) (after : List (List Bytes))
    → AllStale devices table slot (before ++ disk ∷ after) → IsStale devices table slot (Some disk) × AllStale devices table slot (before ++ after)
stale_apart devices table slot [] disk after all = (all.0, all.1)
stale_apart devices table slot (first ∷ before) disk after all =
    let rest = stale_apart devices table slot before disk after all.1 in (rest.0, (all.0, rest.1))

-- one device brought to the front of a list, after another one
past_first : (devices : ℕ) (table : Table) (slot : ℕ) (first disk : List Bytes) (rest : List (List Bytes)) → IsStale devices table slot (Some first)
    → AllButOneStale devices table slot (disk ∷ rest) → AllButOneStale devices table slot (disk ∷ first ∷ rest)
past_first devices table slot first disk rest stale (inl all) = inl (stale, all)
past_first devices table slot first disk rest stale (inr (disk_stale, others)) = inr (disk_stale, inr (stale, others))

-- one device brought to the front of a list
pub one_to_front : (devices : ℕ) (table : Table) (slot : ℕ) (before : List (List Bytes)) (disk : List Bytes) (after : List (List Bytes))
    → AllButOneStale devices table slot (before ++ disk ∷ after) → AllButOneStale devices table slot (disk ∷ before ++ after)
one_to_front devices table slot [] disk after one = one
one_to_front devices table slot (first ∷ before) disk after (inl all) =
    let rest = stale_apart devices table slot before disk after all in inr (rest.0, inl rest.1)
one_to_front devices table slot (first ∷ before) disk after (inr (stale, one)) =
    past_first devices table slot first disk (before ++ after) stale (one_to_front devices table slot before disk after one)
