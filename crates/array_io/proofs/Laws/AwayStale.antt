-- What is away is stale once the set is complete again.
use Rattle.std.proofs.Common.{◌≡◌, ◌≢◌, inl, inr, ℕ, ◌<◌, List, ◌++◌, Some, None, sym, ◌∙◌, subst}
use Rattle.std.specs.Prelude.{option_to_list}
use Rattle.sector_model.specs.History.{Bytes, History}
use Rattle.sector_model.specs.Readable.{readable}
use Rattle.superblock.specs.declared.state.State.TheVariants.{Missing}
use Rattle.superblock.specs.declared.table.Table.{Table}
use Rattle.superblock.specs.Tables.{state_at}
use Rattle.superblock.specs.Cases.{Lost}
use Rattle.superblock.specs.Counted.{Content, IsLive}
use Rattle.superblock.specs.NextTables.{IsComplete, slots_of}
use Rattle.array_io.specs.Believed.Holds.{AllButOneStale, AllStale, Holds}
use Rattle.array_io.specs.Laws.RunLaw.{AwayIsStale}
use Rattle.array_io.proofs.Laws.Beginning.{settled_table}
use Rattle.array_io.proofs.Images.Counting.{none_is_out, stale_is_out}
use Rattle.array_io.proofs.Laws.Fresh.{in_sync_not_missing}
use Rattle.array_io.proofs.Images.Spellings.{Spellings}

-- where the device there is live and all of a slot's known devices are stale but one at most, all the others are stale
pub others_stale : Spellings → (devices : ℕ) (table : Table) (slot : ℕ) (content : Content) (away : List (List Bytes)) → IsLive devices table slot content
    → AllButOneStale devices table slot (option_to_list content ++ away) → AllStale devices table slot away
others_stale spellings devices table slot None away live one = absurd (none_is_out spellings devices table slot live)
others_stale spellings devices table slot (Some disk) away live (inl all) = all
others_stale spellings devices table slot (Some disk) away live (inr (stale, one)) = absurd (stale_is_out devices table slot (Some disk) stale live)

pub complete_is_there : (table : Table) → IsComplete table → (slot : ℕ) → slot < slots_of table → state_at table.states slot ≢ Missing
complete_is_there table complete slot of_set is = in_sync_not_missing (sym (complete.in_sync slot of_set) ∙ is)

-- by the array's own table
stale_by_table : Spellings → (base : Table) (devices : ℕ) (table : Table) (h : History) (lost : Lost) (X : List (List Bytes))
    → (holds : Holds base devices record { image = readable h; lost = Some lost } X) → table ≡ holds.table → IsComplete table
    → ((slot : ℕ) → slot < slots_of table → state_at table.states slot ≢ Missing → IsLive devices table slot (readable h slot))
    → AllStale devices table lost.slot lost.away
stale_by_table spellings base devices table h lost X holds is complete live =
    let of_set : lost.slot < slots_of table = subst (λ (t : Table). lost.slot < slots_of t) (sym is) holds.lost_in_set in
    let there = complete_is_there table complete lost.slot of_set in
    others_stale spellings devices table lost.slot (readable h lost.slot) lost.away (live lost.slot of_set there)
    (subst (λ (t : Table). state_at t.states lost.slot ≢ Missing → AllButOneStale devices t lost.slot (option_to_list (readable h lost.slot) ++ lost.away))
    (sym is) holds.one_counts there)

-- the law
pub away_is_stale : Spellings → AwayIsStale
away_is_stale spellings base devices table number h lost V X later settled complete holds =
    stale_by_table spellings base devices table h lost X holds (settled_table base devices table number h None V (Some lost) X later.same_id settled holds)
    complete settled.there
