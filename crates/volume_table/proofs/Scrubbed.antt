-- A scrub of a complete set that is settled finds no row that is not sound.
use Rattle.std.proofs.Common.{◌≡◌, ℕ, zero, suc, ◌+◌, ◌<◌, ◌*◌, Bool, true, List, [], ◌∷◌, length, map, take, Option, Some, None, refl, sym, ◌∙◌, ap, subst}
use Rattle.std.proofs.Common.{arith, cond, ◌&&◌}
use Rattle.std.specs.Prelude.{not, slice_get}
use Rattle.std.specs.List.{list_all, range_with_len}
use Rattle.std.proofs.lemmas.List.Elements.{Contains-append_left, Contains-push}
use Rattle.sector_model.specs.History.{Slots, disk_of, sector_of}
use Rattle.layout_map.specs.declared.geometry.Geometry.{Geometry}
use Rattle.parity.specs.Xor.{IsSoundRow}
use Rattle.superblock.specs.declared.state.State.{State}
use Rattle.superblock.specs.declared.state.State.TheVariants.{InSync, Missing}
use Rattle.superblock.specs.declared.table.Table.{Table}
use Rattle.superblock.specs.Tables.{state_at}
use Rattle.superblock.specs.NextTables.{IsComplete, slots_of}
use Rattle.superblock.specs.States.{is_complete, is_in_sync}
use Rattle.degraded.specs.RowValue.{AreSound, row_values, value}
use Rattle.degraded.proofs.Others.{map-range}
use Rattle.array_io.specs.Believed.Holds.{row_count}
use Rattle.array_io.specs.Believed.Settled.{rows_by}
use Rattle.array_io.proofs.Reading.Scanning.{own_value}
use Rattle.scrub.specs.Scrubbing.{AreUnsound, row_in, rows_in_part}
use Rattle.sector_model.specs.declared.refusal.Refusal.{Refusal}
use Rattle.sector_model.specs.declared.refusal.Refusal.TheVariants.{Incomplete}
use Rattle.volume_table.specs.VolumeStep.{OnSet, Reply, Scrub, ScrubRows, Scrubbed, or_refused}
use Rattle.volume_table.specs.SetReplies.{AnswersSet, Devices, SetState, rows_within, set_after, set_or_same, set_refusal, with_faults}
use Rattle.volume_table.specs.StoreCalls.{set_of}
use Rattle.layout_map.specs.declared.sizes.TheConstants.{FIRST_ROW}

-- of a complete set the values are the members' own sectors
own_row : (table : Table) (image : Slots) → IsComplete table → (row : ℕ) → row_values (rows_by table image) row ≡ row_in table image row
own_row table image complete row = map-range (λ member. value (rows_by table image) row member) (λ member. sector_of (disk_of (image member)) (FIRST_ROW + row))
    0 table.geometry.members
    (λ member below. own_value table image complete row member (omega (arith, below)))

pub sound_row : (table : Table) (image : Slots) → IsComplete table → AreSound (rows_by table image) (row_count table) → (row : ℕ) → row < row_count table
    → IsSoundRow (row_in table image row)
sound_row table image complete sound row below = subst IsSoundRow (own_row table image complete row) (sound row below)

-- none is unsound
pub none_unsound : (table other : Table) (image : Slots) (rows : List ℕ) → other.geometry ≡ table.geometry → IsComplete table
    → AreSound (rows_by table image) (row_count table)
    → AreUnsound other image rows → rows ≡ []
none_unsound table other image [] same complete sound are = refl
none_unsound table other image (row ∷ rows) same complete sound are =
    let bad = are.unsound row (Contains-append_left (row ∷ []) rows row (Contains-push [] row)) in
    absurd (bad.1 (subst (λ (g : Geometry). IsSoundRow (map (λ member. sector_of (disk_of (image member)) (FIRST_ROW + row)) (range_with_len 0 g.members)))
    (sym same)
    (sound_row table image complete sound row (subst (λ (g : Geometry). row < g.stripes * g.chunk) same bad.0))))

-- the states of a complete set are complete
all_in_sync : (n : ℕ) (states : List State) → ((slot : ℕ) → slot < n → state_at states slot ≡ InSync) → list_all is_in_sync (take n states) ≡ true
all_in_sync zero states each = refl
all_in_sync (suc n) [] each = let never : Missing ≡ InSync = each 0 (omega arith) in cc
all_in_sync (suc n) (state ∷ states) each =
    ap (λ (s : State). is_in_sync s && list_all is_in_sync (take n states)) (each 0 (omega arith))
    ∙ all_in_sync n states (λ slot below. each (suc slot) (omega (arith, below)))

pub complete_states : (table : Table) → IsComplete table → is_complete (set_of table).states ≡ true
complete_states table complete = all_in_sync (slots_of table) table.states complete.in_sync

same_set : (refusal : Option Refusal) (set : SetState) → set_or_same refusal set set ≡ set
same_set None set = refl
same_set (Some refusal) set = refl

-- where the set is complete at the return, a scrub was answered, whatever it told
scrubbed : (devices : Devices) (before left : SetState) (reply told : Reply) → reply ≡ or_refused (set_refusal devices Scrub before) told
    → left ≡ set_after devices (OnSet Scrub) before → is_complete left.states ≡ true → reply ≡ told
scrubbed devices before left reply told replied leaves complete =
    replied ∙ ap (λ (b : Bool). or_refused (cond (not b) (Some Incomplete) None) told) whole
  where
    whole : is_complete (with_faults devices.faults before.states) ≡ true
    whole = sym (ap (λ (set : SetState). is_complete (with_faults devices.faults set.states)) (same_set (set_refusal devices Scrub before) before))
        ∙ sym (ap (λ (set : SetState). is_complete set.states) leaves) ∙ complete

-- A scrub of a set that is then complete and sound finds nothing in all of its rows.
pub scrub_finds_none : (old new : Table) (image : Slots) (devices : Devices) (reply : Reply) → new.geometry ≡ old.geometry → devices.rows ≡ row_count old
    → AnswersSet devices Scrub (set_of old) reply (set_of new) → AreUnsound old image devices.unsound
    → IsComplete new → AreSound (rows_by new image) (row_count new) → reply ≡ Scrubbed (row_count new) 0 None
scrub_finds_none old new image devices reply same all answers are complete sound =
    scrubbed devices (set_of old) (set_of new) reply (Scrubbed devices.rows (length devices.unsound) (slice_get devices.unsound 0)) answers.replied
    answers.leaves (complete_states new complete)
    ∙ ap (λ (rows : List ℕ). Scrubbed devices.rows (length rows) (slice_get rows 0)) (none_unsound new old image devices.unsound (sym same) complete sound are)
    ∙ ap (λ (count : ℕ). Scrubbed count 0 None) (all ∙ ap (λ (g : Geometry). g.stripes * g.chunk) (sym same))

-- Nor does a scrub of a part of it in that part.
pub part_finds_none : (first count : ℕ) (old new : Table) (image : Slots) (devices : Devices) (reply : Reply) → new.geometry ≡ old.geometry
    → devices.rows ≡ row_count old
    → AnswersSet devices (ScrubRows first count) (set_of old) reply (set_of new) → AreUnsound old image devices.unsound
    → IsComplete new → AreSound (rows_by new image) (row_count new) → reply ≡ Scrubbed (rows_in_part (row_count new) first count) 0 None
part_finds_none first count old new image devices reply same all answers are complete sound =
    scrubbed devices (set_of old) (set_of new) reply (told devices.unsound) answers.replied answers.leaves (complete_states new complete)
    ∙ ap told (none_unsound new old image devices.unsound (sym same) complete sound are)
    ∙ ap (λ (rows : ℕ). Scrubbed (rows_in_part rows first count) 0 None) (all ∙ ap (λ (g : Geometry). g.stripes * g.chunk) (sym same))
  where
    told : List ℕ → Reply
    told rows = Scrubbed (rows_in_part devices.rows first count) (length (rows_within first count rows)) (slice_get (rows_within first count rows) 0)
