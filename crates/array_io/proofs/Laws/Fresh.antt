-- A set that was just made holds for the list of zeros.
use Rattle.std.proofs.Common.{◌≡◌, ◌≢◌, ◌⊎◌, inl, inr, ℕ, zero, suc, ◌+◌, ◌%◌, ◌<◌, ◌≤◌, false, List, [], ◌∷◌, ◌++◌, length, map, refl, subst, sym, ap, ◌∙◌}
use Rattle.std.proofs.Common.{arith}
use Rattle.std.proofs.lemmas.Bool.{cases_eq, cases_lt}
use Rattle.std.proofs.lemmas.List.Elements.{Contains-push, Contains-push_cases}
use Rattle.std.specs.Prelude.{Option, Some, None, Contains, option_to_list}
use Rattle.std.specs.List.{range_with_len}
use Rattle.sector_model.specs.History.{Bytes, Slots, disk_of, sector_of}
use Rattle.layout_map.specs.declared.sizes.TheConstants.{HALVES, SUPERBLOCK_PLACES}
use Rattle.layout_map.specs.declared.geometry.Geometry.{Geometry}
use Rattle.parity.specs.Xor.{xor_of, xor_of_all, zero_sector}
use Rattle.parity.proofs.Laws.{xor_of-self}
use Rattle.superblock.specs.declared.state.State.{State}
use Rattle.superblock.specs.declared.state.State.TheVariants.{Missing, InSync, Rebuilding}
use Rattle.superblock.specs.declared.table.Table.{Table}
use Rattle.superblock.specs.declared.table.Superblock.{Superblock}
use Rattle.superblock.specs.Tables.{incarnation_at}
use Rattle.superblock.specs.Spelling.{superblock_sector}
use Rattle.superblock.specs.Counted.{Content, Counts, IsChosen, IsLive}
use Rattle.stripe_journal.specs.declared.seal.Seal.{Seal}
use Rattle.stripe_journal.specs.LastEntry.{Entry, IsGreatest, IsLastEntry, IsLastSealed, sector_of_last}
use Rattle.stripe_journal.specs.LastEntry as journals
use Rattle.superblock.specs.Cases.{with_slot}
use Rattle.superblock.specs.Publishing.{StandsAt}
use Rattle.superblock.proofs.LaterTables.{not_older_same}
use Rattle.array_io.specs.Believed.Holds.{AreInStep, AreRowsBy, IsLiveJournal, row_count}
use Rattle.array_io.specs.Laws.Core.{AreJournalsInStep, Core, HasRows, IsKnown, IsLiveBut}
use Rattle.array_io.specs.Laws.Law.{HoldsFromCore}
use Rattle.array_io.specs.Believed.Fresh.{IsFresh, zeros_of}
use Rattle.array_io.specs.Laws.RunLaw.{FreshSetHolds}
use Rattle.degraded.specs.RowValue.{Rows, AreSound, logical_list, logical_value, value}
use Rattle.degraded.proofs.Others.{map-range}
use Rattle.degraded.proofs.Values.{logical_list-same, value-entry, value-own}
use Rattle.array_io.proofs.Images.Put.{put_elsewhere, put_there}
use Rattle.array_io.proofs.Images.Spellings.{Spellings}

halves : (n : ℕ) → (n % 2 ≡ 0) ⊎ (n % 2 ≡ 1)
halves n = elim (cases_eq (n % 2) 0) [ inl even ↦ inl even | inr odd ↦ inr (omega (arith, odd)) ]

-- what counts in a set that was just made is its table, in one of its slots
record IsOwnTable (table : Table) (slot : ℕ) (superblock : Superblock) : Type 0 where
  pub of_set : slot < table.geometry.members + 2
  pub is_table : superblock.table ≡ table

by_place : Spellings → (table : Table) (slot : ℕ) (content : Content) (place : ℕ) (superblock : Superblock)
    → sector_of (disk_of content) 0 ≡ zero_sector → StandsAt table slot (sector_of (disk_of content) 1)
    → sector_of (disk_of content) place ≡ superblock_sector superblock → (place ≡ 0) ⊎ (place ≡ 1) → superblock.table ≡ table
by_place spellings table slot content place superblock cleared stands spelled (inl is) =
    absurd (spellings.zero_no_superblock superblock (sym cleared ∙ ap (λ (p : ℕ). sector_of (disk_of content) p) (sym is) ∙ spelled))
by_place spellings table slot content place superblock cleared stands spelled (inr is) =
    ap (λ (s : Superblock). s.table)
    (spellings.one_superblock superblock stands.superblock (sym spelled ∙ ap (λ (p : ℕ). sector_of (disk_of content) p) is ∙ stands.spelled))
    ∙ stands.carries

counted_is_own : Spellings → (devices : ℕ) (table : Table) (image : Slots) → IsFresh devices table image → (slot place : ℕ) (superblock : Superblock)
    → Counts table.id devices slot (image slot) place superblock → IsOwnTable table slot superblock
counted_is_own spellings devices table image fresh slot place superblock counts = elim (cases_lt slot (table.geometry.members + 2)) [
  | inl of_set ↦ record {
    of_set = of_set;
    is_table = by_place spellings table slot (image slot) place superblock (fresh.cleared_places slot of_set) (fresh.superblocks slot of_set) counts.stands
        (subst (λ (p : ℕ). (p ≡ 0) ⊎ (p ≡ 1)) counts.own_place (halves superblock.table.generation));
  }
  | inr beyond ↦ absurd (fresh.alone slot place superblock beyond counts)
]

-- a slot of the set has the table's superblock in place 1
has_own : (devices : ℕ) (table : Table) (image : Slots) (fresh : IsFresh devices table image) (slot : ℕ) (of_set : slot < table.geometry.members + 2)
    → Counts table.id devices slot (image slot) 1 (fresh.superblocks slot of_set).superblock
has_own devices table image fresh slot of_set =
    let stands = fresh.superblocks slot of_set in
    record {
      stands = stands.spelled;
      of_set = ap (λ (t : Table). t.id) stands.carries;
      own_place = ap (λ (t : Table). t.generation % SUPERBLOCK_PLACES) stands.carries ∙ ap (λ (n : ℕ). n % SUPERBLOCK_PLACES) fresh.first_table;
      own_slot = stands.own_slot;
      has_slots = subst (λ (t : Table). t.geometry.members + 2 ≤ devices) (sym stands.carries) fresh.has_slots;
    }

as_new : (a b : Table) → a ≡ b → a.generation ≤ b.generation
as_new a b same = subst (λ (t : Table). t.generation ≤ b.generation) (sym same) (omega arith)

-- the table is chosen by the superblock of a slot before which none counts
chosen_at : (devices : ℕ) (table : Table) (image : Slots) (slot : ℕ) (superblock : Superblock) → superblock.table ≡ table
    → Counts table.id devices slot (image slot) 1 superblock
    → ((other at : ℕ) (s : Superblock) → Counts table.id devices other (image other) at s → (s.table ≡ table) × (slot ≤ other))
    → IsChosen table.id devices image table
chosen_at devices table image slot superblock carries counts others = record {
  slot = slot;
  place = 1;
  best = superblock;
  counted = counts;
  carried = carries;
  greatest = λ other at s counted. as_new s.table table (others other at s counted).0;
  first = λ other at s counted same. (others other at s counted).1;
}

pub fresh_chosen : Spellings → (devices : ℕ) (table : Table) (image : Slots) → IsFresh devices table image → IsChosen table.id devices image table
fresh_chosen spellings devices table image fresh =
    let of_set : 0 < table.geometry.members + 2 = omega arith in
    chosen_at devices table image 0 (fresh.superblocks 0 of_set).superblock (fresh.superblocks 0 of_set).carries (has_own devices table image fresh 0 of_set)
    (λ other at s counted. ((counted_is_own spellings devices table image fresh other at s counted).is_table, omega arith))

-- nothing counts where there is no device
nothing_counts : Spellings → (id : List ℕ) (devices slot place : ℕ) (superblock : Superblock) → ¬ Counts id devices slot None place superblock
nothing_counts spellings id devices slot place superblock counts = omega (arith, ap length counts.stands, spellings.superblock_long superblock)

-- what counts without one slot counts in another, and did before
pub record CountsElsewhere (devices : ℕ) (table : Table) (image : Slots) (out other place : ℕ) (superblock : Superblock) : Type 0 where
  pub apart : other ≢ out
  pub counts : Counts table.id devices other (image other) place superblock

pub counts_elsewhere : Spellings → (devices : ℕ) (table : Table) (image : Slots) (out other place : ℕ) (superblock : Superblock)
    → Counts table.id devices other (with_slot image out None other) place superblock → CountsElsewhere devices table image out other place superblock
counts_elsewhere spellings devices table image out other place superblock counts = elim (cases_eq other out) [
  | inl is ↦ absurd (nothing_counts spellings table.id devices other place superblock
      (subst (λ (c : Content). Counts table.id devices other c place superblock)
      (ap (λ (k : ℕ). with_slot image out None k) is ∙ put_there image out None) counts))
  | inr apart ↦ record {
    apart = apart;
    counts = subst (λ (c : Content). Counts table.id devices other c place superblock) (put_elsewhere image out None other apart) counts;
  }
]

-- the lowest slot but one
abbrev pub lowest_but : ℕ → ℕ
lowest_but zero = 1
lowest_but (suc slot) = 0

pub lowest_apart : (out : ℕ) → lowest_but out ≢ out
lowest_apart zero is = omega (arith, is)
lowest_apart (suc out) is = omega (arith, is)

pub lowest_least : (out other : ℕ) → other ≢ out → lowest_but out ≤ other
lowest_least zero other apart = omega (arith, apart)
lowest_least (suc out) other apart = omega arith

pub lowest_of_set : (out members : ℕ) → lowest_but out < members + 2
lowest_of_set zero members = omega arith
lowest_of_set (suc out) members = omega arith

pub fresh_chosen_without : Spellings → (devices : ℕ) (table : Table) (image : Slots) → IsFresh devices table image → (out : ℕ)
    → IsChosen table.id devices (with_slot image out None) table
fresh_chosen_without spellings devices table image fresh out =
    let slot = lowest_but out in
    let of_set = lowest_of_set out table.geometry.members in
    chosen_at devices table (with_slot image out None) slot (fresh.superblocks slot of_set).superblock (fresh.superblocks slot of_set).carries
    (subst (λ (c : Content). Counts table.id devices slot c 1 (fresh.superblocks slot of_set).superblock)
    (sym (put_elsewhere image out None slot (lowest_apart out))) (has_own devices table image fresh slot of_set))
    (λ other at s counted.
    let elsewhere = counts_elsewhere spellings devices table image out other at s counted in
    ((counted_is_own spellings devices table image fresh other at s elsewhere.counts).is_table, lowest_least out other elsewhere.apart))

fresh_known : Spellings → (devices : ℕ) (table : Table) (image : Slots) → IsFresh devices table image → (slot : ℕ) → IsKnown devices table slot (image slot)
fresh_known spellings devices table image fresh slot = record {
  no_newer = λ place s counts. as_new s.table table (counted_is_own spellings devices table image fresh slot place s counts).is_table;
  as_new = λ place s counts same. (counted_is_own spellings devices table image fresh slot place s counts).is_table;
  no_higher = λ place s counts. subst (λ (t : Table). incarnation_at t.incarnations slot ≤ incarnation_at table.incarnations slot)
      (sym (counted_is_own spellings devices table image fresh slot place s counts).is_table) (omega arith);
}

state_number : State → ℕ
state_number Missing = 0
state_number InSync = 1
state_number Rebuilding = 2

pub in_sync_not_missing : InSync ≢ Missing
unfolding state_number
in_sync_not_missing is = omega (arith, ap state_number is)

pub in_sync_not_rebuilding : InSync ≢ Rebuilding
unfolding state_number
in_sync_not_rebuilding is = omega (arith, ap state_number is)

pub fresh_live : Spellings → (devices : ℕ) (table : Table) (image : Slots) → IsFresh devices table image → (slot : ℕ) → slot < table.geometry.members + 2
    → IsLive devices table slot (image slot)
fresh_live spellings devices table image fresh slot of_set =
    let stands = fresh.superblocks slot of_set in
    record {
      long_enough = fresh.long_enough slot of_set;
      not_missing = λ is. in_sync_not_missing (sym (fresh.in_sync slot of_set) ∙ is);
      incarnation = record {
        place = 1;
        newest = stands.superblock;
        counted = has_own devices table image fresh slot of_set;
        greatest = λ at s counts. as_new s.table stands.superblock.table ((counted_is_own spellings devices table image fresh slot at s counts).is_table
            ∙ sym stands.carries);
        own = ap (λ (t : Table). incarnation_at t.incarnations slot) stands.carries;
      };
    }

-- no seal counts on a journal
pub no_seal : Spellings → (devices : ℕ) (table : Table) (image : Slots) → IsFresh devices table image → (journal place : ℕ) (seal : Seal)
    → IsLiveJournal devices table image journal → ¬ journals.Counts table.id table.geometry (image journal) place seal
no_seal spellings devices table image fresh journal place seal live counts =
    let below : place < HALVES = omega (arith, counts.belongs.own_place) in
    spellings.zero_no_seal seal (sym (fresh.cleared_seals journal place live.beyond_members live.of_set below) ∙ counts.stands)

-- the rows come from the members' own sectors alone
pub record AreOwn (table : Table) (image : Slots) (rows : Rows) : Type 0 where
  pub width : rows.members ≡ table.geometry.members
  pub zero_values : (row member : ℕ) → row < row_count table → member < table.geometry.members → value rows row member ≡ zero_sector

no_entry : Spellings → (devices : ℕ) (table : Table) (image : Slots) → IsFresh devices table image → (among : ℕ → Type 0)
    → ((journal : ℕ) → among journal → IsLiveJournal devices table image journal)
    → (last : Option Entry) → IsLastEntry table.id table.geometry among image last → (row member : ℕ)
    → sector_of_last table.geometry.members image last row member ≡ None
no_entry spellings devices table image fresh among live None is row member = refl
no_entry spellings devices table image fresh among live (Some entry) is row member =
    absurd (no_seal spellings devices table image fresh entry.journal is.sealed.place entry.seal (live entry.journal is.on_live) is.sealed.counted)

fresh_rows : Spellings → (devices : ℕ) (table : Table) (image : Slots) → IsFresh devices table image → (among : ℕ → Type 0)
    → ((journal : ℕ) → among journal → IsLiveJournal devices table image journal) → (rows : Rows)
    → AreRowsBy devices table among image rows → AreOwn table image rows
fresh_rows spellings devices table image fresh among live rows are = record {
  width = are.width;
  zero_values = λ row member below within.
      let of_set : member < table.geometry.members + 2 = omega (arith, within) in
      value-own rows row member
      (are.in_entry row member ∙ no_entry spellings devices table image fresh among live are.last are.is_last row member)
      ((are.trust row member within).1 record {
        live = fresh_live spellings devices table image fresh member of_set;
        rebuilt = λ is. absurd (in_sync_not_rebuilding (sym (fresh.in_sync member of_set) ∙ is));
      })
      ∙ are.own_sector row member within ∙ fresh.cleared_rows member row within below;
}

xor_of_zeros : (a n : ℕ) → xor_of_all (map (λ (k : ℕ). zero_sector) (range_with_len a n)) ≡ zero_sector
xor_of_zeros a zero = refl
xor_of_zeros a (suc n) = ap (λ (rest : Bytes). xor_of zero_sector rest) (xor_of_zeros (a + 1) n) ∙ xor_of-self zero_sector

pub zeros_sound : (table : Table) (image : Slots) (rows : Rows) → AreOwn table image rows → AreSound rows (row_count table)
zeros_sound table image rows own row below =
    ap xor_of_all (map-range (λ member. value rows row member) (λ member. zero_sector) 0 rows.members
    (λ member within. own.zero_values row member below (omega (arith, within, own.width))))
    ∙ xor_of_zeros 0 rows.members

-- rows whose values are all zero
abbrev all_zero : ℕ → Rows
all_zero members = record { members = members; entry = λ row member. Some zero_sector; trusted = λ row member. false; own = λ row member. zero_sector }

all_zero_list : (geometry : Geometry) → logical_list geometry (all_zero geometry.members) ≡ zeros_of geometry
unfolding logical_list
all_zero_list geometry = map-range (λ logical. logical_value geometry (all_zero geometry.members) logical) (λ logical. zero_sector) 0 _
    (λ logical within. value-entry (all_zero geometry.members) _ _ zero_sector refl)

pub zeros_listed : (table : Table) (image : Slots) (rows : Rows) → AreOwn table image rows → logical_list table.geometry rows ≡ zeros_of table.geometry
zeros_listed table image rows own =
    logical_list-same table.geometry rows (all_zero table.geometry.members) (λ row member below within.
    own.zero_values row member below within ∙ sym (value-entry (all_zero table.geometry.members) row member zero_sector refl))
    ∙ all_zero_list table.geometry

-- no seal is the last
pub no_last_seal : Spellings → (devices : ℕ) (table : Table) (image : Slots) → IsFresh devices table image → (journal : ℕ) (last : Option Seal)
    → IsLiveJournal devices table image journal → IsLastSealed table.id table.geometry (image journal) last → last ≡ None
no_last_seal spellings devices table image fresh journal None live is = refl
no_last_seal spellings devices table image fresh journal (Some seal) live is =
    absurd (no_seal spellings devices table image fresh journal is.place seal live is.counted)

pub none_in_step : (members : ℕ) (first second : Content) (a b : Option Seal) → a ≡ None → b ≡ None → AreInStep members first second a b
none_in_step members first second a b no_a no_b =
    subst (λ (s : Option Seal). AreInStep members first second s b) (sym no_a)
    (subst (λ (s : Option Seal). AreInStep members first second None s) (sym no_b) tt)

has_rows : Spellings → (devices : ℕ) (table : Table) (image : Slots) → IsFresh devices table image → (among : ℕ → Type 0)
    → ((journal : ℕ) → among journal → IsLiveJournal devices table image journal) → HasRows devices table (zeros_of table.geometry ∷ []) among image
has_rows spellings devices table image fresh among live = record {
  sound = λ rows are. zeros_sound table image rows (fresh_rows spellings devices table image fresh among live rows are);
  listed = λ rows are. subst (λ (L : List Bytes). Contains (zeros_of table.geometry ∷ []) L)
      (sym (zeros_listed table image rows (fresh_rows spellings devices table image fresh among live rows are)))
      (Contains-push [] (zeros_of table.geometry));
}

fresh_in_step : Spellings → (devices : ℕ) (table : Table) (image : Slots) → IsFresh devices table image → AreJournalsInStep devices table image
fresh_in_step spellings devices table image fresh first second a b live_first live_second last_first last_second =
    none_in_step table.geometry.members (image first) (image second) a b
    (no_last_seal spellings devices table image fresh first a live_first last_first)
    (no_last_seal spellings devices table image fresh second b live_second last_second)

-- a device of a set that was just made is live where its slot is one of the set's
live_or_not : Spellings → (devices : ℕ) (table : Table) (image : Slots) → IsFresh devices table image → (slot : ℕ)
    → IsLive devices table slot (image slot) ⊎ ¬ IsLive devices table slot (image slot)
live_or_not spellings devices table image fresh slot = elim (cases_lt slot (table.geometry.members + 2)) [
  | inl of_set ↦ inl (fresh_live spellings devices table image fresh slot of_set)
  | inr beyond ↦ inr (λ live. live.not_missing (table.allowed.missing_beyond slot beyond))
]

pub no_device : (disk : List Bytes) → Contains [] disk → ⊥
no_device disk (k, below, is) = omega (arith, below)

device_there : (content : Content) (disk : List Bytes) → Contains (option_to_list content ++ []) disk → content ≡ Some disk
device_there None disk among = absurd (no_device disk among)
device_there (Some there) disk among = elim (Contains-push_cases [] there disk among) [
  | inl none ↦ absurd (no_device disk none)
  | inr is ↦ ap (λ (d : List Bytes). Some d) is
]

fresh_core : Spellings → (devices : ℕ) (table : Table) (image : Slots) → IsFresh devices table image
    → Core devices table record { image = image; lost = None } (zeros_of table.geometry ∷ [])
fresh_core spellings devices table image fresh = record {
  lost_in_set = tt;
  chosen = fresh_chosen spellings devices table image fresh;
  chosen_without = λ slot may. fresh_chosen_without spellings devices table image fresh slot;
  known = λ slot. fresh_known spellings devices table image fresh slot;
  known_away = λ slot disk may away. absurd (no_device disk away);
  in_full = λ slot of_set kept. record { live = fresh_live spellings devices table image fresh slot of_set; in_sync = fresh.in_sync slot of_set };
  whole = fresh.whole;
  rows = has_rows spellings devices table image fresh (IsLiveJournal devices table image) (λ journal live. live);
  rows_without = λ slot may. has_rows spellings devices table image fresh (IsLiveBut devices table image slot) (λ journal live. live.0);
  in_step = fresh_in_step spellings devices table image fresh;
  rows_away = λ slot disk may away live. absurd (no_device disk away);
  in_step_away = λ slot disk may away live. absurd (no_device disk away);
  decided = λ slot disk may among. subst (λ (c : Content). IsLive devices table slot c ⊎ ¬ IsLive devices table slot c)
      (device_there (image slot) disk among) (live_or_not spellings devices table image fresh slot);
  one_counts = tt;
}

pub fresh_set_holds : Spellings → HoldsFromCore → FreshSetHolds
fresh_set_holds spellings from_core devices table image fresh =
    from_core table devices table record { image = image; lost = None } (zeros_of table.geometry ∷ []) (not_older_same table)
    (fresh_core spellings devices table image fresh)
