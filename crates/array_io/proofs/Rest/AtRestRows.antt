-- The rows of a set at rest are its members' own sectors, by the table alone: its last entry says the same.
use Rattle.std.proofs.Common.{◌≡◌, ◌≢◌, ◌↔◌, ℕ, ◌+◌, ◌<◌, Bool, true, false, IsTrue, nat_lt, [], ◌∷◌, Option, Some, None, refl, sym, ◌∙◌, ap, subst, arith}
use Rattle.std.specs.Prelude.{Contains, map, unwrap_or}
use Rattle.std.proofs.lemmas.Bool.{false≢true}
use Rattle.std.proofs.lemmas.Option.{none-some}
use Rattle.std.proofs.lemmas.Bool.Decides.{nat_tests}
use Rattle.std.proofs.lemmas.List.Elements.{Contains-push}
use Rattle.sector_model.specs.History.{Bytes, Slots, disk_of, sector_of}
use Rattle.layout_map.specs.declared.sizes.TheConstants.{FIRST_ROW}
use Rattle.parity.specs.Xor.{xor_of_all, zero_sector}
use Rattle.superblock.specs.declared.state.State.{State}
use Rattle.superblock.specs.declared.state.State.TheVariants.{InSync, Missing, Rebuilding}
use Rattle.superblock.specs.declared.table.Table.{Table}
use Rattle.superblock.specs.Tables.{state_at}
use Rattle.superblock.specs.Cases.{HasWholeSectors}
use Rattle.superblock.specs.Counted.{Content, IsLive}
use Rattle.superblock.specs.NextTables.{slots_of}
use Rattle.stripe_journal.specs.LastEntry.{Entry, IsLastEntry, sector_of_last}
use Rattle.degraded.specs.RowValue.{Rows, AreSound, direct, direct_of, logical_list, others, value}
use Rattle.degraded.proofs.Others.{map-others}
use Rattle.degraded.proofs.Values.{from_others, known, value-agree, value-direct, value-entry, value-neither}
use Rattle.array_io.specs.Laws.Core.{HasRows}
use Rattle.array_io.specs.Steps.EntryAtRest.{HasEntryAtRest}
use Rattle.array_io.specs.Believed.Holds.{AreRowsBy, IsLiveJournal, IsTrusted, row_count}
use Rattle.array_io.specs.Laws.Law.{AreAlike}
use Rattle.array_io.specs.Believed.Settled.{rows_by, trusts}
use Rattle.array_io.proofs.Rest.EntryAtRest.{last_at_rest}
use Rattle.array_io.proofs.Laws.Fresh.{in_sync_not_missing, in_sync_not_rebuilding}
use Rattle.array_io.proofs.Images.Rows.{alike, same_test, sound_alike}
use Rattle.array_io.proofs.Images.Spellings.{Spellings}

-- An image of a set at rest: each slot that the table doesn't call missing is live, and has what reads give; its last entry, whose number
-- is given, says what the members hold; and each sector has 512 bytes.
pub record IsRestImage (devices : ℕ) (table : Table) (number : ℕ) (reads image : Slots) : Type 0 where
  pub live : (slot : ℕ) → slot < slots_of table → state_at table.states slot ≢ Missing → IsLive devices table slot (image slot)
  pub same : (slot : ℕ) → slot < slots_of table → state_at table.states slot ≢ Missing → image slot ≡ reads slot
  pub entry : HasEntryAtRest devices table number image
  pub whole : HasWholeSectors image

-- the table's test of a row says what it has to
pub record TableTrusts (state : State) (row position : ℕ) : Type 0 where
  pub there : state ≢ Missing
  pub rebuilt : state ≡ Rebuilding → row < position

pub trusts_tells : (state : State) (row position : ℕ) → IsTrue (trusts state row position) ↔ TableTrusts state row position
trusts_tells Missing row position = (λ is. absurd (differ is), λ tells. absurd (tells.there refl))
  where
    differ : ¬ (false ≡ true)
    differ e = cc
trusts_tells InSync row position = (λ _. record { there = in_sync_not_missing; rebuilt = λ is. absurd (in_sync_not_rebuilding is) }, λ _. refl)
trusts_tells Rebuilding row position = (
  λ is. record { there = differ; rebuilt = λ _. below row position is },
  λ tells. below_is row position (tells.rebuilt refl),
)
  where
    differ : ¬ (Rebuilding ≡ Missing)
    differ e = cc

    below : (a b : ℕ) → IsTrue (nat_lt a b) → a < b
    below a b is = grind (arith, nat_tests, is)

    below_is : (a b : ℕ) → a < b → IsTrue (nat_lt a b)
    below_is a b less = grind (arith, nat_tests, less)

-- so a member's own sector counts where and only where the table trusts it, where what the table counts on is there
pub table_tells : (devices : ℕ) (table : Table) (image : Slots)
    → ((slot : ℕ) → slot < slots_of table → state_at table.states slot ≢ Missing → IsLive devices table slot (image slot))
    → (row member : ℕ) → member < table.geometry.members
    → IsTrue (trusts (state_at table.states member) row table.position) ↔ IsTrusted devices table image row member
table_tells devices table image there row member within =
    let tells = trusts_tells (state_at table.states member) row table.position in (
      λ is. let says = tells.0 is in record { live = there member (omega (arith, within)) says.there; rebuilt = says.rebuilt },
      λ trusted. tells.1 record { there = trusted.live.not_missing; rebuilt = trusted.rebuilt },
    )

-- whom the table doesn't trust is not in sync
not_trusted : (state : State) (row position : ℕ) → trusts state row position ≡ false → state ≢ InSync
not_trusted state row position out same = false≢true (sym out ∙ ap (λ (s : State). trusts s row position) same)

-- where it doesn't trust a member, it trusts all others
pub trusted_apart : (table : Table) (row member other : ℕ) → member < table.geometry.members → other < table.geometry.members → other ≢ member
    → trusts (state_at table.states member) row table.position ≡ false → trusts (state_at table.states other) row table.position ≡ true
trusted_apart table row member other within below apart out = by_trust (trusts (state_at table.states other) row table.position) refl
  where
    by_trust : (b : Bool) → trusts (state_at table.states other) row table.position ≡ b → trusts (state_at table.states other) row table.position ≡ true
    by_trust true trusted = trusted
    by_trust false out_too = absurd (apart (table.allowed.one_out other member (omega (arith, below)) (omega (arith, within))
        (not_trusted (state_at table.states other) row table.position out_too) (not_trusted (state_at table.states member) row table.position out)))

-- an image with what reads give in each slot that the table doesn't call missing has their values
pub image_values : (table : Table) (reads image : Slots)
    → ((slot : ℕ) → slot < slots_of table → state_at table.states slot ≢ Missing → image slot ≡ reads slot)
    → (row member : ℕ) → member < table.geometry.members → value (rows_by table image) row member ≡ value (rows_by table reads) row member
image_values table reads image same row member within = value-agree row member (rows_by table image) (rows_by table reads) record {
  width = refl;
  entries = λ other below. refl;
  trusts = λ other below. refl;
  owns = λ other below none counts. ap (λ (c : Content). sector_of (disk_of c) (FIRST_ROW + row))
      (same other (omega (arith, below)) ((trusts_tells (state_at table.states other) row table.position).0 counts).there);
} within

module _ (spellings : Spellings) (devices : ℕ) (table : Table) (number : ℕ) (reads image : Slots) (rest : IsRestImage devices table number reads image)
    (among : ℕ → Type 0) (live : (journal : ℕ) → among journal → IsLiveJournal devices table image journal) (rows : Rows)
    (are : AreRowsBy devices table among image rows) where
  own : (row member : ℕ) → member < table.geometry.members → rows.trusted row member ≡ true → (rows_by table reads).own row member ≡ rows.own row member
  own row member within counts =
      ap (λ (c : Content). sector_of (disk_of c) (FIRST_ROW + row))
      (sym (rest.same member (omega (arith, within)) ((are.trust row member within).0 counts).live.not_missing))
      ∙ sym (are.own_sector row member within)

  tests : (row member : ℕ) → member < table.geometry.members → trusts (state_at table.states member) row table.position ≡ rows.trusted row member
  tests row member within = same_test (trusts (state_at table.states member) row table.position) (rows.trusted row member)
      (IsTrusted devices table image row member) (IsTrusted devices table image row member)
      (table_tells devices table image rest.live row member within) (are.trust row member within) (λ t. t) (λ t. t)

  -- a sector of the last entry is the value that the members give
  sector_is_value : (row member : ℕ) (sector : Bytes) → row < row_count table → member < table.geometry.members → rows.entry row member ≡ Some sector
      → sector ≡ value (rows_by table reads) row member
  sector_is_value row member sector below within has = by_last are.last are.is_last (sym (are.in_entry row member) ∙ has)
    where
      by_last : (last : Option Entry) → IsLastEntry table.id table.geometry among image last
          → sector_of_last table.geometry.members image last row member ≡ Some sector
          → sector ≡ value (rows_by table reads) row member
      by_last None none stands = absurd (none-some sector stands)
      by_last (Some entry) latest stands =
          let on_live = live entry.journal latest.on_live in
          rest.entry.bodies entry.journal entry.seal on_live
          (sym (last_at_rest spellings devices table number image rest.entry entry.journal (Some entry.seal) on_live latest.sealed))
          row member sector below within stands
          ∙ image_values table reads image rest.same row member within

  module _ (row : ℕ) (below : row < row_count table) where
    -- what the members give of one that the table trusts
    own_known : (member : ℕ) → trusts (state_at table.states member) row table.position ≡ true
        → direct (rows_by table reads) row member ≡ Some ((rows_by table reads).own row member)
    own_known member trusted = ap (λ (t : Bool). direct_of None t ((rows_by table reads).own row member)) trusted

    -- the rows say the same of it, by the entry or without
    same_known : (member : ℕ) → member < table.geometry.members → trusts (state_at table.states member) row table.position ≡ true
        → direct rows row member ≡ Some ((rows_by table reads).own row member)
    same_known member within trusted = by_entry (rows.entry row member) refl
      where
        counts : rows.trusted row member ≡ true
        counts = sym (tests row member within) ∙ trusted

        of_entry : (entry : Option Bytes) → rows.entry row member ≡ entry
            → direct rows row member ≡ direct_of entry (rows.trusted row member) (rows.own row member)
        of_entry entry is = ap (λ (e : Option Bytes). direct_of e (rows.trusted row member) (rows.own row member)) is

        by_entry : (entry : Option Bytes) → rows.entry row member ≡ entry → direct rows row member ≡ Some ((rows_by table reads).own row member)
        by_entry None none =
            of_entry None none ∙ ap (λ (t : Bool). direct_of None t (rows.own row member)) counts ∙ ap Some (sym (own row member within counts))
        by_entry (Some sector) has =
            of_entry (Some sector) has
            ∙ ap Some (sector_is_value row member sector below within has ∙ value-direct (rows_by table reads) row member _ (own_known member trusted))

    -- of a member without a sector of either kind, the XOR of the others
    same_sum : (member : ℕ) → member < table.geometry.members → trusts (state_at table.states member) row table.position ≡ false
        → from_others (rows_by table reads) row member ≡ from_others rows row member
    same_sum member within out =
        ap xor_of_all (map-others (λ other. known (rows_by table reads) row other) (λ other. known rows row other) member 0 table.geometry.members
        (λ other inside apart.
        let of_set : other < table.geometry.members = omega (arith, inside) in
        let trusted = trusted_apart table row member other within of_set apart out in
        ap (λ (o : Option Bytes). unwrap_or o zero_sector) (own_known other trusted ∙ sym (same_known other of_set trusted))))
        ∙ ap (λ (n : ℕ). xor_of_all (map (λ (other : ℕ). known rows row other) (others n member))) (sym are.width)

    same_value : (member : ℕ) → member < table.geometry.members → value (rows_by table reads) row member ≡ value rows row member
    same_value member within = by_trust (trusts (state_at table.states member) row table.position) refl
      where
        by_entry : (entry : Option Bytes) → rows.entry row member ≡ entry → trusts (state_at table.states member) row table.position ≡ false
            → value (rows_by table reads) row member ≡ value rows row member
        by_entry None none out =
            value-neither (rows_by table reads) row member refl out ∙ same_sum member within out
            ∙ sym (value-neither rows row member none (sym (tests row member within) ∙ out))
        by_entry (Some sector) has out = sym (sector_is_value row member sector below within has) ∙ sym (value-entry rows row member sector has)

        by_trust : (b : Bool) → trusts (state_at table.states member) row table.position ≡ b → value (rows_by table reads) row member ≡ value rows row member
        by_trust true trusted =
            value-direct (rows_by table reads) row member _ (own_known member trusted) ∙ sym (value-direct rows row member _ (same_known member within trusted))
        by_trust false out = by_entry (rows.entry row member) refl out

  -- any rows of an image at rest, by the last entry of some of its live journals, are like them
  pub alike_at_rest : AreAlike table (rows_by table reads) rows
  alike_at_rest = alike table (rows_by table reads) rows (λ row member below within. same_value row below member within)

-- so they are sound, and their logical list is the same
pub has_rows_at_rest : Spellings → (devices : ℕ) (table : Table) (number : ℕ) (reads image : Slots) → IsRestImage devices table number reads image
    → AreSound (rows_by table reads) (row_count table)
    → (among : ℕ → Type 0) → ((journal : ℕ) → among journal → IsLiveJournal devices table image journal)
    → HasRows devices table (logical_list table.geometry (rows_by table reads) ∷ []) among image
has_rows_at_rest spellings devices table number reads image rest sound among live = record {
  sound = λ rows are. sound_alike table (rows_by table reads) rows refl are.width
      (alike_at_rest spellings devices table number reads image rest among live rows are) sound;
  listed = λ rows are. subst (Contains (logical_list table.geometry (rows_by table reads) ∷ []))
      (alike_at_rest spellings devices table number reads image rest among live rows are).lists
      (Contains-push [] (logical_list table.geometry (rows_by table reads)));
}
