-- What an image says while the seal of a commit's entry comes onto a journal: what it said, or the list with the sectors written.
use Rattle.std.proofs.Common.{◌≡◌, ◌≢◌, ◌⊎◌, inl, inr, ℕ, ◌+◌, ◌<◌, ◌≤◌, Bool, true, false, List, [], length, Option, Some, None, refl, sym, ◌∙◌, ap, subst}
use Rattle.std.proofs.Common.{arith}
use Rattle.std.specs.Prelude.{Contains, option_and_then, if◌then◌else◌, slice_index_or, unwrap_or}
use Rattle.std.proofs.lemmas.Bool.{cases_eq}
use Rattle.std.proofs.lemmas.Option.{none-some}
use Rattle.sector_model.specs.History.{Bytes, Slots, disk_of, sector_of}
use Rattle.sector_model.specs.Moments.{Contents}
use Rattle.layout_map.specs.declared.sizes.TheConstants.{FIRST_ROW, FIRST_SEAL}
use Rattle.superblock.specs.declared.table.Table.{Table}
use Rattle.superblock.specs.Tables.{state_at}
use Rattle.superblock.specs.Counted.{Content, IsInFull}
use Rattle.superblock.specs.NextTables.{slots_of}
use Rattle.stripe_journal.specs.declared.seal.Seal.{Seal}
use Rattle.stripe_journal.specs.Body.{place_in}
use Rattle.stripe_journal.specs.Forms.{holds, rows_in}
use Rattle.stripe_journal.specs.Seals.{row_at}
use Rattle.stripe_journal.specs.Entries.{body_start}
use Rattle.stripe_journal.specs.LastEntry.{Entry, IsGreatest, IsLastEntry, IsLastSealed, number_of, sector_in, sector_of_last}
use Rattle.stripe_journal.specs.OneEntry.{ACrashLeavesEither, HasThisEntry, IsNextOn}
use Rattle.stripe_journal.proofs.LastOfOne.{greatest_is_one, last_is_one}
use Rattle.stripe_journal.proofs.EntrySectors.{sector_lacking, sector_of_no_row}
use Rattle.stripe_journal.proofs.Places.{row_of_place}
use Rattle.degraded.specs.RowValue.{AreSound, Rows, logical_list, value}
use Rattle.array_io.specs.Believed.ArrayCalls.{written}
use Rattle.array_io.specs.Steps.Bringing.{CountsOn}
use Rattle.array_io.specs.Laws.Core.{AreJournalsInStep, HasRows}
use Rattle.array_io.specs.Steps.Forming.{IsFormed}
use Rattle.array_io.specs.Steps.Putting.{IsBodyLong, LacksSector, held_sector}
use Rattle.array_io.specs.Believed.Holds.{AreInStep, AreRowsOf, IsLiveJournal, row_count}
use Rattle.array_io.proofs.Writes.Written.{IsWrittenFrom}
use Rattle.array_io.proofs.Rest.AtRestRows.{TableTrusts}
use Rattle.array_io.proofs.Commits.EntryCopied.{two_journals}
use Rattle.array_io.proofs.Commits.HeldSectors.{lacks_held, lacks_row, sector_of_held}
use Rattle.array_io.proofs.Commits.EntryPhases.{is_read, journal_counts, journal_read}
use Rattle.array_io.proofs.Commits.EntrySealing.{IsSealedNext, StandsSealed, greatest_there, sealed_or_same}
use Rattle.array_io.proofs.Commits.FormedRows.{TakesEntry, formed_sector, takes_formed}
use Rattle.array_io.proofs.Laws.Fresh.{in_sync_not_rebuilding}
use Rattle.array_io.proofs.Images.SayingTheSame.{HaveLiveAlike, same_greatest, says_the_same, steps_the_same}

-- A commit's entry: its rows are formed from sound rows in which no entry counts and each member is trusted that the table trusts now; the members that it
-- trusts
-- still have the sectors of those rows but where it holds one; its body has what it holds of the formed rows, whose other sectors are as they were; and each
-- other
-- journal has the entry before, or this one.
pub record IsCommitted (table : Table) (base : Rows) (reads : Slots) (target : ℕ) (sectors : List (ℕ × Bytes)) (seal : Seal) (values : List (List Bytes))
    (body : List Bytes) : Type 0 where
  pub formed : IsFormed table.geometry base sectors (rows_in seal.form) values
  pub long : IsBodyLong table.geometry.members seal body
  pub held : (i member : ℕ) → i < length (rows_in seal.form) → member < table.geometry.members → holds table.geometry.members seal.form i member ≡ true
      → held_sector table.geometry.members seal body i member ≡ slice_index_or (slice_index_or values i []) member []
  pub kept : (i member : ℕ) → i < length (rows_in seal.form) → member < table.geometry.members → holds table.geometry.members seal.form i member ≡ false
      → slice_index_or (slice_index_or values i []) member [] ≡ value base (row_at (rows_in seal.form) i) member
  pub width : base.members ≡ table.geometry.members
  pub bare : (row member : ℕ) → base.entry row member ≡ None
  pub sound : AreSound base (row_count table)
  pub trust : (row member : ℕ) → row < row_count table → member < table.geometry.members → TableTrusts (state_at table.states member) row table.position
      → base.trusted row member ≡ true
  pub own : (row member : ℕ) → row < row_count table → member < table.geometry.members → LacksSector table.geometry.members seal row member
      → TableTrusts (state_at table.states member) row table.position
      → sector_of (disk_of (reads member)) (FIRST_ROW + row) ≡ base.own row member
  pub whole_sectors : (row member : ℕ) → row < row_count table → member < table.geometry.members → base.trusted row member ≡ true
      → length (base.own row member) ≡ 512
  pub others : (journal : ℕ) → table.geometry.members ≤ journal → CountsOn table journal → journal ≢ target
      → IsNextOn table.id table.geometry (disk_of (reads journal)) seal ⊎ HasThisEntry table.id table.geometry (disk_of (reads journal)) seal body

-- the list with the sectors written
abbrev pub list_after : Table → Rows → List (ℕ × Bytes) → List Bytes
list_after table base sectors = written (logical_list table.geometry base) sectors

module _ (devices : ℕ) (table : Table) (puts : Contents) (reads : Slots) (X : List (List Bytes)) (whole before image : Slots)
    (from : IsWrittenFrom devices table puts reads X whole before image) (alive : HaveLiveAlike devices table image before)
    (base : Rows) (target : ℕ) (sectors : List (ℕ × Bytes)) (seal : Seal) (values : List (List Bytes)) (body : List Bytes)
    (beyond : table.geometry.members ≤ target) (of_set : target < slots_of table)
    (committed : IsCommitted table base reads target sectors seal values body) (sealed : StandsSealed devices table target seal body before image) where
  of_target : IsGreatest table.id table.geometry (image target) seal
  of_target = greatest_there table.id table.geometry (image target) seal sealed.has.last

  target_live : IsLiveJournal devices table image target
  target_live = record { beyond_members = beyond; of_set = of_set; live = alive.back target sealed.was_live }

  was_journal : (journal : ℕ) → IsLiveJournal devices table image journal → IsLiveJournal devices table before journal
  was_journal journal live = record { beyond_members = live.beyond_members; of_set = live.of_set; live = alive.live journal live.live }

  -- what another live journal has
  other_is : (journal at : ℕ) → IsLiveJournal devices table image journal → journal ≢ target
      → sector_of (disk_of (image journal)) at ≡ sector_of (disk_of (reads journal)) at
  other_is journal at live apart = sealed.others journal at apart
      ∙ ap (λ (c : Content). sector_of (disk_of c) at)
      (journal_read devices table puts reads X whole before image from alive journal (was_journal journal live))

  other_sealed : (journal : ℕ) (last : Seal) → IsLiveJournal devices table image journal → journal ≢ target
      → IsGreatest table.id table.geometry (image journal) last
      → IsGreatest table.id table.geometry (Some (disk_of (reads journal))) last
  other_sealed journal last live apart is = same_greatest table.id table.geometry (Some (disk_of (reads journal))) (image journal)
      (λ place below. sym (other_is journal (FIRST_SEAL + place) live apart)) last is

  -- of the other journals one that has the entry before has the number before
  before_it : (journal : ℕ) (last : Seal) → IsNextOn table.id table.geometry (disk_of (reads journal)) seal
      → IsGreatest table.id table.geometry (Some (disk_of (reads journal))) last → last.number + 1 ≡ seal.number
  before_it journal last is_next is =
      let one = last_is_one table.id table.geometry (Some (disk_of (reads journal))) is_next.last (Some last) table.id_long is_next.is_last is in
      omega (arith, is_next.number, ap number_of one)

  -- a live journal has this entry, or the one before
  pub record HasIt (journal : ℕ) : Type 0 where
    pub last : IsGreatest table.id table.geometry (image journal) seal
    pub has_body : (k : ℕ) → k < length body → sector_of (disk_of (image journal)) (body_start seal + k) ≡ slice_index_or body k []

  has_or_before : (journal : ℕ) → IsLiveJournal devices table image journal
      → HasIt journal ⊎ ((journal ≢ target) × ((last : Option Seal) → IsLastSealed table.id table.geometry (image journal) last
      → seal.number ≡ number_of last + 1))
  has_or_before journal live = elim (cases_eq journal target) [
    | inl is ↦ inl (subst HasIt (sym is) record { last = of_target; has_body = sealed.has.has_body })
    | inr apart ↦ elim (committed.others journal live.beyond_members (journal_counts devices table image journal live) apart) [
      | inr has ↦ inl (record {
        last = same_greatest table.id table.geometry (image journal) (Some (disk_of (reads journal)))
            (λ place below. other_is journal (FIRST_SEAL + place) live apart) seal has.last;
        has_body = λ k within. other_is journal (body_start seal + k) live apart ∙ has.has_body k within;
      })
      | inl is_next ↦ inr (apart, λ last is. number_before is_next apart last is)
    ]
  ]
    where
      number_before : IsNextOn table.id table.geometry (disk_of (reads journal)) seal → journal ≢ target → (last : Option Seal)
          → IsLastSealed table.id table.geometry (image journal) last → seal.number ≡ number_of last + 1
      number_before is_next apart (Some last) is = sym (before_it journal last is_next (other_sealed journal last live apart is))
      number_before is_next apart None none = of_last is_next.last refl
        where
          of_last : (last : Option Seal) → is_next.last ≡ last → seal.number ≡ 1
          of_last None same = omega (arith, is_next.number, ap number_of same)
          of_last (Some last) same =
              let there : IsGreatest table.id table.geometry (Some (disk_of (reads journal))) last =
              subst (IsLastSealed table.id table.geometry (Some (disk_of (reads journal)))) same is_next.is_last in
              let its = same_greatest table.id table.geometry (image journal) (Some (disk_of (reads journal)))
              (λ place below. other_is journal (FIRST_SEAL + place) live apart) last there in
              absurd (none its.place last its.counted)

  -- the last entry is this one
  latest_has : (entry : Entry) → IsLastEntry table.id table.geometry (IsLiveJournal devices table image) image (Some entry) → HasIt entry.journal
  latest_has entry is = elim (has_or_before entry.journal is.on_live) [
    | inl has ↦ has
    | inr number ↦ absurd (omega (arith, number.1 (Some entry.seal) is.sealed, is.greatest target seal target_live of_target))
  ]

  -- its sectors are the formed ones
  in_rows : (journal : ℕ) → HasIt journal → (row member : ℕ) → member < table.geometry.members
      → sector_in table.geometry.members (image journal) seal row member ≡ formed_sector table.geometry.members seal values row member
  in_rows journal has row member below = by_place (place_in (rows_in seal.form) row) refl
    where
      formed_at : (i : ℕ) (b : Bool) → place_in (rows_in seal.form) row ≡ Some i → holds table.geometry.members seal.form i member ≡ b
          → formed_sector table.geometry.members seal values row member ≡ (if b then Some (slice_index_or (slice_index_or values i []) member []) else None)
      formed_at i b there is =
          ap (option_and_then (λ n. if holds table.geometry.members seal.form n member then Some (slice_index_or (slice_index_or values n []) member []) else
          None)) there
          ∙ ap (λ (h : Bool). if h then Some (slice_index_or (slice_index_or values i []) member []) else None) is

      by_held : (i : ℕ) (b : Bool) → place_in (rows_in seal.form) row ≡ Some i → holds table.geometry.members seal.form i member ≡ b
          → sector_in table.geometry.members (image journal) seal row member ≡ formed_sector table.geometry.members seal values row member
      by_held i true there is =
          let within = (row_of_place (rows_in seal.form) row i there).0 in
          sector_of_held table.geometry.members (image journal) seal body row i member committed.long has.has_body there below is
          ∙ ap Some (committed.held i member within below is)
          ∙ sym (formed_at i true there is)
      by_held i false there is = sector_lacking table.geometry.members (image journal) seal row i member there is ∙ sym (formed_at i false there is)

      by_place : (place : Option ℕ) → place_in (rows_in seal.form) row ≡ place
          → sector_in table.geometry.members (image journal) seal row member ≡ formed_sector table.geometry.members seal values row member
      by_place None none = sector_of_no_row table.geometry.members (image journal) seal row member none
          ∙ sym (ap (option_and_then (λ n. if holds table.geometry.members seal.form n member then Some
          (slice_index_or (slice_index_or values n []) member []) else None)) none)
      by_place (Some i) there = by_held i (holds table.geometry.members seal.form i member) there refl

  entry_is : (last : Option Entry) → IsLastEntry table.id table.geometry (IsLiveJournal devices table image) image last → (row member : ℕ)
      → member < table.geometry.members
      → sector_of_last table.geometry.members image last row member ≡ formed_sector table.geometry.members seal values row member
  entry_is None none row member below = absurd (none target of_target.place seal target_live of_target.counted)
  entry_is (Some entry) is row member below =
      let has = latest_has entry is in
      let one = greatest_is_one table.id table.geometry (image entry.journal) entry.seal seal table.id_long is.sealed has.last in
      ap (λ (s : Seal). sector_in table.geometry.members (image entry.journal) s row member) one ∙ in_rows entry.journal has row member below

  -- where it has no sector, the seal says of none
  not_placed : (row member : ℕ) → member < table.geometry.members → formed_sector table.geometry.members seal values row member ≡ None
      → LacksSector table.geometry.members seal row member
  not_placed row member below none = by_place (place_in (rows_in seal.form) row) refl
    where
      by_held : (i : ℕ) (b : Bool) → place_in (rows_in seal.form) row ≡ Some i → holds table.geometry.members seal.form i member ≡ b
          → LacksSector table.geometry.members seal row member
      by_held i true there is = absurd (none-some (slice_index_or (slice_index_or values i []) member []) (sym none
          ∙ ap (option_and_then (λ n. if holds table.geometry.members seal.form n member then Some (slice_index_or
          (slice_index_or values n []) member []) else
          None)) there
          ∙ ap (λ (h : Bool). if h then Some (slice_index_or (slice_index_or values i []) member []) else None) is))
      by_held i false there is = lacks_held table.geometry.members seal row i member there is

      by_place : (place : Option ℕ) → place_in (rows_in seal.form) row ≡ place → LacksSector table.geometry.members seal row member
      by_place None no_row = lacks_row table.geometry.members seal row member no_row
      by_place (Some i) there = by_held i (holds table.geometry.members seal.form i member) there refl

  -- the rows take the entry
  takes : (rows : Rows) → AreRowsOf devices table image rows → TakesEntry table.geometry base rows seal values
  takes rows are = record {
    width = committed.width;
    width_after = are.width;
    bare = committed.bare;
    entry = λ row member below within. are.in_entry row member ∙ entry_is are.last are.is_last row member within;
    kept = committed.kept;
    trust = λ row member below within counts. committed.trust row member below within (table_trusts rows are row member within counts);
    own = λ row member below within none counts.
        let lacks = not_placed row member within (sym (are.in_entry row member ∙ entry_is are.last are.is_last row member within) ∙ none) in
        let trusted = (are.trust row member within).0 counts in
        let counted : CountsOn table member = record { of_set = omega (arith, within); there = trusted.live.not_missing } in
        are.own_sector row member within
        ∙ sealed.others member (FIRST_ROW + row) (λ same. absurd (omega (arith, same, within, beyond)))
        ∙ ap (λ (c : Content). sector_of (disk_of c) (FIRST_ROW + row))
        (is_read devices table puts reads X whole before image from alive member counted (alive.live member trusted.live))
        ∙ committed.own row member below within lacks (table_trusts rows are row member within counts);
    whole = committed.whole_sectors;
    one_out = λ row first second below within within' out out'.
        from.holds.one_out first second (omega (arith, within)) (omega (arith, within')) (not_full rows are row first within out)
        (not_full rows are row second within' out');
  }
    where
      table_trusts : (rows : Rows) → AreRowsOf devices table image rows → (row member : ℕ) → member < table.geometry.members → rows.trusted row member ≡ true
          → TableTrusts (state_at table.states member) row table.position
      table_trusts rows are row member within counts =
          let trusted = (are.trust row member within).0 counts in
          record { there = trusted.live.not_missing; rebuilt = trusted.rebuilt }

      not_full : (rows : Rows) → AreRowsOf devices table image rows → (row member : ℕ) → member < table.geometry.members → rows.trusted row member ≡ false
          → ¬ IsInFull devices table member (before member)
      not_full rows are row member within out full = differ (sym out ∙ (are.trust row member within).1 record {
        live = alive.back member full.live;
        rebuilt = λ is. absurd (in_sync_not_rebuilding (sym full.in_sync ∙ is));
      })
        where
          differ : ¬ (false ≡ true)
          differ e = cc

  pub rows_committed : (X' : List (List Bytes)) → Contains X' (list_after table base sectors)
      → HasRows devices table X' (IsLiveJournal devices table image) image
  rows_committed X' among = record {
    sound = λ rows are. (takes_formed table.geometry base rows sectors seal values committed.formed (takes rows are) committed.sound).0;
    listed = λ rows are. subst (Contains X')
        (sym (takes_formed table.geometry base rows sectors seal values committed.formed (takes rows are) committed.sound).1) among;
  }

  -- two live journals are in step
  pub steps_committed : AreJournalsInStep devices table image
  steps_committed first second a b live live' last last' = elim (has_or_before first live) [
    | inl has ↦ elim (has_or_before second live') [
      | inl has' ↦ subst (λ (o : Option Seal). AreInStep table.geometry.members (image first) (image second) o b) (sym (is_seal first a has last))
          (subst (λ (o : Option Seal). AreInStep table.geometry.members (image first) (image second) (Some seal) o) (sym (is_seal second b has' last')) (inl (
            refl,
            λ row member below. in_rows first has row member below ∙ sym (in_rows second has' row member below),
          )))
      | inr number ↦ subst (λ (o : Option Seal). AreInStep table.geometry.members (image first) (image second) o b) (sym (is_seal first a has last))
          (past_first b (number.1 b last'))
    ]
    | inr number ↦ elim (has_or_before second live') [
      | inl has' ↦ subst (λ (o : Option Seal). AreInStep table.geometry.members (image first) (image second) a o) (sym (is_seal second b has' last'))
          (past_second a (number.1 a last))
      | inr number' ↦ same_journal (two_journals table.geometry.members first target second live.beyond_members live.of_set beyond of_set live'.beyond_members
          live'.of_set (λ is. number'.0 (sym is)))
          number.0
    ]
  ]
    where
      is_seal : (journal : ℕ) (o : Option Seal) → HasIt journal → IsLastSealed table.id table.geometry (image journal) o → o ≡ Some seal
      is_seal journal o has is = last_is_one table.id table.geometry (image journal) o (Some seal) table.id_long is has.last

      past_first : (o : Option Seal) → seal.number ≡ number_of o + 1 → AreInStep table.geometry.members (image first) (image second) (Some seal) o
      past_first None number = omega (arith, number)
      past_first (Some other) number = inr (inr (sym number))

      past_second : (o : Option Seal) → seal.number ≡ number_of o + 1 → AreInStep table.geometry.members (image first) (image second) o (Some seal)
      past_second None number = omega (arith, number)
      past_second (Some other) number = inr (inl (sym number))

      -- a journal is in step with itself
      with_itself : (one other : Option Seal) → one ≡ other → AreInStep table.geometry.members (image first) (image first) one other
      with_itself None None same = tt
      with_itself None (Some other) same = absurd (cc)
      with_itself (Some one) None same = absurd (cc)
      with_itself (Some one) (Some other) same = inl (ap (λ (o : Option Seal). unwrap_or o one) same, λ row member below. its_own row member same)
        where
          its_own : (row member : ℕ) → Some one ≡ Some other
              → sector_in table.geometry.members (image first) one row member ≡ sector_in table.geometry.members (image first) one row member
          its_own row member is = refl

      same_journal : (first ≡ target) ⊎ (first ≡ second) → first ≢ target → AreInStep table.geometry.members (image first) (image second) a b
      same_journal (inl is) apart = absurd (apart is)
      same_journal (inr is) apart = subst (λ (j : ℕ). AreInStep table.geometry.members (image first) (image j) a b) is
          (with_itself a b (last_is_one table.id table.geometry (image first) a b table.id_long last
          (subst (λ (j : ℕ). IsLastSealed table.id table.geometry (image j) b) (sym is) last')))

module _ (law : ACrashLeavesEither) (devices : ℕ) (table : Table) (puts : Contents) (reads : Slots) (X : List (List Bytes)) (whole before image : Slots)
    (from : IsWrittenFrom devices table puts reads X whole before image) (alive : HaveLiveAlike devices table image before)
    (base : Rows) (target : ℕ) (sectors : List (ℕ × Bytes)) (seal : Seal) (values : List (List Bytes)) (body : List Bytes)
    (next : IsSealedNext table puts reads target seal body)
    (committed : IsCommitted table base reads target sectors seal values body) where
  -- so every image says what it said, or the list with the sectors written
  pub committed_keeps : (X' : List (List Bytes)) → ((V : List Bytes) → Contains X V → Contains X' V) → Contains X' (list_after table base sectors)
      → HasRows devices table X' (IsLiveJournal devices table image) image × AreJournalsInStep devices table image
  committed_keeps X' more among = elim (sealed_or_same law devices table puts reads X whole before image from alive target seal body next) [
    | inl same ↦ (
      says_the_same devices table image before same X'
          record { sound = from.holds.sound; listed = λ rows are. more (logical_list table.geometry rows) (from.holds.listed rows are) },
      steps_the_same devices table image before same from.holds.in_step,
    )
    | inr sealed ↦ (
      rows_committed devices table puts reads X whole before image from alive base target sectors seal values body next.beyond next.of_set committed sealed X'
          among,
      steps_committed devices table puts reads X whole before image from alive base target sectors seal values body next.beyond next.of_set committed sealed,
    )
  ]
