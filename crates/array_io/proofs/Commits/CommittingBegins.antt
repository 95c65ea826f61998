-- A commit begins from the rows that reads give, where the array may be written.
use Rattle.std.proofs.Common.{◌≡◌, ℕ, ◌+◌, ◌%◌, ◌<◌, ◌≤◌, true, false, List, [], ◌∷◌, length, Option, Some, refl, sym, ◌∙◌, ap, subst, arith}
use Rattle.std.specs.Prelude.{slice_index_or}
use Rattle.sector_model.specs.Bank.{Panel}
use Rattle.sector_model.specs.History.{Bytes, History, disk_of, sector_of, seen}
use Rattle.sector_model.specs.Readable.{readable}
use Rattle.sector_model.proofs.Readable.{readable_left}
use Rattle.layout_map.specs.declared.geometry.Geometry.{Geometry}
use Rattle.layout_map.specs.Placement.{rows_of}
use Rattle.layout_map.specs.declared.sizes.TheConstants.{FIRST_ROW, HALVES}
use Rattle.superblock.proofs.LeastSectors.{member_least}
use Rattle.superblock.specs.declared.table.Table.{Table}
use Rattle.superblock.specs.Tables.{state_at}
use Rattle.superblock.specs.Cases.{Lost}
use Rattle.superblock.specs.Counted.{Content}
use Rattle.superblock.specs.NextTables.{IsNotOlder}
use Rattle.stripe_journal.specs.declared.seal.Seal.{Seal}
use Rattle.stripe_journal.specs.Forms.{holds, rows_in}
use Rattle.stripe_journal.specs.LastSealed.{Belongs}
use Rattle.stripe_journal.specs.Seals.{row_at}
use Rattle.degraded.specs.RowValue.{logical_list, value}
use Rattle.array_io.specs.Steps.Bringing.{CountsOn}
use Rattle.array_io.specs.Steps.Forming.{IsFormed}
use Rattle.array_io.specs.Believed.Holds.{row_count}
use Rattle.array_io.specs.Believed.Settled.{rows_by, trusts}
use Rattle.array_io.specs.Believed.Views.{RestsAfter, view_of}
use Rattle.array_io.specs.Steps.Writable.{IsWritable}
use Rattle.array_io.proofs.Rest.AtRestImages.{LeavesSectors, whole_left}
use Rattle.array_io.proofs.Rest.AtRestRows.{trusts_tells}
use Rattle.array_io.proofs.Commits.EntrySteps.{read_is_seen}
use Rattle.array_io.proofs.Rest.SettledAgain.{written_not_older}
use Rattle.array_io.proofs.Images.Spellings.{Spellings}
use Rattle.array_io.proofs.Writes.Writable.{writable_rests}
use Rattle.std.proofs.lemmas.List.Elements.{Contains-append_left, Contains-push}
use Rattle.stripe_journal.specs.LastEntry.{IsLastSealed}
use Rattle.stripe_journal.specs.OneEntry.{IsNextOn}
use Rattle.array_io.specs.Believed.ArrayCalls.{written}
use Rattle.array_io.specs.Steps.Putting.{Awaited, Formed, IsBodyLong, IsComing, IsFormedOn, PutsFrom, held_sector}
use Rattle.array_io.proofs.Commits.CommittingEnds.{writes_more}

-- where a commit of these sectors began, with this list
abbrev pub commits_from : (devices : ℕ) (base : Table) → Option Lost → List Bytes → List (ℕ × Bytes) → PutsFrom
commits_from devices base lost V sectors = record { devices = devices; base = base; lost = lost; lists = V ∷ written V sectors ∷ [] }

-- Its entry is formed from what reads give, has the next number, and is one of the set.
pub record IsFormedNext (number : ℕ) (table : Table) (h : History) (sectors : List (ℕ × Bytes)) (seal : Seal) (values : List (List Bytes))
    (body : List Bytes) : Type 0 where
  pub formed : IsFormed table.geometry (rows_by table (readable h)) sectors (rows_in seal.form) values
  pub long : IsBodyLong table.geometry.members seal body
  pub held : (i member : ℕ) → i < length (rows_in seal.form) → member < table.geometry.members → holds table.geometry.members seal.form i member ≡ true
      → held_sector table.geometry.members seal body i member ≡ slice_index_or (slice_index_or values i []) member []
  pub kept : (i member : ℕ) → i < length (rows_in seal.form) → member < table.geometry.members → holds table.geometry.members seal.form i member ≡ false
      → slice_index_or (slice_index_or values i []) member [] ≡ value (rows_by table (readable h)) (row_at (rows_in seal.form) i) member
  pub next : seal.number ≡ number + 1
  pub belongs : Belongs table.id table.geometry (seal.number % HALVES) seal

module _ (spellings : Spellings) (panel : Panel) (devices number : ℕ) (base table : Table) (lost : Option Lost) (V : List Bytes) (h : History)
    (same_devices : panel.devices ≡ devices)
    (is : IsWritable devices number base table lost V h) (leaves : LeavesSectors h) where
  rests : RestsAfter lost (view_of panel h table number) V
  rests = writable_rests spellings panel devices number base table lost V h same_devices is leaves

  not_older : IsNotOlder base table
  not_older = written_not_older spellings devices base table lost (V ∷ []) h is.from is.single_failure.0 is.single_failure.1

  members_are : table.geometry.members ≡ base.geometry.members
  members_are = ap (λ (g : Geometry). g.members) not_older.same_geometry

  rows_are : row_count table ≡ row_count base
  rows_are = ap (λ (g : Geometry). rows_of g.chunk g.stripes) not_older.same_geometry

  counts : (row member : ℕ) → member < table.geometry.members → trusts (state_at table.states member) row table.position ≡ true → CountsOn table member
  counts row member within trusted = record {
    of_set = omega (arith, within);
    there = ((trusts_tells (state_at table.states member) row table.position).0 trusted).there;
  }

  module _ (sectors : List (ℕ × Bytes)) (seal : Seal) (values : List (List Bytes)) (body : List Bytes)
      (formed : IsFormedNext number table h sectors seal values body) where
    -- the list is that of what reads give
    same_list : logical_list table.geometry (rows_by table (readable h)) ≡ V
    same_list = rests.rests.listed

    abbrev from : PutsFrom
    from = commits_from devices base lost V sectors

    stands_there : (slot : ℕ) → CountsOn table slot → readable h slot ≡ Some (seen h slot)
    stands_there slot counted = read_is_seen spellings devices base table lost (V ∷ []) h is.from slot counted

    is_formed : IsFormedOn (written V sectors) seal body from table h
    is_formed = record {
      rows = rows_by table (readable h);
      sectors = sectors;
      values = values;
      gives = ap (λ (L : List Bytes). written L sectors) same_list;
      among = Contains-push (V ∷ []) (written V sectors);
      formed = formed.formed;
      held = formed.held;
      kept = formed.kept;
      width = refl;
      bare = λ row member. refl;
      sound = rests.rests.sound;
      trust = λ row member below within trusted. trusted;
      own = λ row member below within trusted none. sym
          (ap (λ (c : Content). sector_of (disk_of c) (FIRST_ROW + row)) (stands_there member (counts row member within trusted)));
      whole_sectors = λ row member below within trusted.
          let counted = counts row member within trusted in
          let least = member_least table.geometry member within in
          let live = is.from.there member counted.of_set counted.there in
          whole_left h (readable h) leaves (readable_left h) member (FIRST_ROW + row) (omega (arith, below, least, live.long_enough));
    }

    next_on : (journal : ℕ) → table.geometry.members ≤ journal → CountsOn table journal → IsNextOn table.id table.geometry (seen h journal) seal
    next_on journal beyond counted = record {
      id_long = table.id_long;
      belongs = formed.belongs;
      last = is.entry.last;
      is_last = subst (λ (c : Content). IsLastSealed table.id table.geometry c is.entry.last) (stands_there journal counted)
          (is.entry.sealed journal record { beyond_members = beyond; of_set = counted.of_set; live = is.from.there journal counted.of_set counted.there });
      number = formed.next ∙ ap (λ (n : ℕ). n + 1) (sym is.entry.numbered);
    }

    pub commit_begins : IsComing (Formed (written V sectors)) seal body (λ k. Awaited) from table h
    commit_begins = record {
      writes = writes_more spellings devices base table lost (V ∷ []) (V ∷ written V sectors ∷ []) h
          (λ other among. Contains-append_left (V ∷ []) (written V sectors ∷ []) other among) is.from;
      long = formed.long;
      on_journals = next_on;
      may_stand = is_formed;
    }
