-- A commit, from its rows to its end, by what its parts promise.
use Rattle.std.proofs.Common.{◌≡◌, ◌⊎◌, inl, inr, ℕ, ◌+◌, ◌<◌, ◌≤◌, true, false, cond, List, [], ◌∷◌, Contains, length, Option, refl, sym, ◌∙◌, ap, subst}
use Rattle.std.proofs.Common.{Bool, arith}
use Rattle.std.specs.Prelude.{Ok, Err, count_ones, replicate, slice_index_or}
use Rattle.std.proofs.lemmas.Option.{none-some}
use Rattle.std.proofs.lemmas.List.Elements.{Contains-append_left}
use Rattle.sector_model.specs.declared.calls.TheConstants.{GREATEST_COUNT}
use Rattle.sector_model.specs.declared.refusal.Refusal.{Refusal}
use Rattle.sector_model.specs.declared.refusal.Refusal.TheVariants.{TwoLost, Worn}
use Rattle.sector_model.specs.Bank.{IsTrueTo, Panel}
use Rattle.sector_model.specs.History.{Bytes, History, Slots}
use Rattle.sector_model.specs.Moments.{Throughout, here}
use Rattle.sector_model.specs.Readable.{readable}
use Rattle.sector_model.proofs.Readable.{readable_left}
use Rattle.sector_model.proofs.Panels.{later_same}
use Rattle.sector_model.proofs.Steps.{throughout_more, throughout_on}
use Rattle.layout_map.specs.declared.geometry.Geometry.{Geometry}
use Rattle.layout_map.specs.declared.sizes.TheConstants.{FIRST_ROW, MOST_MEMBERS}
use Rattle.layout_map.proofs.Places.{place_member_below}
use Rattle.superblock.proofs.LeastSectors.{member_least}
use Rattle.superblock.specs.declared.table.Table.{Table}
use Rattle.superblock.specs.Tables.{state_at}
use Rattle.superblock.specs.Cases.{Lost}
use Rattle.stripe_journal.specs.declared.entry.Entry.{Entry}
use Rattle.stripe_journal.specs.declared.seal.Seal.{Seal}
use Rattle.stripe_journal.specs.Entries.{IsEntryOf, IsFormOf, body_of, form_of, numbers_of, row_mask}
use Rattle.stripe_journal.specs.Forms.{has_bit, has_zeros, holds, rank, rows_in}
use Rattle.stripe_journal.specs.LastSealed.{RowsHold}
use Rattle.stripe_journal.specs.Seals.{row_at}
use Rattle.stripe_journal.proofs.HeldEntries.{entry_of_form, holds_bits, length_of_seal, none_of_zeros, rank_of_seal}
use Rattle.degraded.specs.RowValue.{Rows, logical_list, value}
use Rattle.degraded.proofs.Values.{length-value}
use Rattle.array_io.specs.Believed.ArrayCalls.{Answer, Commits, MayForm, written}
use Rattle.array_io.specs.Steps.CallSteps.{StepsOf}
use Rattle.array_io.specs.Steps.Forming.{IsFormed}
use Rattle.array_io.proofs.Commits.EntryValues.{values_of}
use Rattle.array_io.specs.Steps.FormingRows.{AreOfSet, FormsListed, Given, HoldsChanged}
use Rattle.array_io.specs.Believed.Holds.{HoldsIn, row_count}
use Rattle.array_io.specs.Believed.Moments.{HoldsNow}
use Rattle.array_io.specs.Steps.ReadingOn.{Between, KeepsFrom, KeepsList, KeepsOn}
use Rattle.array_io.specs.Believed.Settled.{rows_by}
use Rattle.array_io.specs.Believed.Views.{ArrayView, GoesOn, HasEnded, IsEndOf, RestsAfter, RestsOn, StaysButForFailures, view_of}
use Rattle.array_io.specs.Steps.Writable.{IsWritable}
use Rattle.array_io.proofs.Rest.AtRestImages.{LeavesSectors, whole_left}
use Rattle.array_io.proofs.Rest.AtRestRows.{trusts_tells}
use Rattle.array_io.proofs.Calls.DeviceSteps.{goes_on_later}
use Rattle.array_io.proofs.Commits.FormedEntry.{body_is, forms_list, kept, two_held}
use Rattle.array_io.proofs.Reading.ReadCall.{sectors_of}
use Rattle.array_io.proofs.Images.Spellings.{Spellings}
use Rattle.array_io.proofs.Writes.Writable.{writable_at_rest, writable_rests}
use Rattle.superblock.specs.NextTables.{slots_of}
use Rattle.superblock.specs.Losses.{IsSingleFailure}
use Rattle.array_io.specs.Steps.Putting.{Awaited, Formed, HasSeal, HoldsAll, IfSingleFailure, IsComing, IsPut, IsPutBefore, PutsFrom}
use Rattle.array_io.specs.Steps.PuttingSteps.{Brings, StepsJournals, StepsMembers, both_sealed}
use Rattle.array_io.proofs.Calls.CallSteps.{end_after, goes_on_both, refused, stays_both, step_is_end, steps_more, two_or_worn}
use Rattle.array_io.proofs.Commits.CommittingBegins.{IsFormedNext, commit_begins, commits_from}
use Rattle.array_io.proofs.Commits.CommittingEnds.{for_list, sealed_now, sealed_then}
use Rattle.array_io.proofs.Commits.PuttingSteps.{both_are_sealed, brings_both}
use Rattle.array_io.proofs.Rest.LostAfter.{lost_out_after, single_failure_after}
use Rattle.array_io.specs.Steps.Bringing.{CountsOn}
use Rattle.array_io.specs.Steps.EntryAtRest.{HasEntryAtRest}

-- an image that is as it has to be for these lists is so for more
in_more : (devices : ℕ) (table : Table) (X X' : List (List Bytes)) (image : Slots) → ((V : List Bytes) → Contains X V → Contains X' V)
    → HoldsIn devices table X image → HoldsIn devices table X' image
in_more devices table X X' image more is = record {
  chosen = is.chosen;
  one_out = is.one_out;
  none_higher = is.none_higher;
  one_content = is.one_content;
  sound = is.sound;
  listed = λ rows are. more _ (is.listed rows are);
  in_step = is.in_step;
}

-- cases that hold for these lists hold for more
pub holds_more : (base : Table) (devices : ℕ) (lost : Option Lost) (X X' : List (List Bytes)) (h : History) → ((V : List Bytes) → Contains X V → Contains X' V)
    → HoldsNow base devices lost X h
    → HoldsNow base devices lost X' h
holds_more base devices lost X X' h more holds after image at may =
    let is = holds after image at may in
    record {
      table = is.table;
      not_older = is.not_older;
      lost_in_set = is.lost_in_set;
      whole = in_more devices is.table X X' image more is.whole;
      weakened = λ slot content out stands. in_more devices is.table X X' _ more (is.weakened slot content out stands);
      one_counts = is.one_counts;
    }

-- why a call ended, whatever its counter
ends_with : (old new : ArrayView) (counter : Type 0) (refusal : Refusal) → (refusal ≡ TwoLost) ⊎ (refusal ≡ Worn) → IsEndOf old new ⊥ refusal
    → IsEndOf old new counter refusal
ends_with old new counter refusal (inl is) end = subst (IsEndOf old new counter) (sym is) (subst (IsEndOf old new ⊥) is end)
ends_with old new counter refusal (inr is) end = subst (IsEndOf old new counter) (sym is) (by_why (subst (IsEndOf old new ⊥) is end))
  where
    by_why : IsEndOf old new ⊥ Worn → IsEndOf old new counter Worn
    by_why (inl worn) = inl worn
    by_why (inr none) = absurd none

-- what stays doesn't depend on the last entry's number
stays_numbered : (honest ended : Type 0) (old : ArrayView) (panel : Panel) (h : History) (table : Table) (number number' : ℕ)
    → StaysButForFailures honest old (view_of panel h table number) ended
    → StaysButForFailures honest old (view_of panel h table number') ended
stays_numbered honest ended old panel h table number number' stays = record {
  table = elim stays.table [
    | inl same ↦ inl same
    | inr lost ↦ inr record { slot = lost.slot; of_set = lost.of_set; counted = lost.counted; is_down = lost.is_down; marked = lost.marked }
  ];
  failure = stays.failure;
}

-- an entry that holds what changes holds of each row only sectors of the set's members, that with the parity among them
rows_hold : (geometry : Geometry) (sectors : Given) (entry : Entry) → HoldsChanged geometry sectors entry → RowsHold geometry (form_of entry) (numbers_of entry)
rows_hold geometry sectors entry changed i within = record {
  of_set = λ member held. elim ((changed i member within).0 held) [
    | inl given ↦ place_member_below geometry.limits given.lies
    | inr parity ↦ parity.in_set
  ];
  has_parity = λ member parity. (changed i member within).1 (inr parity);
}

-- an answer that is no refusal
abbrev accepted : Answer
accepted = Ok tt

flags_differ : ¬ (true ≡ false)
flags_differ e = cc

-- Where the last entry has the greatest number, nothing is done.
pub commit_worn : Spellings → (honest : Type 0) (sectors : Given) (number : ℕ) (table : Table) (panel : Panel) (h : History) → (honest → IsTrueTo panel h)
    → GREATEST_COUNT ≤ number
    → Commits honest sectors (view_of panel h table number) (view_of panel h table number) (refused Worn)
commit_worn spellings honest sectors number table panel h true_old worn = record {
  goes_on = goes_on_later panel panel h h table number (later_same panel);
  stays = record { table = inl refl; failure = λ is goes other of_set failed. absurd (flags_differ (sym failed.is_down ∙ failed.was_up)) };
  number = λ ok. absurd (cc);
  moments = λ fair lost V rests. here (holds_more table panel.devices lost (V ∷ []) (V ∷ written V sectors ∷ []) h
      (λ other among. Contains-append_left (V ∷ []) (written V sectors ∷ []) other among)
      (writable_at_rest spellings panel.devices number table lost V h rests (sectors_of panel h (true_old fair))).from.holds);
  rests = λ fair ok. absurd (cc);
  cause = λ refusal is. by_refusal refusal is;
}
  where
    by_refusal : (refusal : Refusal) → refused Worn ≡ Err refusal
        → IsEndOf (view_of panel h table number) (view_of panel h table number) (GREATEST_COUNT ≤ number) refusal
    by_refusal Worn is = inr worn
    by_refusal refusal is = absurd (cc)

module _ (spellings : Spellings) (honest : Type 0) (number : ℕ) (sectors : Given) (table table1 : Table) (panel panel1 : Panel) (h h1 : History)
    (true_old : honest → IsTrueTo panel h) (true_mid : honest → IsTrueTo panel1 h1) where
  abbrev Was : ArrayView
  Was = view_of panel h table number

  abbrev Mid : ArrayView
  Mid = view_of panel1 h1 table1 number

  from_rest : honest → (lost : Option Lost) (V : List Bytes) → RestsOn Was lost V → IsWritable panel.devices number table table lost V h
  from_rest fair lost V rests = writable_at_rest spellings panel.devices number table lost V h rests (sectors_of panel h (true_old fair))

  -- the old list is one of two
  abbrev Either : Option Lost → List Bytes → History → Type 0
  Either lost V now = HoldsNow table panel.devices lost (V ∷ written V sectors ∷ []) now

  -- its moments while its rows are formed
  first_moments : {answer : Answer} → StepsOf honest (KeepsList panel.devices) (Between panel.devices number) (Between panel.devices number) Was Mid answer
      → honest
      → (lost : Option Lost) (V : List Bytes) → RestsOn Was lost V → Throughout (Either lost V) h h1
  first_moments forms fair lost V rests =
      throughout_more (λ now. holds_more table panel.devices lost (V ∷ []) (V ∷ written V sectors ∷ []) now
      (λ other among. Contains-append_left (V ∷ []) (written V sectors ∷ []) other among)) h1
      (forms.moments fair record { base = table; lost = lost; logical = V } (from_rest fair lost V rests))

  -- Where its rows could not be formed, nothing was written.
  pub commit_unformed : (refusal : Refusal) → KeepsOn honest table table1 panel panel1 h h1 (refused refusal) → Commits honest sectors Was Mid (refused refusal)
  commit_unformed refusal steps =
      let forms = steps panel.devices number in
      record {
        goes_on = forms.goes_on;
        stays = forms.stays;
        number = λ ok. absurd (cc);
        moments = λ fair lost V rests. first_moments forms fair lost V rests;
        rests = λ fair ok. absurd (cc);
        cause = λ other is. ends_with Was Mid (GREATEST_COUNT ≤ number) other (two_or_worn Was Mid other (forms.cause other is))
            (step_is_end Was Mid other (forms.cause other is));
      }

  abbrev members : ℕ
  members = table1.geometry.members

  -- until its entry is put, the array is as it was at rest, but for failures

  module _ (steps : KeepsOn honest table table1 panel panel1 h h1 (Ok tt)) where
    forming : StepsOf honest (KeepsList panel.devices) (Between panel.devices number) (Between panel.devices number) Was Mid (Ok tt)
    forming = steps panel.devices number

    same_mid : panel1.devices ≡ panel.devices
    same_mid = forming.goes_on.later.devices

    module _ (fair : honest) (lost : Option Lost) (V : List Bytes) (rests : RestsOn Was lost V) where
      mid : IsWritable panel.devices number table table1 lost V h1
      mid = forming.reached fair refl record { base = table; lost = lost; logical = V } (from_rest fair lost V rests)

      leaves_mid : LeavesSectors h1
      leaves_mid = sectors_of panel1 h1 (true_mid fair)

      same_geometry : table1.geometry ≡ table.geometry
      same_geometry = forming.goes_on.not_older.same_geometry

  -- its rows were formed

  module _ (may : MayForm table sectors) (seal : Seal) (entry : Entry) (steps : KeepsOn honest table table1 panel panel1 h h1 (Ok tt))
      (formed : (number : ℕ) (from : KeepsFrom) → honest → Between panel.devices number from table h → FormsListed table.geometry sectors from.logical entry)
      (its_id : seal.id ≡ table1.id) (its_number : seal.number ≡ number + 1) (its_form : IsFormOf entry table1.geometry.format seal.form) where
    -- what reads give of the rows, by the table
    abbrev base : Rows
    base = rows_by table1 (readable h1)

    abbrev values : List (List Bytes)
    values = values_of members base entry

    abbrev formed_body : List Bytes
    formed_body = body_of members entry

    few : members ≤ MOST_MEMBERS
    few = table1.geometry.limits.members_most

    its_rows : rows_in seal.form ≡ numbers_of entry
    its_rows = its_form.rows

    of_entry : IsEntryOf members seal.form entry
    of_entry = entry_of_form members entry table1.geometry.format seal.form its_form

    module _ (fair : honest) (lost : Option Lost) (V : List Bytes) (rests : RestsOn Was lost V) where
      -- the list is what reads give
      rests_mid : RestsAfter lost Mid V
      rests_mid = writable_rests spellings panel1 panel.devices number table table1 lost V h1 (same_mid steps) (mid steps fair lost V rests)
          (leaves_mid steps fair lost V rests)

      listed : logical_list table1.geometry base ≡ V
      listed = rests_mid.rests.listed

      -- each value has 512 bytes
      whole_values : (row member : ℕ) → row < row_count table1 → member < members → length (value base row member) ≡ 512
      whole_values row member below within = length-value base row member (λ sector is. absurd (none-some sector is)) (λ none trusted.
          let there = ((trusts_tells (state_at table1.states member) row table1.position).0 trusted).there in
          let least = member_least table1.geometry member within in
          let live = (mid steps fair lost V rests).from.there member (omega (arith, within)) there in
          whole_left h1 (readable h1) (leaves_mid steps fair lost V rests) (readable_left h1) member (FIRST_ROW + row)
          (omega (arith, below, least, live.long_enough)))

      forms : FormsListed table1.geometry sectors (logical_list table1.geometry base) entry
      forms = subst (λ (g : Geometry). FormsListed g sectors (logical_list table1.geometry base) entry) (sym (same_geometry steps fair lost V rests))
          (subst (λ (L : List Bytes). FormsListed table.geometry sectors L entry) (sym listed)
          (formed number record { base = table; lost = lost; logical = V } fair (from_rest fair lost V rests)))

      is_formed : IsFormed table1.geometry base sectors (numbers_of entry) values
      is_formed = forms_list table1.geometry base sectors entry forms may.apart (subst (λ (g : Geometry). AreOfSet g sectors)
          (sym (same_geometry steps fair lost V rests)) may.of_set)
          refl rests_mid.rests.sound whole_values

      pub formed_next : IsFormedNext number table1 h1 sectors seal values formed_body
      formed_next = record {
        formed = subst (λ (rows : List ℕ). IsFormed table1.geometry base sectors rows values) (sym its_rows) is_formed;
        long = length_of_seal members seal entry few of_entry;
        held = λ i member within below held.
            ap (λ (b : Bool). cond b (replicate 512 0) (slice_index_or formed_body (rank members seal.form i member) [])) (other i (in_entry i within))
            ∙ ap (λ (k : ℕ). slice_index_or formed_body k []) (sym (rank_of_seal members seal entry few of_entry i member within below))
            ∙ body_is members base entry i member few (in_entry i within) below (sym (bits i member (in_entry i within)) ∙ held);
        kept = λ i member within below lacking. kept members base entry i member refl (in_entry i within) below
            (sym (bits i member (in_entry i within)) ∙ lacking)
            ∙ ap (λ (rows : List ℕ). value base (row_at rows i) member) (sym its_rows);
        next = its_number;
        belongs = record {
          of_set = its_id;
          of_format = its_form.of_format;
          own_place = refl;
          below = subst (λ (rows : List ℕ). (i : ℕ) → i < length rows → row_at rows i < row_count table1) (sym its_rows) forms.rows.of_set;
          held = subst (λ (rows : List ℕ). RowsHold table1.geometry seal.form rows) (sym its_rows) (λ i within.
              let is = rows_hold table1.geometry sectors entry forms.held i within in
              record {
                of_set = λ member held. is.of_set member (sym (bits i member within) ∙ held);
                has_parity = λ member parity. bits i member within ∙ is.has_parity member parity;
              });
        };
      }
        where
          in_entry : (i : ℕ) → i < length (rows_in seal.form) → i < length (numbers_of entry)
          in_entry i = subst (λ (rows : List ℕ). i < length rows) its_rows

          two : (i : ℕ) → i < length (numbers_of entry) → 2 ≤ count_ones (row_mask entry i)
          two = two_held table1.geometry sectors entry forms.rows forms.held

          other : (i : ℕ) → i < length (numbers_of entry) → has_zeros seal.form i ≡ false
          other i within = none_of_zeros entry table1.geometry.format seal.form i its_form within (two i within)

          bits : (i member : ℕ) → i < length (numbers_of entry) → holds members seal.form i member ≡ has_bit (row_mask entry i) member
          bits i member within = holds_bits members entry table1.geometry.format seal.form i member its_form within (two i within)

  -- its entry is formed, of rows with these values, and put

  module _ (still : Type 0) (more : honest → still) (seal : Seal) (entry : Entry) (values : List (List Bytes))
      (steps : KeepsOn honest table table1 panel panel1 h h1 (Ok tt)) (its_number : seal.number ≡ number + 1)
      (next : honest → (lost : Option Lost) (V : List Bytes) → RestsOn Was lost V
      → IsFormedNext number table1 h1 sectors seal values (body_of table1.geometry.members entry)) where
    abbrev body : List Bytes
    body = body_of members entry

    -- where its entry is put, from the array at rest
    abbrev Putting : Option Lost → List Bytes → PutsFrom
    Putting lost V = commits_from panel.devices table lost V sectors

    module _ (fair : honest) (lost : Option Lost) (V : List Bytes) (rests : RestsOn Was lost V) where
      coming : IsComing (Formed (written V sectors)) seal body (λ k. Awaited) (Putting lost V) table1 h1
      coming = commit_begins spellings panel1 panel.devices number table table1 lost V h1 (same_mid steps) (mid steps fair lost V rests)
          (leaves_mid steps fair lost V rests)
          sectors seal values body (next fair lost V rests)

      -- at each moment the list is the one before or the one after, where it is so while the entry is put
      both_moments : (now : History) → Throughout (HoldsAll (Putting lost V)) h1 now → Throughout (Either lost V) h now
      both_moments now putting = throughout_on h1 (first_moments (forming steps) fair lost V rests) now putting

    -- Steps in which the entry was put so far, that were refused.
    refused_so : (table2 : Table) (panel2 : Panel) (h2 : History) (refusal : Refusal) (after : List Bytes → PutsFrom → Table → History → Type 0)
        → ((V : List Bytes) → Brings still (IsComing (Formed (written V sectors)) seal body (λ k. Awaited)) (after V) Mid (view_of panel2 h2 table2 number)
        (refused refusal))
        → Commits honest sectors Was (view_of panel2 h2 table2 number) (refused refusal)
    refused_so table2 panel2 h2 refusal after putting =
        let one = putting [] in
        let New : ArrayView = view_of panel2 h2 table2 number in
        record {
          goes_on = goes_on_both Was Mid New (forming steps).goes_on one.goes_on;
          stays = stays_both honest Was Mid New (HasEnded (refused refusal)) (forming steps).goes_on one.goes_on (forming steps).stays
              record { table = one.stays.table; failure = λ fair. one.stays.failure (more fair) };
          number = λ ok. absurd (cc);
          moments = λ fair lost V rests. both_moments fair lost V rests h2
              ((putting V).moments (more fair) (Putting lost V) (λ loss. coming fair lost V rests));
          rests = λ fair ok. absurd (cc);
          cause = λ other is.
              let end = end_after honest Was Mid New (forming steps).stays other (one.cause other is) in
              ends_with Was New (GREATEST_COUNT ≤ number) other (two_or_worn Was New other end) (step_is_end Was New other end);
        }

    module _ (table2 : Table) (panel2 : Panel) (h2 : History) (answer : Answer)
        (journals : StepsJournals still seal body members Mid (view_of panel2 h2 table2 number) answer) where
      -- Where it could not be put on the journals, the list is the one before or the one after.
      pub put_unsealed : (refusal : Refusal) → answer ≡ Err refusal → Commits honest sectors Was (view_of panel2 h2 table2 number) (refused refusal)
      put_unsealed refusal is = refused_so table2 panel2 h2 refusal (λ V. IsComing (Formed (written V sectors)) seal body (both_sealed members))
          (λ V. subst (λ (a : Answer). Brings still (IsComing (Formed (written V sectors)) seal body (λ k. Awaited))
          (IsComing (Formed (written V sectors)) seal body (both_sealed members))
          Mid (view_of panel2 h2 table2 number) a) is (journals (Formed (written V sectors))))

      -- it was
      module _ (ok : answer ≡ Ok tt) (still2 : Type 0) (more2 : still → still2) (table3 : Table) (panel3 : Panel) (h3 : History)
          (true_new : honest → IsTrueTo panel3 h3) (last : Answer)
          (puts : StepsMembers still2 seal (body_of table2.geometry.members entry) (view_of panel2 h2 table2 number) (view_of panel3 h3 table3 number) last)
        where
          abbrev New : ℕ → ArrayView
          New n = view_of panel3 h3 table3 n

          sealing : (V : List Bytes) → Brings still (IsComing (Formed (written V sectors)) seal body (λ k. Awaited))
              (IsComing (Formed (written V sectors)) seal body (both_sealed members))
              Mid (view_of panel2 h2 table2 number) (Ok tt)
          sealing V = subst (λ (a : Answer). Brings still (IsComing (Formed (written V sectors)) seal body (λ k. Awaited))
              (IsComing (Formed (written V sectors)) seal body (both_sealed members))
              Mid (view_of panel2 h2 table2 number) a) ok (journals (Formed (written V sectors)))

          same_members : table2.geometry.members ≡ members
          same_members = ap (λ (g : Geometry). g.members) (sealing []).goes_on.not_older.same_geometry

          members_put : StepsMembers still2 seal body (view_of panel2 h2 table2 number) (New number) last
          members_put = subst (λ (n : ℕ). StepsMembers still2 seal (body_of n entry) (view_of panel2 h2 table2 number) (New number) last) same_members puts

          -- each journal has it
          all_sealed : (journal : ℕ) → table2.geometry.members ≤ journal → CountsOn table2 journal → both_sealed members journal ≡ HasSeal
          all_sealed journal beyond counted = both_are_sealed members journal (omega (arith, same_members, beyond))
              (omega (arith, same_members, counted.of_set))

          putting : (V : List Bytes) → Brings still (IsComing (Formed (written V sectors)) seal body (λ k. Awaited)) (IsPut seal.number) Mid (New number) last
          putting V = brings_both still still2 more2 (IsComing (Formed (written V sectors)) seal body (λ k. Awaited))
              (IsComing (Formed (written V sectors)) seal body (both_sealed members)) (IsPut seal.number)
              Mid (view_of panel2 h2 table2 number) (New number) last (sealing V)
              (steps_more still2 HoldsAll (IfSingleFailure (IsPutBefore 0 seal body))
              (IfSingleFailure (IsComing (Formed (written V sectors)) seal body (both_sealed members)))
              (IfSingleFailure (IsPut seal.number)) (IfSingleFailure (IsPut seal.number)) (view_of panel2 h2 table2 number) (New number) last
              (λ from is loss. sealed_now (Formed (written V sectors)) seal body (both_sealed members) from table2 h2 (is loss) all_sealed)
              (λ fair done from is put. put) members_put)

          -- Where its rows could not be put on the members, the list is the one before or the one after.
          pub put_unput : (refusal : Refusal) → last ≡ Err refusal → Commits honest sectors Was (New number) (refused refusal)
          put_unput refusal is = refused_so table3 panel3 h3 refusal (λ V. IsPut seal.number)
              (λ V. subst (λ (a : Answer). Brings still (IsComing (Formed (written V sectors)) seal body (λ k. Awaited)) (IsPut seal.number) Mid (New number) a)
              is (putting V))

          goes : GoesOn Was (New number)
          goes = goes_on_both Was Mid (New number) (forming steps).goes_on (putting []).goes_on

          stays : StaysButForFailures honest Was (New number) (HasEnded last)
          stays = stays_both honest Was Mid (New number) (HasEnded last) (forming steps).goes_on (putting []).goes_on (forming steps).stays
              record { table = (putting []).stays.table; failure = λ fair. (putting []).stays.failure (more fair) }

          module _ (done : last ≡ Ok tt) (fair : honest) (lost : Option Lost) (V : List Bytes) (rests : RestsOn Was lost V) where
            not_ended : ¬ HasEnded last
            not_ended ended = subst HasEnded done ended

            loss_then : IsSingleFailure (slots_of table) lost h3
            loss_then = single_failure_after spellings honest fair Was (New number) (HasEnded last) goes stays not_ended (true_old fair) (true_new fair) lost V
                rests

            -- once it is safe on the journals, every case holds for the list after it, and so it does when its rows stand
            put_for_list : IsPut seal.number (for_list (Putting lost V) (written V sectors)) table3 h3
            put_for_list = members_put.reached (more2 (more fair)) done (for_list (Putting lost V) (written V sectors))
                (λ loss. sealed_then spellings seal body (both_sealed members) (Putting lost V) table2 h2 (written V sectors)
                ((sealing V).reached (more fair) refl (Putting lost V) (λ was. coming fair lost V rests) loss) all_sealed) loss_then

            at_end : RestsAfter lost (New (number + 1)) (written V sectors)
            at_end = writable_rests spellings panel3 panel.devices (number + 1) table table3 lost (written V sectors) h3 (goes.later.devices) (record {
              from = put_for_list.writes;
              entry = subst (λ (n : ℕ). HasEntryAtRest panel.devices table3 n (readable h3)) its_number put_for_list.entry;
              single_failure = loss_then;
              lost_out = lost_out_after spellings honest fair Was (New number) (HasEnded last) goes stays not_ended (true_old fair) (true_new fair) lost V
                  rests;
            }) (sectors_of panel3 h3 (true_new fair))

          -- Where they were, the array is settled on the list after it.
          pub put_done : last ≡ Ok tt → Commits honest sectors Was (New (number + 1)) (Ok tt)
          put_done done = record {
            goes_on = record { later = goes.later; not_older = goes.not_older; number = omega arith; its_slots = goes.its_slots };
            stays = stays_numbered honest (HasEnded accepted) Was panel3 h3 table3 number (number + 1)
                (subst (λ (a : Answer). StaysButForFailures honest Was (New number) (HasEnded a)) done stays);
            number = λ answered. refl;
            moments = λ fair lost V rests. both_moments fair lost V rests h3
                ((putting V).moments (more fair) (Putting lost V) (λ loss. coming fair lost V rests));
            rests = λ fair answered lost V rests. at_end done fair lost V rests;
            cause = λ refusal is. absurd (cc);
          }
