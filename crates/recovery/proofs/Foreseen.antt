-- Assembling does what an inspection says.
use Rattle.std.proofs.Common.{◌≡◌, ◌≢◌, ◌⊎◌, inl, inr, ℕ, ◌<◌, Bool, true, false, List, Option, refl, sym, ◌∙◌, ap, subst}
use Rattle.std.specs.Prelude.{◌==◌, if◌then◌else◌}
use Rattle.std.proofs.lemmas.Bool.{eq-eqb, eqb-true, false≢true}
use Rattle.sector_model.specs.declared.refusal.Refusal.{Refusal}
use Rattle.sector_model.specs.declared.refusal.Refusal.TheVariants.{NoSet, TwoLost, Worn}
use Rattle.sector_model.specs.Bank.{IsLater}
use Rattle.sector_model.specs.History.{Bytes, History, Slots, cut_at, is_down}
use Rattle.sector_model.specs.Moments.{Throughout}
use Rattle.sector_model.specs.Readable.{readable}
use Rattle.sector_model.specs.Reads.{HasRead}
use Rattle.sector_model.proofs.Steps.{throughout_cut}
use Rattle.superblock.specs.declared.state.State.{State}
use Rattle.superblock.specs.declared.state.State.TheVariants.{InSync, Missing, Rebuilding}
use Rattle.superblock.specs.declared.table.Table.{Table}
use Rattle.superblock.specs.Cases.{HasNone, Lost}
use Rattle.superblock.specs.Counted.{Counts, IsChosen, IsInFull, IsLive}
use Rattle.superblock.specs.NextTables.{slots_of}
use Rattle.superblock.specs.States.{has_rebuilding}
use Rattle.superblock.specs.Tables.{state_at}
use Rattle.array_io.specs.Believed.Views.{ArrayView}
use Rattle.array_io.specs.Steps.CallSteps.{StaysDown}
use Rattle.array_io.proofs.Images.Codecs.{spellings}
use Rattle.array_io.proofs.Laws.Beginning.{state_in_sync}
use Rattle.recovery.specs.declared.examination.Outlook.{Outlook}
use Rattle.recovery.specs.declared.examination.Outlook.TheVariants as outlook
use Rattle.recovery.specs.declared.survey.Out.TheVariants as out
use Rattle.recovery.specs.Assembling.{Assembles, HasStatesOf, IsNoAssembly, IsOfAssembly, IsTwoLostThen, MayAssemble}
use Rattle.recovery.specs.Examining.{IsOutlook}
use Rattle.recovery.specs.Foreseeing.{AssemblesAsForeseen, EndsAsForeseen, IsForeseen}
use Rattle.recovery.specs.Making.{BankView, Outcome, bank_after}
use Rattle.recovery.specs.Surveying.{IsOutOf, IsThere}
use Rattle.recovery.specs.Unwritten.{NoDeviceFailedIn}
use Rattle.recovery.proofs.AssembledReads.{IsRead, read_last, read_throughout}
use Rattle.recovery.proofs.AssembledSince.{IsOneOut, one_out_but, one_out_there}
use Rattle.recovery.proofs.AssembledStates.{none_rebuilding}
use Rattle.recovery.proofs.AssembledUnwritten.{chosen_once, readable_stays}
use Rattle.recovery.proofs.DownRuns.{cut_down, stays_in}
use Rattle.recovery.proofs.Finding.{none_down}

-- by which slot it is
by_slot : (slot one : ℕ) (state special : State) → (slot ≡ one → state ≡ special) → (slot ≢ one → state ≡ InSync)
    → state ≡ (if slot == one then special else InSync)
by_slot slot one state special here there = by_test (slot == one) refl
  where
    by_test : (b : Bool) → (slot == one) ≡ b → state ≡ (if b then special else InSync)
    by_test true is = here (eqb-true slot one is)
    by_test false is = there (λ same. absurd (false≢true (sym is ∙ eq-eqb slot one same)))

states_differ : Missing ≢ InSync
states_differ is = cc

rebuilding_differs : Rebuilding ≢ InSync
rebuilding_differs is = cc

missing_differs : Missing ≢ Rebuilding
missing_differs is = cc

in_sync_differs : InSync ≢ Missing
in_sync_differs is = cc

rebuilding_there : Rebuilding ≢ Missing
rebuilding_there is = cc

-- beside a slot that is not in sync each other one is
others_in_sync : (table : Table) (out slot : ℕ) → out < slots_of table → state_at table.states out ≢ InSync → slot < slots_of table → slot ≢ out
    → state_at table.states slot ≡ InSync
others_in_sync table out slot of_set is_out within apart = elim (state_in_sync (state_at table.states slot)) [
  | inl is ↦ is
  | inr other ↦ absurd (apart (table.allowed.one_out slot out within of_set other is_out))
]

-- where all is there that the table counts on, one slot is out at most
all_are_there : (honest : Type 0) (fair : honest) (old : BankView) (table : Table) → IsOutOf honest old table out.Nobody
    → IsOneOut old.panel.devices table old.history
all_are_there honest fair old table out = one_out_there old.panel.devices table old.history (λ slot within counted. (out slot within counted).live fair)

-- What an array has whose states are those of a table that was chosen, where no device failed.
module _ (honest : Type 0) (fair : honest) (old : BankView) (table : Table) (array : ArrayView) (has : HasStatesOf table old array)
    (stay : NoDeviceFailedIn old.history array.history) where
  up_of : (slot : ℕ) → IsLive old.panel.devices table slot (readable old.history slot) → is_down array.history slot ≡ false
  up_of slot live = by_case (is_down old.history slot) refl
    where
      by_case : (b : Bool) → is_down old.history slot ≡ b → is_down array.history slot ≡ false
      by_case true down = absurd (none_down table.id old.panel.devices slot live.incarnation.place old.history down live.incarnation.newest
          live.incarnation.counted)
      by_case false up = by_now (is_down array.history slot) refl
        where
          by_now : (b : Bool) → is_down array.history slot ≡ b → b ≡ false
          by_now true down = absurd (false≢true (sym up ∙ stay slot down))
          by_now false is = refl

  -- what is there stays as it is
  there_stays : (slot : ℕ) → slot < slots_of table → IsThere honest old table slot → state_at array.table.states slot ≡ state_at table.states slot
  there_stays slot within there = has.live_stays slot within (there.live fair) (up_of slot (there.live fair))

  -- and what is called missing
  missing_stays : (slot : ℕ) → slot < slots_of table → state_at table.states slot ≡ Missing → state_at array.table.states slot ≡ Missing
  missing_stays slot within missing = has.not_live slot within (λ live. live.not_missing missing)

  -- the slot that rebuilds goes on there
  goes_on : (slot : ℕ) → state_at array.table.states slot ≡ Rebuilding → array.table.position ≡ table.position
  goes_on slot is = by_case (has_rebuilding array.table.states) refl
    where
      by_case : (b : Bool) → has_rebuilding array.table.states ≡ b → array.table.position ≡ table.position
      by_case true some = has.position ∙ ap (λ (b : Bool). if b then table.position else 0) some
      by_case false none = absurd (none_rebuilding array.table.states none slot is)

  pub foreseen : (expected : Outlook) → IsOutlook honest old table expected → expected ≢ outlook.TwoLost → IsForeseen table expected array
  foreseen outlook.TwoLost is not_two = absurd (not_two refl)
  foreseen outlook.Complete (complete, out) not_two = record {
    states = λ slot within.
        let here = complete.in_sync slot within in
        there_stays slot within (out slot within (λ missing. in_sync_differs (sym here ∙ missing))) ∙ here;
    position = tt;
  }
  foreseen (outlook.Missing missing) ((of_set, here), out) not_two = record {
    states = λ slot within. by_slot slot missing (state_at array.table.states slot) Missing
        (λ is. missing_stays slot within (ap (state_at table.states) is ∙ here))
        (λ apart.
        let it = others_in_sync table missing slot of_set (λ in_sync. states_differ (sym here ∙ in_sync)) within apart in
        there_stays slot within (out slot within (λ gone. in_sync_differs (sym it ∙ gone))) ∙ it);
    position = tt;
  }
  foreseen (outlook.Rebuilding rebuilding position) ((of_set, here, at), out) not_two =
      let there = there_stays rebuilding of_set (out rebuilding of_set (λ gone. rebuilding_there (sym here ∙ gone))) ∙ here in
      record {
        states = λ slot within. by_slot slot rebuilding (state_at array.table.states slot) Rebuilding
            (λ is. ap (state_at array.table.states) is ∙ there)
            (λ apart.
            let it = others_in_sync table rebuilding slot of_set (λ in_sync. rebuilding_differs (sym here ∙ in_sync)) within apart in
            there_stays slot within (out slot within (λ gone. in_sync_differs (sym it ∙ gone))) ∙ it);
        position = goes_on rebuilding there ∙ sym at;
      }
  foreseen (outlook.WouldMark missing) (gone, others) not_two = record {
    states = λ slot within. by_slot slot missing (state_at array.table.states slot) Missing
        (λ is. ap (state_at array.table.states) is ∙ has.not_live missing gone.of_set (gone.dead fair))
        (λ apart. there_stays slot within (others slot within apart).1 ∙ (others slot within apart).0);
    position = tt;
  }

-- By an outlook that is not of two lost slots one slot is out at most.
one_out_by : (honest : Type 0) (fair : honest) (old : BankView) (table : Table) (expected : Outlook) → IsOutlook honest old table expected
    → expected ≢ outlook.TwoLost
    → IsOneOut old.panel.devices table old.history
one_out_by honest fair old table outlook.TwoLost is not_two = absurd (not_two refl)
one_out_by honest fair old table (outlook.WouldMark slot) (gone, others) not_two = one_out_but old.panel.devices table old.history slot
    (λ other within apart. record { live = (others other within apart).1.live fair; in_sync = (others other within apart).0 })
one_out_by honest fair old table outlook.Complete (by, out) not_two = all_are_there honest fair old table out
one_out_by honest fair old table (outlook.Missing slot) (by, out) not_two = all_are_there honest fair old table out
one_out_by honest fair old table (outlook.Rebuilding slot position) (by, out) not_two = all_are_there honest fair old table out

-- So where no device fails and all cases hold, it is not refused but with 16.
module _ (honest : Type 0) (fair : honest) (id : List ℕ) (old bank : BankView) (table : Table) (expected : Outlook)
    (expected_is : IsOutlook honest old table expected)
    (not_two : expected ≢ outlook.TwoLost) (chosen : IsChosen id old.panel.devices (readable old.history) table) (later : IsLater old.panel bank.panel)
    (run : Throughout (StaysDown old.history) old.history bank.history) (stay : NoDeviceFailedIn old.history bank.history) where
  not_no_set : ((slot : ℕ) → HasNone id bank.panel.devices slot (readable bank.history slot)) → HasRead old.history bank.history → ⊥
  not_no_set none read =
      none chosen.slot chosen.place chosen.best
      (subst (λ (n : ℕ). Counts id n chosen.slot (readable bank.history chosen.slot) chosen.place chosen.best) (sym later.devices)
      (subst (λ (image : Slots). Counts id old.panel.devices chosen.slot (image chosen.slot) chosen.place chosen.best)
      (sym (readable_stays old.history bank.history (read_last read) stay)) chosen.counted))

  not_two_lost : IsTwoLostThen id old.panel.devices old.history bank.history → ⊥
  not_two_lost two =
      two.apart (one_out_by honest fair old table expected expected_is not_two two.first two.second (within two.first two.first_of_set)
      (within two.second two.second_of_set)
      (out_before two.first (out_then two.first two.first_out)) (out_before two.second (out_then two.second two.second_out)))
    where
      moment : History
      moment = cut_at two.t bank.history

      out_then : (slot : ℕ) → (is_down bank.history slot ≡ true) ⊎ ¬ IsInFull old.panel.devices two.table slot (readable moment slot)
          → ¬ IsInFull old.panel.devices two.table slot (readable moment slot)
      out_then slot (inr out) full = out full
      out_then slot (inl down) full =
          let own = full.live.incarnation in
          none_down two.table.id old.panel.devices slot own.place moment (throughout_cut bank.history run two.t two.from slot (stay slot down)) own.newest
          own.counted

      read_then : IsRead old.history moment
      read_then = throughout_cut bank.history (read_throughout (two.unwritten (out_then two.first two.first_out) (out_then two.second two.second_out))) two.t
          two.from

      stood : readable moment ≡ readable old.history
      stood = readable_stays old.history moment read_then (λ device down. stay device (cut_down two.t bank.history device down))

      same : two.table ≡ table
      same = chosen_once spellings id old.panel.devices (readable old.history) two.table table
          (subst (λ (image : Slots). IsChosen id old.panel.devices image two.table) stood two.chosen) chosen

      within : (slot : ℕ) → slot < slots_of two.table → slot < slots_of table
      within slot = subst (λ (t : Table). slot < slots_of t) same

      out_before : (slot : ℕ) → ¬ IsInFull old.panel.devices two.table slot (readable moment slot)
          → ¬ IsInFull old.panel.devices table slot (readable old.history slot)
      out_before slot out = subst (λ (image : Slots). ¬ IsInFull old.panel.devices table slot (image slot)) stood
          (subst (λ (t : Table). ¬ IsInFull old.panel.devices t slot (readable moment slot)) same out)

  pub refused_at_most : (refusal : Refusal) → IsOfAssembly refusal → IsNoAssembly id old bank refusal → refusal ≡ Worn
  refused_at_most NoSet of why = absurd (not_no_set why.0 why.1)
  refused_at_most TwoLost of why = absurd (not_two_lost (subst (λ (n : ℕ). IsTwoLostThen id n old.history bank.history) later.devices why))
  refused_at_most Worn of why = refl
  refused_at_most refusal of why = absurd of

ends_as_foreseen : (honest : Type 0) (fair : honest) (id : List ℕ) (old : BankView) (outcome : Outcome) → Assembles honest id old outcome → (table : Table)
    → IsChosen id old.panel.devices (readable old.history) table → (expected : Outlook) → IsOutlook honest old table expected → expected ≢ outlook.TwoLost
    → NoDeviceFailedIn old.history (bank_after outcome).history → (base : Table) (lost : Option Lost) (X : List (List Bytes)) → base.id ≡ id
    → MayAssemble base lost X old
    → EndsAsForeseen base lost table expected outcome
ends_as_foreseen honest fair id old outcome assembles table chosen expected is not_two stay base lost X of_id may = record {
  opened = λ array opened loss. foreseen honest fair old table array (assembles.states fair base lost X of_id may array opened loss table chosen)
      (subst (λ (o : Outcome). NoDeviceFailedIn old.history (bank_after o).history) opened stay) expected is not_two;
  refused = λ bank refusal returned. refused_at_most honest fair id old bank table expected is not_two chosen
      (subst (λ (o : Outcome). IsLater old.panel (bank_after o).panel) returned assembles.later)
      (subst (λ (o : Outcome). Throughout (StaysDown old.history) old.history (bank_after o).history) returned
      (stays_in (bank_after outcome).history (assembles.moments fair base lost X of_id may)))
      (subst (λ (o : Outcome). NoDeviceFailedIn old.history (bank_after o).history) returned stay)
      refusal (assembles.refused bank refusal returned) (assembles.cause fair bank refusal returned);
}

pub assembles_as_foreseen : (honest : Type 0) (old : BankView) → AssemblesAsForeseen honest old
assembles_as_foreseen honest old id outcome fair assembles unwritten table chosen outlook.TwoLost (first, second, lost) stay =
    unwritten.two_lost fair record { table = table; chosen = chosen; first = first; second = second; lost = lost } stay
assembles_as_foreseen honest old id outcome fair assembles unwritten table chosen outlook.Complete is stay =
    ends_as_foreseen honest fair id old outcome assembles table chosen outlook.Complete is (λ two. cc) stay
assembles_as_foreseen honest old id outcome fair assembles unwritten table chosen (outlook.Missing slot) is stay =
    ends_as_foreseen honest fair id old outcome assembles table chosen (outlook.Missing slot) is (λ two. cc) stay
assembles_as_foreseen honest old id outcome fair assembles unwritten table chosen (outlook.Rebuilding slot position) is stay =
    ends_as_foreseen honest fair id old outcome assembles table chosen (outlook.Rebuilding slot position) is (λ two. cc) stay
assembles_as_foreseen honest old id outcome fair assembles unwritten table chosen (outlook.WouldMark slot) is stay =
    ends_as_foreseen honest fair id old outcome assembles table chosen (outlook.WouldMark slot) is (λ two. cc) stay
