-- What an array's call keeps between its steps: from rest, over reads and over a mark, and back to rest.
use Rattle.std.proofs.Common.{◌≡◌, ◌≢◌, inl, inr, ℕ, ◌+◌, ◌<◌, Bool, cond, List, [], ◌∷◌, Option, Some, None, refl, sym, ◌∙◌, ap, subst}
use Rattle.std.specs.Prelude.{IfSome, IsSome}
use Rattle.std.proofs.Math.Path.{fun_ext}
use Rattle.std.proofs.lemmas.Bool.{cases_eq}
use Rattle.sector_model.specs.Bank.{Panel}
use Rattle.sector_model.specs.History.{Bytes, History, MayHold, is_down, seen, sector_of}
use Rattle.sector_model.specs.Reads.{HasRead}
use Rattle.sector_model.specs.Readable.{readable}
use Rattle.sector_model.proofs.Reading.{seen_read}
use Rattle.sector_model.proofs.Steps.{throughout_last}
use Rattle.superblock.specs.declared.state.State.TheVariants.{InSync, Missing}
use Rattle.superblock.specs.declared.table.Table.{Table}
use Rattle.superblock.specs.Tables.{state_at}
use Rattle.superblock.specs.Cases.{HasWholeSectors, Lost}
use Rattle.superblock.specs.Losses.{IsSingleFailure}
use Rattle.superblock.specs.NextTables.{IsComplete, IsOut, slots_of}
use Rattle.layout_map.specs.declared.geometry.Geometry.{Geometry}
use Rattle.array_io.specs.Steps.Bringing.{CountsOn}
use Rattle.array_io.specs.Steps.EntryAtRest.{HasEntryAtRest}
use Rattle.array_io.specs.Believed.Settled.{IsSettled}
use Rattle.array_io.specs.Believed.Views.{RestsAfter, view_of}
use Rattle.array_io.specs.Steps.Writable.{IsWritable}
use Rattle.array_io.specs.Steps.Writing.{HasFailedOnce, IsWriting, WritesFrom}
use Rattle.array_io.proofs.Rest.AtRestImages.{LeavesSectors}
use Rattle.array_io.proofs.Rest.AtRestLost.{complete_or_out}
use Rattle.array_io.proofs.Laws.Beginning.{live_is_up, lost_at_rest}
use Rattle.array_io.proofs.Commits.EntryCalls.{writes_on}
use Rattle.array_io.proofs.Commits.EntryCarried.{Nothing, entry_carried, marked_goes_on, nothing_keeps, reads_write}
use Rattle.array_io.proofs.Marks.FailedMarked.{MarkedOn, failed_is_single_failure, marked_writes_on, single_failure_stays}
use Rattle.array_io.proofs.Marks.MarkingHolds.{missing_then}
use Rattle.array_io.proofs.Rest.SettledAgain.{rests_one, settled_again, writes_from_settled, written_not_older}
use Rattle.array_io.proofs.Rest.SettledEntry.{entry_of_settled}
use Rattle.array_io.proofs.Images.Spellings.{Spellings}

-- from rest
pub writable_at_rest : Spellings → (devices number : ℕ) (table : Table) (lost : Option Lost) (V : List Bytes) (h : History)
    → IsSettled devices table number h lost V → LeavesSectors h
    → IsWritable devices number table table lost V h
writable_at_rest spellings devices number table lost V h settled sectors = record {
  from = writes_from_settled spellings devices table number h lost V settled;
  entry = entry_of_settled spellings devices table number h lost V settled sectors;
  single_failure = (lost, lost_at_rest spellings devices table number h lost V settled);
  lost_out = λ one is. lost_is_out one is;
}
  where
    lost_is_out : (one : Lost) → lost ≡ Some one → IsOut table one.slot
    lost_is_out one is = elim (complete_or_out table) [
      | inl complete ↦ absurd (none_some one (sym (settled.lost_slot.none complete) ∙ is))
      | inr out ↦
          let its = subst (λ (l : Option Lost). IfSome l (λ o. o.slot ≡ out.0) × IsSome l) is (settled.lost_slot.out out.0 out.1) in
          subst (IsOut table) (sym its.0) out.1
    ]
      where
        none_some : (one : Lost) → ¬ (None ≡ Some one)
        none_some one e = cc

-- where the table is complete, none is lost
none_lost : (table : Table) (lost : Option Lost) → ((one : Lost) → lost ≡ Some one → IsOut table one.slot) → IsComplete table → lost ≡ None
none_lost table None out complete = refl
none_lost table (Some one) out complete = absurd ((out one refl).out (complete.in_sync one.slot (out one refl).of_set))

-- and back to rest
pub writable_rests : Spellings → (panel : Panel) (devices number : ℕ) (base table : Table) (lost : Option Lost) (V : List Bytes) (h : History)
    → panel.devices ≡ devices
    → IsWritable devices number base table lost V h → LeavesSectors h → RestsAfter lost (view_of panel h table number) V
writable_rests spellings panel devices number base table lost V h same_devices is sectors =
    rests_one panel devices number base table lost V h same_devices
    (settled_again spellings devices base table lost (V ∷ []) h is.from number is.entry is.single_failure sectors (none_lost table lost is.lost_out))

-- reads that took no device down change nothing
pub same_readable : (old new : History) → HasRead old new → ((d : ℕ) → is_down new d ≡ is_down old d) → readable new ≡ readable old
same_readable old new read down = fun_ext (λ d. ap (λ (b : Bool). cond b None (Some (seen new d))) (down d)
    ∙ ap (λ (s : List Bytes). cond (is_down old d) None (Some s)) (seen_read read d))

pub writable_read : Spellings → (devices number : ℕ) (base table : Table) (lost : Option Lost) (V : List Bytes) (old new : History)
    → IsWritable devices number base table lost V old
    → HasRead old new → ((d : ℕ) → is_down new d ≡ is_down old d) → IsWritable devices number base table lost V new
writable_read spellings devices number base table lost V old new is read down =
    let writing : IsWriting table Nothing old new = throughout_last new (reads_write table Nothing old new read (λ d not. down d)) in
    record {
      from = writes_on spellings devices base table lost (V ∷ []) (V ∷ []) Nothing old new is.from (nothing_keeps devices table (readable old) (V ∷ [])) writing
          (λ d at first second up may may'. is.from.nothing_pending d at first second (sym (down d) ∙ up) (held writing d at first may)
          (held writing d at second may'))
          (λ slot counted. down slot ∙ live_is_up spellings devices table old slot (is.from.there slot counted.of_set counted.there));
      entry = subst (HasEntryAtRest devices table number) (sym (same_readable old new read down)) is.entry;
      single_failure = single_failure_stays (slots_of base) lost old new down is.single_failure;
      lost_out = is.lost_out;
    }
  where
    held : IsWriting table Nothing old new → (d at : ℕ) (value : Bytes) → MayHold new d at value → MayHold old d at value
    held writing d at value may = elim (writing.holds d at value may) [
      | inl was ↦ was
      | inr put ↦ absurd (put.2)
    ]

-- the lost slot is the one that is marked
pub marked_is_lost : (table : Table) (lost : Option Lost) (slot : ℕ) → ((one : Lost) → lost ≡ Some one → IsOut table one.slot)
    → ((other : ℕ) → other < slots_of table → other ≢ slot → state_at table.states other ≡ InSync) → IfSome lost (λ one. one.slot ≡ slot)
marked_is_lost table None slot out others = tt
marked_is_lost table (Some one) slot out others = elim (cases_eq one.slot slot) [
  | inl same ↦ same
  | inr apart ↦ absurd ((out one refl).out (others one.slot (out one refl).of_set apart))
]

-- where a device failed in reads, and its slot was marked missing, the array may be read and written on
pub writable_marked : Spellings → (devices number : ℕ) (base table new_table : Table) (lost : Option Lost) (V : List Bytes) (slot : ℕ) (old mid new : History)
    → IsWritable devices number base table lost V old → HasRead old mid → CountsOn table slot → HasFailedOnce devices base table lost (V ∷ []) slot mid
    → MarkedOn devices base table new_table lost (V ∷ []) slot mid new → HasWholeSectors (readable new) → IsWritable devices number base new_table lost V new
writable_marked spellings devices number base table new_table lost V slot old mid new is read counted failure marked whole = record {
  from = from_new;
  entry = entry_carried spellings devices base table new_table lost (V ∷ []) number old new is.entry is.from.there
      (marked_goes_on table new_table slot marked.marked counted.of_set marked.others_in_sync)
      from_new one_new (record {
        beyond = λ other at there beyond. marked.beyond other at
            (live_is_up spellings devices new_table new other (from_new.there other there.of_set there.there)) beyond
            ∙ ap (λ (s : List Bytes). sector_of s at) (seen_read read other);
      }) whole;
  single_failure = one_new;
  lost_out = λ one some. record {
    of_set = subst (λ (n : ℕ). one.slot < n) (sym same_new) (is.lost_out one some).of_set;
    out = λ in_sync. none_differ (sym (missing_then table new_table slot marked.marked counted.of_set)
        ∙ ap (state_at new_table.states) (sym (subst (λ (l : Option Lost). IfSome l (λ o. o.slot ≡ slot)) some its)) ∙ in_sync);
  };
}
  where
    same_base : slots_of table ≡ slots_of base
    same_base = ap (λ (g : Geometry). g.members + 2) (written_not_older spellings devices base table lost (V ∷ []) old is.from is.single_failure.0
        is.single_failure.1).same_geometry

    same_new : slots_of new_table ≡ slots_of table
    same_new = ap (λ (g : Geometry). g.members + 2) marked.marked.same_geometry

    its : IfSome lost (λ one. one.slot ≡ slot)
    its = marked_is_lost table lost slot is.lost_out marked.others_in_sync

    from_new : WritesFrom devices base new_table lost (V ∷ []) new
    from_new = marked_writes_on spellings devices base table new_table lost (V ∷ []) slot mid new failure marked same_base its

    one_new : IsSingleFailure (slots_of base) lost new
    one_new = single_failure_stays (slots_of base) lost mid new marked.down
        (failed_is_single_failure spellings devices base table lost (V ∷ []) slot mid failure same_base marked.others_in_sync its)

    none_differ : ¬ (Missing ≡ InSync)
    none_differ e = cc
