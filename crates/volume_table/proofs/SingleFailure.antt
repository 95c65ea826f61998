-- An event is not refused for two lost slots where one is lost at most.
use Rattle.std.proofs.Common.{◌≡◌, ◌≢◌, ◌⊎◌, inl, inr, ℕ, ◌+◌, ◌<◌, Bool, true, false, List, length, take, Option, Some, None, Err, refl, sym, ◌∙◌, ap, subst}
use Rattle.std.proofs.Common.{arith}
use Rattle.std.proofs.Common.{cond}
use Rattle.std.specs.Prelude.{IfSome, IsSome, not, slice_set, slice_index_or, nat_le}
use Rattle.std.proofs.lemmas.Bool.{cases_eq, cases_lt}
use Rattle.std.proofs.lemmas.List.{get_or-set_other, get_or-take, length-set, length-take-le}
use Rattle.std.proofs.lemmas.List.Folds.{list_all_at}
use Rattle.sector_model.specs.declared.refusal.Refusal.{Refusal}
use Rattle.sector_model.specs.declared.refusal.Refusal.TheVariants.{TwoLost, WouldLose, NotMissing}
use Rattle.sector_model.specs.Bank.{IsTrueTo}
use Rattle.sector_model.specs.History.{is_down}
use Rattle.layout_map.specs.declared.geometry.Geometry.{Geometry}
use Rattle.superblock.specs.declared.state.State.{State}
use Rattle.superblock.specs.declared.state.State.TheVariants.{InSync, Missing, Rebuilding}
use Rattle.superblock.specs.declared.table.Table.{Table}
use Rattle.superblock.specs.Tables.{state_at}
use Rattle.superblock.specs.Cases.{Lost, lost_from}
use Rattle.superblock.specs.Losses.{IsSingleFailure}
use Rattle.superblock.specs.NextTables.{IsOut, slots_of}
use Rattle.superblock.specs.States.{is_complete, is_in_sync}
use Rattle.superblock.proofs.Losing.{IsOfLost, not_two_lost}
use Rattle.array_io.specs.Believed.Settled.{IsLostSlot}
use Rattle.array_io.specs.Believed.Views.{ArrayView, IsSlotOut, IsTwoLost, StaysButForFailures}
use Rattle.array_io.proofs.Laws.Beginning.{state_in_sync}
use Rattle.array_io.specs.Believed.ArrayCalls.{Answer}
use Rattle.volume_table.specs.Staging.{CommitsWrites}
use Rattle.volume_table.specs.VolumeStep.{Command, Event, Fail, OnSet, OnVolumes, RebuildStep, Refused, Replace, Reply, Scrub, ScrubRows}
use Rattle.volume_table.specs.SetReplies.{set_refusal}
use Rattle.volume_table.specs.Stands.{StoreView}
use Rattle.volume_table.specs.StoreCalls.{GivesUp, GoesThrough, lost_in, lost_unless, no_devices, set_of}

-- the slot that is lost before is out
of_lost : (lost : Option Lost) (table : Table) (slot : ℕ) → IsLostSlot table lost → IsOut table slot → IsOfLost lost slot
of_lost lost table slot is out = by_lost lost (is.out slot out)
  where
    by_lost : (lost : Option Lost) → IfSome lost (λ one. one.slot ≡ slot) × IsSome lost → IsOfLost lost slot
    by_lost None (same, some) = let never : false ≡ true = some in cc
    by_lost (Some one) (same, some) = sym same

unless_some : (refusal : Option Refusal) (lost : Lost) (slot : ℕ) → lost_unless refusal (Some lost) slot ≡ Some lost
unless_some None lost slot = refl
unless_some (Some refusal) lost slot = refl

-- where a slot is lost, an event loses no other
in_some : (event : Event) (table : Table) (lost : Lost) → lost_in event table (Some lost) ≡ Some lost
in_some (OnVolumes command) table lost = refl
in_some (OnSet (Fail slot)) table lost = unless_some (set_refusal no_devices (Fail slot) (set_of table)) lost slot
in_some (OnSet (Replace slot)) table lost = refl
in_some (OnSet (RebuildStep rows)) table lost = refl
in_some (OnSet Scrub) table lost = refl
in_some (OnSet (ScrubRows first rows)) table lost = refl

still_lost : (event : Event) (table : Table) (lost : Option Lost) (slot : ℕ) → IsOfLost lost slot → IsOfLost (lost_in event table lost) slot
still_lost event table None slot is = absurd is
still_lost event table (Some lost) slot is = subst (λ (l : Option Lost). IsOfLost l slot) (sym (in_some event table lost)) is

not_in_sync : (state : State) → state ≢ InSync → is_in_sync state ≡ false
not_in_sync Missing out = refl
not_in_sync InSync out = absurd (out refl)
not_in_sync Rebuilding out = refl

-- with another slot out, the states are not complete without this one
not_complete : (table : Table) (slot other : ℕ) → IsOut table other → other ≢ slot → is_complete (slice_set (set_of table).states slot InSync) ≡ false
not_complete table slot other out apart = list_all_at is_in_sync (slice_set (take (slots_of table) table.states) slot InSync) other Missing
    (omega (arith, length-set (take (slots_of table) table.states) slot InSync, long, out.of_set))
    (not_in_sync (slice_index_or (slice_set (take (slots_of table) table.states) slot InSync) other Missing)
    (λ is. out.out (sym (get_or-take (slots_of table) table.states other Missing out.of_set)
    ∙ sym (get_or-set_other (take (slots_of table) table.states) slot other InSync Missing apart) ∙ is)))
  where
    long : length (take (slots_of table) table.states) ≡ slots_of table
    long = length-take-le (slots_of table) table.states (omega (arith, table.allowed.ten_states, table.geometry.limits.members_most))

some_is_none : (refusal : Refusal) → Some refusal ≡ None → ⊥
some_is_none refusal is = cc

-- a `fail` with another slot out is refused
pub refused_beside : (table : Table) (slot other : ℕ) → IsOut table other → other ≢ slot → set_refusal no_devices (Fail slot) (set_of table) ≡ None → ⊥
refused_beside table slot other out apart is = some_is_none WouldLose
    (sym (ap (λ (b : Bool). cond (not b) (Some WouldLose) (cond (nat_le (length (set_of table).states) slot) (Some NotMissing) None))
    (not_complete table slot other out apart)) ∙ is)

-- the slot that a `fail` gives up is the lost one
given_up_lost : (table : Table) (slot : ℕ) (lost : Option Lost) → IsLostSlot table lost → (l : Lost) → lost ≡ Some l → IsOut table l.slot
    → set_refusal no_devices (Fail slot) (set_of table) ≡ None → slot ≡ l.slot
given_up_lost table slot lost is l same out refusal = elim (cases_eq l.slot slot) [
  | inl one ↦ sym one
  | inr apart ↦ absurd (refused_beside table slot l.slot out apart refusal)
]

none_is_some : (lost : Lost) → Some lost ≡ None → ⊥
none_is_some lost is = cc

-- the slot that is lost before is not in sync
lost_is_out : (table : Table) (l : Lost) → IsLostSlot table (Some l) → IsOut table l.slot
lost_is_out table l is = record { of_set = of_set; out = out }
  where
    -- whatever is out is that slot
    one : (slot : ℕ) → IsOut table slot → l.slot ≡ slot
    one slot out = (is.out slot out).0

    complete_unless : ((slot : ℕ) → IsOut table slot → ⊥) → ⊥
    complete_unless never = none_is_some l (is.none record {
      in_sync = λ slot below. elim (state_in_sync (state_at table.states slot)) [
        | inl in_sync ↦ in_sync
        | inr out ↦ absurd (never slot record { of_set = below; out = out })
      ];
    })

    of_set : l.slot < slots_of table
    of_set = elim (cases_lt l.slot (slots_of table)) [
      | inl below ↦ below
      | inr beyond ↦ absurd (complete_unless (λ slot out. omega (arith, beyond, one slot out, out.of_set)))
    ]

    out : state_at table.states l.slot ≢ InSync
    out in_sync = complete_unless (λ slot out. out.out (subst (λ (k : ℕ). state_at table.states k ≡ InSync) (one slot out) in_sync))

-- a slot that an event gives up is the lost one then
given_up : (event : Event) (table : Table) (lost : Option Lost) (slot : ℕ) → IsLostSlot table lost → GivesUp event table slot
    → IsOfLost (lost_in event table lost) slot
given_up (OnVolumes command) table lost slot is gives = absurd gives
given_up (OnSet (Replace other)) table lost slot is gives = absurd gives
given_up (OnSet (RebuildStep rows)) table lost slot is gives = absurd gives
given_up (OnSet Scrub) table lost slot is gives = absurd gives
given_up (OnSet (ScrubRows first rows)) table lost slot is gives = absurd gives
given_up (OnSet (Fail other)) table lost slot is gives =
    subst (λ (r : Option Refusal). IsOfLost (lost_unless r lost other) slot) (sym gives.1) (from lost is)
  where
    from : (lost : Option Lost) → IsLostSlot table lost → IsOfLost (lost_from lost other) slot
    from None is = gives.0
    from (Some l) is = elim (cases_eq l.slot other) [
      | inl one ↦ gives.0 ∙ sym one
      | inr apart ↦ absurd (refused_beside table other l.slot (lost_is_out table l is) apart gives.1)
    ]

gives_or_not : (event : Event) (table : Table) (slot : ℕ) → GivesUp event table slot ⊎ ¬ GivesUp event table slot
gives_or_not (OnVolumes command) table slot = inr (λ gives. gives)
gives_or_not (OnSet (Replace other)) table slot = inr (λ gives. gives)
gives_or_not (OnSet (RebuildStep rows)) table slot = inr (λ gives. gives)
gives_or_not (OnSet Scrub) table slot = inr (λ gives. gives)
gives_or_not (OnSet (ScrubRows first rows)) table slot = inr (λ gives. gives)
gives_or_not (OnSet (Fail other)) table slot = elim (cases_eq slot other) [
  | inl is ↦ by_refusal is (set_refusal no_devices (Fail other) (set_of table)) refl
  | inr apart ↦ inr (λ gives. apart gives.0)
]
  where
    by_refusal : slot ≡ other → (refusal : Option Refusal) → set_refusal no_devices (Fail other) (set_of table) ≡ refusal
        → GivesUp (OnSet (Fail other)) table slot ⊎ ¬ GivesUp (OnSet (Fail other)) table slot
    by_refusal same None is = inl (same, is)
    by_refusal same (Some refusal) is = inr (λ gives. some_is_none refusal (sym is ∙ gives.1))

-- a slot that is out after an event is down, or the lost one
out_then : (event : Event) (old new : StoreView) (reply : Reply) (lost : Option Lost) → GoesThrough (Unit {0}) event old new reply
    → IsLostSlot old.array.table lost
    → IsTrueTo new.array.panel new.array.history → (slot : ℕ) → slot < slots_of old.array.table → IsSlotOut new.array slot
    → (is_down new.array.history slot ≡ true) ⊎ IsOfLost (lost_in event old.array.table lost) slot
out_then event old new reply lost goes is true_to slot below (inl down) = inl (sym (true_to.down slot) ∙ down)
out_then event old new reply lost goes is true_to slot below (inr out) = elim (state_in_sync (state_at old.array.table.states slot)) [
  | inr was_out ↦ inr (still_lost event old.array.table lost slot (of_lost lost old.array.table slot is record { of_set = below; out = was_out }))
  | inl in_sync ↦ elim (gives_or_not event old.array.table slot) [
    | inl gives ↦ inr (given_up event old.array.table lost slot is gives)
    | inr keeps ↦ elim (goes.spared slot below in_sync keeps) [
      | inl still ↦ absurd (out still)
      | inr down ↦ inl (sym (true_to.down slot) ∙ down)
    ]
  ]
]

same_slots : (old new : Table) → new.geometry ≡ old.geometry → slots_of new ≡ slots_of old
same_slots old new same = ap (λ (g : Geometry). g.members + 2) same

-- so an event is not refused for two lost slots
pub not_two : (event : Event) (old new : StoreView) (reply : Reply) (lost : Option Lost) → GoesThrough (Unit {0}) event old new reply
    → IsLostSlot old.array.table lost
    → IsTrueTo new.array.panel new.array.history → IsSingleFailure (slots_of old.array.table) (lost_in event old.array.table lost) new.array.history
    → reply ≢ Refused TwoLost
not_two event old new reply lost goes is true_to one refused =
    let two = (goes.ends TwoLost refused tt).1 in
    let slots = same_slots old.array.table new.array.table goes.goes_on.not_older.same_geometry in
    let first = subst (λ (n : ℕ). two.first < n) slots two.first_of_set in
    let second = subst (λ (n : ℕ). two.second < n) slots two.second_of_set in
    not_two_lost (slots_of old.array.table) (lost_in event old.array.table lost) new.array.history one two.first two.second first second two.apart
    (out_then event old new reply lost goes is true_to two.first first two.first_out)
    (out_then event old new reply lost goes is true_to two.second second two.second_out)

-- a slot that is out after a commit of writes that waited is down, or the lost one
out_committed : (writes : List Command) (old new : StoreView) (answer : Answer) (lost : Option Lost) → CommitsWrites (Unit {0}) writes old new answer
    → IsLostSlot old.array.table lost
    → IsTrueTo new.array.panel new.array.history → (slot : ℕ) → slot < slots_of old.array.table → IsSlotOut new.array slot
    → (is_down new.array.history slot ≡ true) ⊎ IsOfLost lost slot
out_committed writes old new answer lost commits is true_to slot below (inl down) = inl (sym (true_to.down slot) ∙ down)
out_committed writes old new answer lost commits is true_to slot below (inr out) = elim (state_in_sync (state_at old.array.table.states slot)) [
  | inr was_out ↦ inr (of_lost lost old.array.table slot is record { of_set = below; out = was_out })
  | inl in_sync ↦ elim (commits.spared slot below in_sync) [
    | inl still ↦ absurd (out still)
    | inr down ↦ inl (sym (true_to.down slot) ∙ down)
  ]
]

-- so it is not refused for two lost slots
pub commit_not_two : (writes : List Command) (old new : StoreView) (answer : Answer) (lost : Option Lost) → CommitsWrites (Unit {0}) writes old new answer
    → IsLostSlot old.array.table lost
    → IsTrueTo new.array.panel new.array.history → IsSingleFailure (slots_of old.array.table) lost new.array.history
    → answer ≢ Err TwoLost
commit_not_two writes old new answer lost commits is true_to one refused =
    let two = (commits.ends TwoLost refused).1 in
    let slots = same_slots old.array.table new.array.table commits.goes_on.not_older.same_geometry in
    let first = subst (λ (n : ℕ). two.first < n) slots two.first_of_set in
    let second = subst (λ (n : ℕ). two.second < n) slots two.second_of_set in
    not_two_lost (slots_of old.array.table) lost new.array.history one two.first two.second first second two.apart
    (out_committed writes old new answer lost commits is true_to two.first first two.first_out)
    (out_committed writes old new answer lost commits is true_to two.second second two.second_out)

-- a slot that is out after the array was given up is down, or the lost one
out_of_array : (honest : Type 0) (old new : ArrayView) (lost : Option Lost) → StaysButForFailures honest old new (Unit {0}) → IsLostSlot old.table lost
    → IsTrueTo new.panel new.history
    → (slot : ℕ) → slot < slots_of old.table → IsSlotOut new slot → (is_down new.history slot ≡ true) ⊎ IsOfLost lost slot
out_of_array honest old new lost stays is true_to slot below (inl down) = inl (sym (true_to.down slot) ∙ down)
out_of_array honest old new lost stays is true_to slot below (inr out) = elim (state_in_sync (state_at old.table.states slot)) [
  | inr was_out ↦ inr (of_lost lost old.table slot is record { of_set = below; out = was_out })
  | inl in_sync ↦ elim stays.table [
    | inl same ↦ absurd (out (ap (λ (t : Table). state_at t.states slot) same ∙ in_sync))
    | inr failed ↦ elim (cases_eq slot failed.slot) [
      | inl one ↦ inl (ap (λ (s : ℕ). is_down new.history s) one ∙ sym (true_to.down failed.slot) ∙ failed.is_down)
      | inr apart ↦ absurd (out (ap (λ (states : List State). state_at states slot) failed.marked.has_states
          ∙ get_or-set_other old.table.states failed.slot slot Missing Missing apart ∙ in_sync))
    ]
  ]
]

-- so opening is not refused for two lost slots
pub opening_not_two : (honest : Type 0) (old new : ArrayView) (lost : Option Lost) → StaysButForFailures honest old new (Unit {0})
    → new.table.geometry ≡ old.table.geometry → IsLostSlot old.table lost
    → IsTrueTo new.panel new.history → IsSingleFailure (slots_of old.table) lost new.history → IsTwoLost new → ⊥
opening_not_two honest old new lost stays same is true_to one two =
    let slots = same_slots old.table new.table same in
    let first = subst (λ (n : ℕ). two.first < n) slots two.first_of_set in
    let second = subst (λ (n : ℕ). two.second < n) slots two.second_of_set in
    not_two_lost (slots_of old.table) lost new.history one two.first two.second first second two.apart
    (out_of_array honest old new lost stays is true_to two.first first two.first_out)
    (out_of_array honest old new lost stays is true_to two.second second two.second_out)
