-- What the commands on the set keep.
use Rattle.std.proofs.Common.{◌≡◌, ℕ, zero, suc, ◌≢◌, ◌+◌, ◌*◌, ◌<◌, ◌≤◌, Bool, true, false, cond, not, ◌||◌, nat_le, ◌==◌, List, [], ◌∷◌, length, take, get_or}
use Rattle.std.proofs.Common.{set, Option, Some, None, refl, sym, ap, ap₂, subst, ◌∙◌, arith}
use Rattle.std.proofs.lemmas.Bool.{ne_eqb, eq-eqb, true≢false}
use Rattle.std.proofs.lemmas.List.{length-set, length-map}
use Rattle.sector_model.specs.declared.refusal.Refusal.{Refusal}
use Rattle.sector_model.specs.declared.refusal.Refusal.TheVariants.{NotMissing, NotUsable, NothingToRebuild}
use Rattle.superblock.specs.declared.state.State.{State}
use Rattle.superblock.specs.declared.state.State.TheVariants.{Missing, InSync, Rebuilding}
use Rattle.superblock.specs.declared.table.Table.{Table}
use Rattle.superblock.specs.NextTables.{slots_of}
use Rattle.volume_table.specs.StoreCalls.{set_of}
use Rattle.volume_table.specs.VolumeStep.{Command, SetCommand, Fail, Replace, RebuildStep, Scrub, ScrubRows, Event, OnVolumes, OnSet, Done, Refused, Progressed}
use Rattle.volume_table.specs.VolumeStep.{first_refusal, or_refused}
use Rattle.layout_map.specs.declared.format.Format.{Format}
use Rattle.layout_map.specs.Formats.{rebuild_rows}
use Rattle.rebuild.specs.Rebuilding.{Complete, Position}
use Rattle.superblock.specs.States.{has_rebuilding, is_missing, is_rebuilding}
use Rattle.volume_table.specs.SetReplies.{SetState, Devices, is_member, with_faults, settled, rebuilt, joined, changed_set, set_answer, set_refusal, set_reply}
use Rattle.volume_table.specs.SetReplies.{position_after, set_or_same, set_after}
use Rattle.volume_table.specs.SetLaw.{NoFaults, IsZeroUnlessRebuilding, IsOneOut, Call, LetsRebuildGoOn, AllLetRebuildGoOn, after_calls, after_steps}
use Rattle.volume_table.specs.SetLaw.{step_rows, steps_among, steps_left, steps_of}
use Rattle.volume_table.proofs.StepRows.{fewer_below, last_left, more_left, none_stepped, one_stepped, some_left, stepped_both, stepped_last, stepped_more}
use Rattle.volume_table.proofs.StepRows.{stepped_on}

-- as many slots with faults
pub length-with_faults : (faults : ℕ → Bool) (states : List State) → length (with_faults faults states) ≡ length states
length-with_faults faults [] = refl
length-with_faults faults (state ∷ states) = ap suc (length-with_faults (λ slot. faults (slot + 1)) states)

-- without a fault states stay
without_faults : (faults : ℕ → Bool) (states : List State) → ((slot : ℕ) → slot < length states → faults slot ≡ false) → with_faults faults states ≡ states
without_faults faults [] none = refl
without_faults faults (state ∷ states) none =
    ap₂ (λ s ss. s ∷ ss) (ap (λ (b : Bool). cond b Missing state) (none 0 (omega arith)))
    (without_faults (λ slot. faults (slot + 1)) states (λ slot within. none (slot + 1) (omega (arith, within))))

-- whose device answered a fault is missing
fault_is_missing : (faults : ℕ → Bool) (states : List State) (slot : ℕ) → slot < length states → faults slot ≡ true
    → get_or (with_faults faults states) slot InSync ≡ Missing
fault_is_missing faults [] slot within fault = absurd (omega arith)
fault_is_missing faults (state ∷ states) zero within fault = ap (λ (b : Bool). cond b Missing state) fault
fault_is_missing faults (state ∷ states) (suc slot) within fault =
    let same : slot + 1 ≡ suc slot = omega arith in
    fault_is_missing (λ s. faults (s + 1)) states slot (omega arith) (ap faults same ∙ fault)

-- as many slots after each command
length-rebuilt : (states : List State) → length (rebuilt states) ≡ length states
length-rebuilt states = length-map {A = State} states (λ state. cond (is_rebuilding state) InSync state)

slots_of_joined : (slot : ℕ) (was : SetState) → length (joined slot was).states ≡ length was.states
slots_of_joined slot was = by_case (is_member slot was.states)
  where
    by_case : (b : Bool) → length (cond {A = SetState} b (record { states = set was.states slot Rebuilding; position = 0 })
        (record { states = set was.states slot InSync; position = was.position })).states ≡ length was.states
    by_case true = length-set was.states slot Rebuilding
    by_case false = length-set was.states slot InSync

slots_of_changed : (devices : Devices) (command : SetCommand) (was : SetState) → length (changed_set devices command was).states ≡ length was.states
slots_of_changed devices (Fail slot) was = length-set was.states slot Missing
slots_of_changed devices (Replace slot) was = slots_of_joined slot was
slots_of_changed devices (RebuildStep rows) was = by_case (position_after devices rows was.position == devices.rows)
  where
    by_case : (b : Bool) → length (cond {A = SetState} b (record { states = rebuilt was.states; position = 0 })
        (record { states = was.states; position = position_after devices rows was.position })).states ≡ length was.states
    by_case true = length-rebuilt was.states
    by_case false = refl
slots_of_changed devices Scrub was = refl
slots_of_changed devices (ScrubRows first rows) was = refl

-- the set before faults are counted
unsettled : Devices → Event → SetState → SetState
unsettled devices (OnVolumes command) was = was
unsettled devices (OnSet command) was = set_or_same (set_refusal devices command was) (changed_set devices command was) was

is_settled : (devices : Devices) (event : Event) (was : SetState) → set_after devices event was ≡ settled devices (unsettled devices event was)
unfolding unsettled
is_settled devices (OnVolumes command) was = refl
is_settled devices (OnSet command) was = refl

slots_unsettled : (devices : Devices) (event : Event) (was : SetState) → length (unsettled devices event was).states ≡ length was.states
unfolding unsettled
slots_unsettled devices (OnVolumes command) was = refl
slots_unsettled devices (OnSet command) was = by_case (set_refusal devices command was)
  where
    by_case : (o : Option Refusal) → length (set_or_same o (changed_set devices command was) was).states ≡ length was.states
    by_case None = slots_of_changed devices command was
    by_case (Some refusal) = refl

pub slots_stay : (devices : Devices) (event : Event) (was : SetState) → length (set_after devices event was).states ≡ length was.states
slots_stay devices event was =
    ap (λ (s : SetState). length s.states) (is_settled devices event was)
    ∙ length-with_faults devices.faults (unsettled devices event was).states ∙ slots_unsettled devices event was

pub faults_are_missing : (devices : Devices) (event : Event) (was : SetState) (slot : ℕ) → slot < length was.states → devices.faults slot ≡ true
    → get_or (set_after devices event was).states slot InSync ≡ Missing
faults_are_missing devices event was slot within fault =
    ap (λ (s : SetState). get_or s.states slot InSync) (is_settled devices event was)
    ∙ fault_is_missing devices.faults (unsettled devices event was).states slot (omega (arith, within, slots_unsettled devices event was)) fault

zero_if_settled : (devices : Devices) (was : SetState) → IsZeroUnlessRebuilding (settled devices was)
zero_if_settled devices was none = ap (λ (b : Bool). cond b was.position 0) none

pub position_is_zero : (devices : Devices) (event : Event) (was : SetState) → IsZeroUnlessRebuilding (set_after devices event was)
position_is_zero devices event was = subst IsZeroUnlessRebuilding (sym (is_settled devices event was)) (zero_if_settled devices (unsettled devices event was))

-- a set of these states and this position
abbrev pub made : List State → ℕ → SetState
made states position = record { states = states; position = position }

-- without a fault a settled set stays
settled_stays : (devices : Devices) (was : SetState) → NoFaults devices was → IsZeroUnlessRebuilding was → settled devices was ≡ was
settled_stays devices was none zero_else =
    ap (λ states. made states (cond (has_rebuilding states) was.position 0)) (without_faults devices.faults was.states none)
    ∙ ap (made was.states) (by_case (has_rebuilding was.states) refl)
  where
    by_case : (b : Bool) → has_rebuilding was.states ≡ b → cond b was.position 0 ≡ was.position
    by_case true e = refl
    by_case false e = sym (zero_else e)

pub volumes_leave_set : (devices : Devices) (command : Command) (was : SetState) → NoFaults devices was → IsZeroUnlessRebuilding was
    → set_after devices (OnVolumes command) was ≡ was
volumes_leave_set devices command was none zero_else = settled_stays devices was none zero_else

-- no answer is a refusal
step_answer_is_none : (b : Bool) (position : ℕ) (refusal : Refusal) → cond b (Progressed Complete) (Progressed (Position position)) ≡ Refused refusal → ⊥
step_answer_is_none true position refusal e = absurd (grind arith)
step_answer_is_none false position refusal e = absurd (grind arith)

no_refusal_answered : (devices : Devices) (command : SetCommand) (was : SetState) (refusal : Refusal) → set_answer devices command was ≡ Refused refusal → ⊥
no_refusal_answered devices (Fail slot) was refusal e = absurd (grind arith)
no_refusal_answered devices (Replace slot) was refusal e = absurd (grind arith)
no_refusal_answered devices (RebuildStep rows) was refusal e =
    step_answer_is_none (position_after devices rows was.position == devices.rows) (position_after devices rows was.position) refusal e
no_refusal_answered devices Scrub was refusal e = absurd (grind arith)
no_refusal_answered devices (ScrubRows first rows) was refusal e = absurd (grind arith)

pub refused_leaves_set : (devices : Devices) (command : SetCommand) (was : SetState) (refusal : Refusal) → NoFaults devices was → IsZeroUnlessRebuilding was
    → set_reply devices command was ≡ Refused refusal
    → set_after devices (OnSet command) was ≡ was
refused_leaves_set devices command was refusal none zero_else refused = ap (settled devices) (by_case (set_refusal devices command was) refused)
    ∙ settled_stays devices was none zero_else
  where
    by_case : (o : Option Refusal) → or_refused o (set_answer devices command was) ≡ Refused refusal
        → set_or_same o (changed_set devices command was) was ≡ was
    by_case None e = absurd (no_refusal_answered devices command was refusal e)
    by_case (Some other) e = refl

-- a rebuild step is not refused while a member is rebuilding
step_not_refused : (devices : Devices) (was : SetState) → NoFaults devices was → has_rebuilding was.states ≡ true
    → set_refusal devices (RebuildStep (step_rows devices)) was ≡ None
step_not_refused devices was none rebuilding =
    ap (λ states. cond (not (has_rebuilding states)) (Some NothingToRebuild) None) (without_faults devices.faults was.states none)
    ∙ ap (λ (b : Bool). cond (not b) (Some NothingToRebuild) None) rebuilding

-- what a step leaves and answers, by whether it is the last
step_leaves : (devices : Devices) (was : SetState) (last : Bool) → NoFaults devices was → has_rebuilding was.states ≡ true
    → (position_after devices (step_rows devices) was.position == devices.rows) ≡ last
    → set_after devices (OnSet (RebuildStep (step_rows devices))) was ≡ settled devices
    (cond last (record { states = rebuilt was.states; position = 0 })
    (record { states = was.states; position = position_after devices (step_rows devices) was.position }))
step_leaves devices was last none rebuilding is_last =
    ap (λ o. settled devices (set_or_same o (changed_set devices (RebuildStep (step_rows devices)) was) was)) (step_not_refused devices was none rebuilding)
    ∙ ap (λ (b : Bool). settled devices (cond b (record { states = rebuilt was.states; position = 0 })
    (record { states = was.states; position = position_after devices (step_rows devices) was.position }))) is_last

step_answers : (devices : Devices) (was : SetState) (last : Bool) → NoFaults devices was → has_rebuilding was.states ≡ true
    → (position_after devices (step_rows devices) was.position == devices.rows) ≡ last
    → set_reply devices (RebuildStep (step_rows devices)) was
    ≡ cond last (Progressed Complete) (Progressed (Position (position_after devices (step_rows devices) was.position)))
step_answers devices was last none rebuilding is_last =
    ap (λ o. or_refused o (set_answer devices (RebuildStep (step_rows devices)) was)) (step_not_refused devices was none rebuilding)
    ∙ ap (λ (b : Bool). cond b (Progressed Complete) (Progressed (Position (position_after devices (step_rows devices) was.position)))) is_last

-- a step that is not the last
step_goes_on : (devices : Devices) (was : SetState) → NoFaults devices was → has_rebuilding was.states ≡ true → was.position + step_rows devices < devices.rows
    → (set_after devices (OnSet (RebuildStep (step_rows devices))) was ≡ record { states = was.states; position = was.position + step_rows devices })
    × (set_reply devices (RebuildStep (step_rows devices)) was ≡ Progressed (Position (was.position + step_rows devices)))
step_goes_on devices was none rebuilding more =
    let there : position_after devices (step_rows devices) was.position ≡ was.position + step_rows devices =
    stepped_on devices.format devices.rows was.position more in
    let not_last : (position_after devices (step_rows devices) was.position == devices.rows) ≡ false =
    ne_eqb (position_after devices (step_rows devices) was.position) devices.rows (λ same. absurd (omega (arith, there, same))) in
    let next : SetState = record { states = was.states; position = position_after devices (step_rows devices) was.position } in (
      step_leaves devices was false none rebuilding not_last ∙ settled_stays devices next none (λ e. absurd (true≢false (sym rebuilding ∙ e)))
          ∙ ap (made was.states) there,
      step_answers devices was false none rebuilding not_last ∙ ap (λ q. Progressed (Position q)) there,
    )

-- the last step
pub step_is_last : (devices : Devices) (was : SetState) → NoFaults devices was → has_rebuilding was.states ≡ true → was.position ≤ devices.rows
    → devices.rows ≤ was.position + step_rows devices
    → (set_after devices (OnSet (RebuildStep (step_rows devices))) was ≡ record { states = rebuilt was.states; position = 0 })
    × (set_reply devices (RebuildStep (step_rows devices)) was ≡ Progressed Complete)
step_is_last devices was none rebuilding within near =
    let there : position_after devices (step_rows devices) was.position ≡ devices.rows =
    stepped_last devices.format devices.rows was.position within near in
    let last : (position_after devices (step_rows devices) was.position == devices.rows) ≡ true =
    eq-eqb (position_after devices (step_rows devices) was.position) devices.rows there in
    let next : SetState = record { states = rebuilt was.states; position = 0 } in (
      step_leaves devices was true none rebuilding last
          ∙ settled_stays devices next (λ slot within. none slot (omega (arith, within, length-rebuilt was.states))) (λ e. refl),
      step_answers devices was true none rebuilding last,
    )

-- the set n steps on
ahead : (devices : Devices) (was : SetState) (n : ℕ) → NoFaults devices was → has_rebuilding was.states ≡ true → n < steps_left devices was
    → after_steps devices was n ≡ made was.states (was.position + step_rows devices * n)
ahead devices was zero none rebuilding more = ap (made was.states) (none_stepped devices.format was.position)
ahead devices was (suc n) none rebuilding more =
    let here = made was.states (was.position + step_rows devices * n) in
    ap (set_after devices (OnSet (RebuildStep (step_rows devices)))) (ahead devices was n none rebuilding (omega (arith, more)))
    ∙ (step_goes_on devices here none rebuilding (more_left devices.format devices.rows was.position n (omega (arith, more)))).0
    ∙ ap (made was.states) (stepped_more devices.format was.position n ∙ ap (λ (k : ℕ). was.position + step_rows devices * k) (omega arith))

pub rebuild_goes_on : (devices : Devices) (was : SetState) (n : ℕ) → NoFaults devices was → has_rebuilding was.states ≡ true → n + 1 < steps_left devices was
    → (after_steps devices was (n + 1) ≡ record { states = was.states; position = was.position + step_rows devices * (n + 1) })
    × (set_reply devices (RebuildStep (step_rows devices)) (after_steps devices was n)
    ≡ Progressed (Position (was.position + step_rows devices * (n + 1))))
rebuild_goes_on devices was n none rebuilding more =
    let here = made was.states (was.position + step_rows devices * n) in
    let far = stepped_more devices.format was.position n in (
      ahead devices was (n + 1) none rebuilding more,
      ap (set_reply devices (RebuildStep (step_rows devices))) (ahead devices was n none rebuilding (omega (arith, more)))
          ∙ (step_goes_on devices here none rebuilding (more_left devices.format devices.rows was.position n more)).1
          ∙ ap (λ q. Progressed (Position q)) far,
    )

pub rebuild_is_counted : (devices : Devices) (was : SetState) (n : ℕ) → NoFaults devices was → has_rebuilding was.states ≡ true → n + 1 ≡ steps_left devices was
    → (after_steps devices was (n + 1) ≡ record { states = rebuilt was.states; position = 0 })
    × (set_reply devices (RebuildStep (step_rows devices)) (after_steps devices was n) ≡ Progressed Complete)
rebuild_is_counted devices was n none rebuilding last =
    let here = made was.states (was.position + step_rows devices * n) in
    let at_n = ahead devices was n none rebuilding (omega (arith, last)) in
    let one_more : n + 1 ≡ suc n = omega arith in
    let rows = last_left devices.format devices.rows was.position n last in
    let done = step_is_last devices here none rebuilding (omega (arith, rows.0)) rows.1 in (
      ap (after_steps devices was) one_more ∙ ap (set_after devices (OnSet (RebuildStep (step_rows devices)))) at_n
          ∙ done.0,
      ap (set_reply devices (RebuildStep (step_rows devices))) at_n ∙ done.1,
    )

missing≢in_sync : Missing ≢ InSync
missing≢in_sync e = absurd (grind arith)

rebuilding≢in_sync : Rebuilding ≢ InSync
rebuilding≢in_sync e = absurd (grind arith)

missing≢rebuilding : Missing ≢ Rebuilding
missing≢rebuilding e = absurd (grind arith)

-- a slot that is out among the first ones is one of them, and out
out_among_first : (n : ℕ) (states : List State) (slot : ℕ) → get_or (take n states) slot InSync ≢ InSync → (slot < n) × (get_or states slot Missing ≢ InSync)
out_among_first zero states slot out = absurd (out refl)
out_among_first (suc n) [] slot out = absurd (out refl)
out_among_first (suc n) (state ∷ states) zero out = (omega arith, out)
out_among_first (suc n) (state ∷ states) (suc slot) out = let among = out_among_first n states slot out in (omega (arith, among.0), among.1)

pub tables_have_one_out : (table : Table) → IsOneOut (set_of table).states
tables_have_one_out table first second first_out second_out =
    let one = out_among_first (slots_of table) table.states first first_out in
    let other = out_among_first (slots_of table) table.states second second_out in
    table.allowed.one_out first second one.0 other.0 one.1 other.1

-- a set with a rebuilding member has a slot of that state
rebuilding_slot : (states : List State) → has_rebuilding states ≡ true → (slot : ℕ) × (get_or states slot InSync ≡ Rebuilding)
rebuilding_slot [] e = absurd (true≢false (sym e))
rebuilding_slot (Rebuilding ∷ states) e = (0, refl)
rebuilding_slot (Missing ∷ states) e = let found = rebuilding_slot states e in (suc found.0, found.1)
rebuilding_slot (InSync ∷ states) e = let found = rebuilding_slot states e in (suc found.0, found.1)

-- and where one slot at most is out, none is missing
pub none_missing : (states : List State) (slot : ℕ) → IsOneOut states → has_rebuilding states ≡ true → is_missing (get_or states slot InSync) ≡ false
none_missing states slot one_out rebuilding = by_case (get_or states slot InSync) refl
  where
    by_case : (s : State) → get_or states slot InSync ≡ s → is_missing s ≡ false
    by_case InSync e = refl
    by_case Rebuilding e = refl
    by_case Missing e =
        let found = rebuilding_slot states rebuilding in
        let same : slot ≡ found.0 = one_out slot found.0 (λ f. absurd (missing≢in_sync (sym e ∙ f))) (λ f. absurd (rebuilding≢in_sync (sym found.1 ∙ f))) in
        absurd (missing≢rebuilding (sym e ∙ ap (λ n. get_or states n InSync) same ∙ found.1))

-- a replace is refused while a member is rebuilding
replace_refused : (devices : Devices) (was : SetState) (slot : ℕ) → IsOneOut was.states → has_rebuilding was.states ≡ true
    → set_reply devices (Replace slot) was ≡ Refused NotMissing
replace_refused devices was slot one_out rebuilding =
    ap (λ (b : Bool). or_refused (first_refusal ((nat_le (length was.states) slot || not b, NotMissing)
    ∷ (devices.unusable slot || devices.faults slot, NotUsable) ∷ [])) Done)
    (none_missing was.states slot one_out rebuilding)
    ∙ by_case (nat_le (length was.states) slot)
  where
    by_case : (b : Bool) → or_refused (first_refusal ((b || true, NotMissing) ∷ (devices.unusable slot || devices.faults slot, NotUsable) ∷ [])) Done ≡ Refused
        NotMissing
    by_case true = refl
    by_case false = refl

-- a fail that is not done is refused
fail_leaves : (devices : Devices) (was : SetState) (slot : ℕ) → NoFaults devices was → IsZeroUnlessRebuilding was → set_reply devices (Fail slot) was ≢ Done
    → set_after devices (OnSet (Fail slot)) was ≡ was
fail_leaves devices was slot none zero_else not_done = by_case (set_refusal devices (Fail slot) was) refl
  where
    by_case : (o : Option Refusal) → set_refusal devices (Fail slot) was ≡ o → set_after devices (OnSet (Fail slot)) was ≡ was
    by_case None e = absurd (not_done (ap (λ p. or_refused p Done) e))
    by_case (Some refusal) e = refused_leaves_set devices (Fail slot) was refusal none zero_else (ap (λ p. or_refused p Done) e)

scrub_leaves : (devices : Devices) (was : SetState) → NoFaults devices was → IsZeroUnlessRebuilding was → set_after devices (OnSet Scrub) was ≡ was
scrub_leaves devices was none zero_else = ap (settled devices) (by_case (set_refusal devices Scrub was)) ∙ settled_stays devices was none zero_else
  where
    by_case : (o : Option Refusal) → set_or_same o was was ≡ was
    by_case None = refl
    by_case (Some refusal) = refl

-- what a call leaves that lets a rebuild go on and is not the last step
pub call_leaves : (devices : Devices) (event : Event) (was : SetState) → IsOneOut was.states → has_rebuilding was.states ≡ true
    → LetsRebuildGoOn devices was (record { devices = devices; event = event }) → was.position + step_rows devices * steps_of event < devices.rows
    → set_after devices event was ≡ made was.states (was.position + step_rows devices * steps_of event)
call_leaves devices event was one_out rebuilding goes_on more = by_case event goes_on more
  where
    zero_else : IsZeroUnlessRebuilding was
    zero_else e = absurd (true≢false (sym rebuilding ∙ e))

    same : was ≡ made was.states (was.position + step_rows devices * 0)
    same = ap (made was.states) (none_stepped devices.format was.position)

    by_case : (other : Event) → LetsRebuildGoOn devices was (record { devices = devices; event = other })
        → was.position + step_rows devices * steps_of other < devices.rows
        → set_after devices other was ≡ made was.states (was.position + step_rows devices * steps_of other)
    by_case (OnVolumes command) lets few = settled_stays devices was lets.no_faults zero_else ∙ same
    by_case (OnSet (Fail slot)) lets few = fail_leaves devices was slot lets.no_faults zero_else (lets.none_given_up slot refl) ∙ same
    by_case (OnSet (Replace slot)) lets few =
        refused_leaves_set devices (Replace slot) was NotMissing lets.no_faults zero_else (replace_refused devices was slot one_out rebuilding) ∙ same
    by_case (OnSet (RebuildStep rows)) lets few =
        let one = one_stepped devices.format was.position in
        ap (λ n. set_after devices (OnSet (RebuildStep n)) was) (lets.whole rows refl)
        ∙ (step_goes_on devices was lets.no_faults rebuilding (omega (arith, few, one))).0 ∙ ap (made was.states) one
    by_case (OnSet Scrub) lets few = scrub_leaves devices was lets.no_faults zero_else ∙ same
    by_case (OnSet (ScrubRows first rows)) lets few = scrub_leaves devices was lets.no_faults zero_else ∙ same

-- the same, where the set's format and rows are those of other devices
call_leaves_by : (devices : Devices) (call : Call) (was : SetState) → IsOneOut was.states → has_rebuilding was.states ≡ true
    → LetsRebuildGoOn devices was call → was.position + step_rows devices * steps_of call.event < devices.rows
    → set_after call.devices call.event was ≡ made was.states (was.position + step_rows devices * steps_of call.event)
call_leaves_by devices call was one_out rebuilding lets more =
    let there : (format : Format) → ℕ = λ format. was.position + rebuild_rows format * steps_of call.event in
    let same : there call.devices.format ≡ there devices.format = ap there lets.of_format in
    call_leaves call.devices call.event was one_out rebuilding
    (record {
      of_rows = refl;
      of_format = refl;
      no_faults = lets.no_faults;
      none_given_up = lets.none_given_up;
      whole = λ rows is. lets.whole rows is ∙ ap rebuild_rows (sym lets.of_format);
    })
    (omega (arith, more, same, lets.of_rows))
    ∙ ap (made was.states) same

-- the set after calls that let a rebuild go on, while rows are left
ahead_among : (calls : List Call) (devices : Devices) (was : SetState) → IsOneOut was.states → has_rebuilding was.states ≡ true
    → AllLetRebuildGoOn devices was calls → was.position + step_rows devices * steps_among calls < devices.rows
    → after_calls calls was ≡ made was.states (was.position + step_rows devices * steps_among calls)
ahead_among [] devices was one_out rebuilding lets more = ap (made was.states) (none_stepped devices.format was.position)
ahead_among (call ∷ calls) devices was one_out rebuilding lets more =
    let here = made was.states (was.position + step_rows devices * steps_of call.event) in
    let both = stepped_both devices.format was.position (steps_of call.event) (steps_among calls) in
    let left : set_after call.devices call.event was ≡ here =
    call_leaves_by devices call was one_out rebuilding lets.0
    (fewer_below devices.format devices.rows was.position (steps_of call.event) (steps_among calls) more) in
    ap (after_calls calls) left
    ∙ ahead_among calls devices here one_out rebuilding (subst (λ (set : SetState). AllLetRebuildGoOn devices set calls) left lets.1)
    (omega (arith, more, both))
    ∙ ap (made was.states) both

pub rebuild_goes_on_among_others : (devices : Devices) (calls : List Call) (was : SetState) → NoFaults devices was → IsOneOut was.states
    → has_rebuilding was.states ≡ true
    → AllLetRebuildGoOn devices was calls → steps_among calls < steps_left devices was
    → (after_calls calls was ≡ record { states = was.states; position = was.position + step_rows devices * steps_among calls })
    × (steps_among calls + 1 < steps_left devices was
    → set_reply devices (RebuildStep (step_rows devices)) (after_calls calls was)
    ≡ Progressed (Position (was.position + step_rows devices * (steps_among calls + 1))))
rebuild_goes_on_among_others devices calls was none one_out rebuilding lets more =
    let n = steps_among calls in
    let here = made was.states (was.position + step_rows devices * n) in
    let there : after_calls calls was ≡ here =
    ahead_among calls devices was one_out rebuilding lets (some_left devices.format devices.rows was.position n more) in (
      there,
      λ further. ap (set_reply devices (RebuildStep (step_rows devices))) there
          ∙ (step_goes_on devices here none rebuilding (more_left devices.format devices.rows was.position n further)).1
          ∙ ap (λ q. Progressed (Position q)) (stepped_more devices.format was.position n),
    )

pub rebuild_is_counted_among_others : (devices : Devices) (calls : List Call) (was : SetState) → NoFaults devices was → IsOneOut was.states
    → has_rebuilding was.states ≡ true
    → AllLetRebuildGoOn devices was calls → steps_among calls + 1 ≡ steps_left devices was
    → (set_after devices (OnSet (RebuildStep (step_rows devices))) (after_calls calls was) ≡ record { states = rebuilt was.states; position = 0 })
    × (set_reply devices (RebuildStep (step_rows devices)) (after_calls calls was) ≡ Progressed Complete)
rebuild_is_counted_among_others devices calls was none one_out rebuilding lets last =
    let n = steps_among calls in
    let here = made was.states (was.position + step_rows devices * n) in
    let rows = last_left devices.format devices.rows was.position n last in
    let there : after_calls calls was ≡ here = ahead_among calls devices was one_out rebuilding lets rows.0 in
    let done = step_is_last devices here none rebuilding (omega (arith, rows.0)) rows.1 in
    (ap (set_after devices (OnSet (RebuildStep (step_rows devices)))) there ∙ done.0, ap (set_reply devices (RebuildStep (step_rows devices))) there ∙ done.1)
