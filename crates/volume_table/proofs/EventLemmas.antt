-- What lists of events keep.
use Rattle.std.proofs.Common.{◌≡◌, ℕ, zero, suc, ◌+◌, ◌<◌, List, [], ◌∷◌, length, drop, get_or, fold, All, sym, ap, ◌∙◌, arith}
use Rattle.std.proofs.lemmas.List.{take_all, drop_more}
use Rattle.std.proofs.lemmas.List.Elements.{All-head, All-tail}
use Rattle.sector_model.specs.declared.refusal.Refusal.{Refusal}
use Rattle.volume_table.specs.Volumes.{VolumeMap, AreVolumes}
use Rattle.volume_table.specs.VolumeStep.{Command, Event, OnVolumes, OnSet, IsEvent, Refused, reply_to, left_by, after}
use Rattle.volume_table.proofs.StepLemmas.{step_keeps, refused_changes_nothing}
use Rattle.extents.specs.declared.extent_layout.ExtentLayout.{ExtentLayout}

-- no event leaves what there was
after_nothing : (extents : ExtentLayout) (volumes : VolumeMap) (n : ℕ) → after extents [] volumes n ≡ volumes
after_nothing extents volumes n = ap (fold (λ left event. left_by extents event left) volumes) (take_all n [] (omega arith))

-- what the first m + n events leave
pub after_in_parts : (extents : ExtentLayout) (events : List Event) (volumes : VolumeMap) (m n : ℕ)
    → after extents events volumes (m + n) ≡ after extents (drop m events) (after extents events volumes m) n
after_in_parts extents events volumes zero n = let same : 0 + n ≡ n = omega arith in ap (after extents events volumes) same
after_in_parts extents [] volumes (suc m) n = after_nothing extents volumes (suc m + n) ∙ sym (after_nothing extents volumes n)
after_in_parts extents (event ∷ events) volumes (suc m) n =
    let same : suc m + n ≡ suc (m + n) = omega arith in
    ap (after extents (event ∷ events) volumes) same ∙ after_in_parts extents events (left_by extents event volumes) m n

-- one event more
pub after_one_more : (extents : ExtentLayout) (events : List Event) (volumes : VolumeMap) (n : ℕ) (d : Event) → n < length events
    → after extents events volumes (n + 1) ≡ left_by extents (get_or events n d) (after extents events volumes n)
after_one_more extents events volumes n d within =
    after_in_parts extents events volumes n 1 ∙ ap (λ rest. after extents rest (after extents events volumes n) 1) (drop_more events n d within)

-- a refused event changes nothing
pub after_refused : (extents : ExtentLayout) (events : List Event) (volumes : VolumeMap) (n : ℕ) (command : Command) (refusal : Refusal) (d : Event)
    → n < length events
    → get_or events n d ≡ OnVolumes command
    → reply_to extents command (after extents events volumes n) ≡ Refused refusal → after extents events volumes (n + 1) ≡ after extents events volumes n
after_refused extents events volumes n command refusal d within is_this refused =
    let left = after extents events volumes n in
    after_one_more extents events volumes n d within ∙ ap (λ event. left_by extents event left) is_this
    ∙ refused_changes_nothing extents command left refusal refused

-- each event keeps the limits
event_keeps : (extents : ExtentLayout) (event : Event) (volumes : VolumeMap) → IsEvent event → AreVolumes extents volumes
    → AreVolumes extents (left_by extents event volumes)
event_keeps extents (OnVolumes command) volumes has are = step_keeps extents command volumes has are
event_keeps extents (OnSet command) volumes has are = are

pub events_keep : (extents : ExtentLayout) (events : List Event) (volumes : VolumeMap) (n : ℕ) → All IsEvent events → AreVolumes extents volumes
    → AreVolumes extents (after extents events volumes n)
events_keep extents events volumes zero all are = are
events_keep extents [] volumes (suc n) all are = are
events_keep extents (event ∷ events) volumes (suc n) all are =
    events_keep extents events (left_by extents event volumes) n (All-tail IsEvent event events all)
    (event_keeps extents event volumes (All-head IsEvent event events all) are)
