-- What the words on volumes keep.
use Rattle.std.proofs.Common.{◌≡◌, ℕ, ◌+◌, ◌≤◌, Bool, true, false, cond, not, List, [], ◌∷◌, length, All, Option, Some, None, refl, sym, ap, ap₂, subst, ◌∙◌}
use Rattle.std.proofs.Common.{arith}
use Rattle.std.specs.declared.cmp.Ordering.{Ordering}
use Rattle.std.specs.declared.cmp.Ordering.TheVariants.{Less, Equal, Greater}
use Rattle.std.specs.Ordering.{match_ordering, is_eq, ordering_reverse}
use Rattle.std.specs.List.{AllByRecursion}
use Rattle.std.specs.List.Sorted.{IsStrictlySortedBy}
use Rattle.std.proofs.lemmas.Bool.{false≢true, true≢false}
use Rattle.std.proofs.lemmas.Cmp.{nat_list_cmp_total, tied_itself}
use Rattle.std.proofs.lemmas.Map.Lookups.{exact_bytes}
use Rattle.std.proofs.lemmas.List.Elements.{All-cons, All-head, All-tail}
use Rattle.std.proofs.lemmas.Option.{none-some, same_Some}
use Rattle.volume_table.specs.Names.{name_order, is_same_name}
use Rattle.extents.specs.VolumeTables.{extents_for}
use Rattle.volume_table.specs.Volumes.{Block, Volume, VolumeList, names, blocks_of, with_volume, without, need}

-- a name is itself
pub same_name_itself : (name : List ℕ) → is_same_name name name ≡ true
same_name_itself name = ap is_eq (tied_itself nat_list_cmp_total name)

-- names of the same bytes are one name
pub same_name_is : (first second : List ℕ) → is_same_name first second ≡ true → first ≡ second
same_name_is first second same = by_case (name_order first second) refl same
  where
    by_case : (o : Ordering) → name_order first second ≡ o → is_eq o ≡ true → first ≡ second
    by_case Less e h = absurd (false≢true h)
    by_case Equal e h = exact_bytes first second e
    by_case Greater e h = absurd (false≢true h)

-- what is above is above from the other side
order_back : (first second : List ℕ) → name_order first second ≡ Greater → name_order second first ≡ Less
order_back first second e = nat_list_cmp_total.antisymm second first ∙ ap ordering_reverse e

-- the name is below all names of these volumes
abbrev pub Below : List ℕ → VolumeList → Type 0
Below name volumes = AllByRecursion (λ other. name_order name other ≡ Less) (names volumes)

-- the names of these volumes rise
abbrev pub Rising : VolumeList → Type 0
Rising volumes = IsStrictlySortedBy name_order (names volumes)

-- what is below a lower bound is below all
below_below : (first second : List ℕ) (volumes : VolumeList) → name_order first second ≡ Less → Below second volumes → Below first volumes
below_below first second [] less below = tt
below_below first second (volume ∷ volumes) less below =
    (nat_list_cmp_total.trans first second volume.name less below.0, below_below first second volumes less below.1)

-- no volume has a name below all names
pub none_below : (name : List ℕ) (volumes : VolumeList) → Below name volumes → blocks_of name volumes ≡ None
none_below name [] below = refl
none_below name (volume ∷ volumes) below =
    ap (λ o. cond (is_eq o) (Some volume.blocks) (blocks_of name volumes)) below.0 ∙ none_below name volumes below.1

below_with_volume : (name : List ℕ) (new : Volume) (volumes : VolumeList) → name_order name new.name ≡ Less → Below name volumes
    → Below name (with_volume new volumes)
below_with_volume name new [] less below = (less, tt)
below_with_volume name new (volume ∷ volumes) less below = by_case (below_with_volume name new volumes less below.1) (name_order new.name volume.name)
  where
    by_case : (Below name (with_volume new volumes)) → (o : Ordering)
        → Below name (match_ordering o (new ∷ volume ∷ volumes) (new ∷ volumes) (volume ∷ with_volume new volumes))
    by_case rec Less = (less, below)
    by_case rec Equal = (less, below.1)
    by_case rec Greater = (below.0, rec)

-- names stay in their order when a volume is put among them
pub rising_with_volume : (new : Volume) (volumes : VolumeList) → Rising volumes → Rising (with_volume new volumes)
unfolding IsStrictlySortedBy
rising_with_volume new [] rising = (tt, tt)
rising_with_volume new (volume ∷ volumes) rising = by_case (rising_with_volume new volumes rising.1) (name_order new.name volume.name) refl
  where
    by_case : (Rising (with_volume new volumes)) → (o : Ordering) → name_order new.name volume.name ≡ o
        → Rising (match_ordering o (new ∷ volume ∷ volumes) (new ∷ volumes) (volume ∷ with_volume new volumes))
    by_case rec Less e = ((e, below_below new.name volume.name volumes e rising.0), rising)
    by_case rec Equal e = (subst (λ name. Below name volumes) (sym (exact_bytes new.name volume.name e)) rising.0, rising.1)
    by_case rec Greater e = (below_with_volume volume.name new volumes (order_back new.name volume.name e) rising.0, rec)

-- what holds of the volumes and of the new one holds of all
pub All-with_volume : (P : Volume → Type 0) (new : Volume) (volumes : VolumeList) → P new → All P volumes → All P (with_volume new volumes)
All-with_volume P new [] one all = All-cons P new [] one all
All-with_volume P new (volume ∷ volumes) one all = by_case (All-with_volume P new volumes one (All-tail P volume volumes all)) (name_order new.name volume.name)
  where
    rest : All P volumes
    rest = All-tail P volume volumes all

    by_case : (All P (with_volume new volumes)) → (o : Ordering)
        → All P (match_ordering o (new ∷ volume ∷ volumes) (new ∷ volumes) (volume ∷ with_volume new volumes))
    by_case rec Less = All-cons P new (volume ∷ volumes) one all
    by_case rec Equal = All-cons P new volumes one rest
    by_case rec Greater = All-cons P volume (with_volume new volumes) (All-head P volume volumes all) rec

-- a number of each volume, over all volumes
total : (List Block → ℕ) → VolumeList → ℕ
total f [] = 0
total f (volume ∷ volumes) = f volume.blocks + total f volumes

-- a number of blocks that may be there
of_found : (List Block → ℕ) → Option (List Block) → ℕ
of_found f None = 0
of_found f (Some blocks) = f blocks

total_with_volume : (f : List Block → ℕ) (new : Volume) (volumes : VolumeList) → Rising volumes
    → total f (with_volume new volumes) + of_found f (blocks_of new.name volumes) ≡ total f volumes + f new.blocks
unfolding IsStrictlySortedBy total of_found
total_with_volume f new [] rising = omega arith
total_with_volume f new (volume ∷ volumes) rising = by_case (total_with_volume f new volumes rising.1) (name_order new.name volume.name) refl
  where
    by_case : (total f (with_volume new volumes) + of_found f (blocks_of new.name volumes) ≡ total f volumes + f new.blocks) → (o : Ordering)
        → name_order new.name volume.name ≡ o
        → total f (match_ordering o (new ∷ volume ∷ volumes) (new ∷ volumes) (volume ∷ with_volume new volumes))
        + of_found f (cond (is_eq o) (Some volume.blocks) (blocks_of new.name volumes)) ≡ f volume.blocks + total f volumes + f new.blocks
    by_case rec Less e =
        let none : of_found f (blocks_of new.name volumes) ≡ 0 =
        ap (of_found f) (none_below new.name volumes (below_below new.name volume.name volumes e rising.0)) in
        omega (arith, none)
    by_case rec Equal e = omega arith
    by_case rec Greater e = omega (arith, rec)

length_is_total : (volumes : VolumeList) → length volumes ≡ total (λ blocks. 1) volumes
unfolding total
length_is_total [] = refl
length_is_total (volume ∷ volumes) = omega (arith, length_is_total volumes)

need_is_total : (each : ℕ) (volumes : VolumeList) → need each volumes ≡ total (λ blocks. extents_for each (length blocks)) volumes
unfolding total
need_is_total each [] = refl
need_is_total each (volume ∷ volumes) = ap (λ n. extents_for each (length volume.blocks) + n) (need_is_total each volumes)

-- one volume more where there was none of this name
pub length-with_new : (new : Volume) (volumes : VolumeList) → Rising volumes → blocks_of new.name volumes ≡ None
    → length (with_volume new volumes) ≡ length volumes + 1
unfolding of_found
length-with_new new volumes rising none =
    let one : of_found (λ blocks. 1) (blocks_of new.name volumes) ≡ 0 = ap (of_found (λ blocks. 1)) none in
    omega (arith, one, length_is_total volumes, length_is_total (with_volume new volumes), total_with_volume (λ blocks. 1) new volumes rising)

pub need-with_new : (each : ℕ) (new : Volume) (volumes : VolumeList) → Rising volumes → blocks_of new.name volumes ≡ None
    → need each (with_volume new volumes) ≡ need each volumes + extents_for each (length new.blocks)
unfolding of_found
need-with_new each new volumes rising none =
    let f : List Block → ℕ = λ blocks. extents_for each (length blocks) in
    let one : of_found f (blocks_of new.name volumes) ≡ 0 = ap (of_found f) none in
    omega (arith, one, need_is_total each volumes, need_is_total each (with_volume new volumes), total_with_volume f new volumes rising)

-- as many volumes where there was one of this name
pub length-with_other : (new : Volume) (volumes : VolumeList) (blocks : List Block) → Rising volumes → blocks_of new.name volumes ≡ Some blocks
    → length (with_volume new volumes) ≡ length volumes
unfolding of_found
length-with_other new volumes blocks rising some =
    let one : of_found (λ blocks. 1) (blocks_of new.name volumes) ≡ 1 = ap (of_found (λ blocks. 1)) some in
    omega (arith, one, length_is_total volumes, length_is_total (with_volume new volumes), total_with_volume (λ blocks. 1) new volumes rising)

pub need-with_other : (each : ℕ) (new : Volume) (volumes : VolumeList) (blocks : List Block) → Rising volumes → blocks_of new.name volumes ≡ Some blocks
    → need each (with_volume new volumes) + extents_for each (length blocks) ≡ need each volumes + extents_for each
    (length new.blocks)
unfolding of_found
need-with_other each new volumes blocks rising some =
    let f : List Block → ℕ = λ blocks. extents_for each (length blocks) in
    let one : of_found f (blocks_of new.name volumes) ≡ extents_for each (length blocks) = ap (of_found f) some in
    omega (arith, one, need_is_total each volumes, need_is_total each (with_volume new volumes), total_with_volume f new volumes rising)

-- the volume that was put is found
pub found_with_volume : (new : Volume) (volumes : VolumeList) → blocks_of new.name (with_volume new volumes) ≡ Some new.blocks
found_with_volume new [] = ap (λ (b : Bool). cond b (Some new.blocks) None) (same_name_itself new.name)
found_with_volume new (volume ∷ volumes) = by_case (found_with_volume new volumes) (name_order new.name volume.name) refl
  where
    first : (rest : VolumeList) → blocks_of new.name (new ∷ rest) ≡ Some new.blocks
    first rest = ap (λ (b : Bool). cond b (Some new.blocks) (blocks_of new.name rest)) (same_name_itself new.name)

    by_case : (blocks_of new.name (with_volume new volumes) ≡ Some new.blocks) → (o : Ordering) → name_order new.name volume.name ≡ o
        → blocks_of new.name (match_ordering o (new ∷ volume ∷ volumes) (new ∷ volumes) (volume ∷ with_volume new volumes)) ≡ Some new.blocks
    by_case rec Less e = first (volume ∷ volumes)
    by_case rec Equal e = first volumes
    by_case rec Greater e = ap (λ o. cond (is_eq o) (Some volume.blocks) (blocks_of new.name (with_volume new volumes))) e ∙ rec

-- names that differ are told apart
pub other_name : (first second : List ℕ) → (first ≡ second → ⊥) → is_same_name first second ≡ false
other_name first second apart = by_case (is_same_name first second) refl
  where
    by_case : (b : Bool) → is_same_name first second ≡ b → b ≡ false
    by_case true e = absurd (apart (same_name_is first second e))
    by_case false e = refl

-- the volumes of other names stay
pub others_with_volume : (name : List ℕ) (new : Volume) (volumes : VolumeList) → (name ≡ new.name → ⊥)
    → blocks_of name (with_volume new volumes) ≡ blocks_of name volumes
others_with_volume name new [] apart = ap (λ (b : Bool). cond b (Some new.blocks) None) (other_name name new.name apart)
others_with_volume name new (volume ∷ volumes) apart = by_case (others_with_volume name new volumes apart) (name_order new.name volume.name) refl
  where
    skip : (blocks : List Block) (rest : Option (List Block)) (other : List ℕ) → (name ≡ other → ⊥) → cond (is_same_name name other) (Some blocks) rest ≡ rest
    skip blocks rest other differ = ap (λ (b : Bool). cond b (Some blocks) rest) (other_name name other differ)

    by_case : (blocks_of name (with_volume new volumes) ≡ blocks_of name volumes) → (o : Ordering) → name_order new.name volume.name ≡ o
        → blocks_of name (match_ordering o (new ∷ volume ∷ volumes) (new ∷ volumes) (volume ∷ with_volume new volumes)) ≡ blocks_of name (volume ∷ volumes)
    by_case rec Less e = skip new.blocks (blocks_of name (volume ∷ volumes)) new.name apart
    by_case rec Equal e =
        skip new.blocks (blocks_of name volumes) new.name apart
        ∙ sym (skip volume.blocks (blocks_of name volumes) volume.name (λ same. apart (same ∙ sym (exact_bytes new.name volume.name e))))
    by_case rec Greater e = ap (λ rest. cond (is_same_name name volume.name) (Some volume.blocks) rest) rec

-- what holds of all volumes holds of the one that is found
pub found_has : (P : Volume → Type 0) (name : List ℕ) (volumes : VolumeList) (blocks : List Block) → All P volumes → blocks_of name volumes ≡ Some blocks
    → P (record { name = name; blocks = blocks })
found_has P name [] blocks all some = absurd (none-some blocks some)
found_has P name (volume ∷ volumes) blocks all some = by_case (found_has P name volumes blocks (All-tail P volume volumes all)) (is_same_name name volume.name)
    refl some
  where
    by_case : (blocks_of name volumes ≡ Some blocks → P (record { name = name; blocks = blocks })) → (b : Bool) → is_same_name name volume.name ≡ b
        → cond b (Some volume.blocks) (blocks_of name volumes) ≡ Some blocks → P (record { name = name; blocks = blocks })
    by_case rec true e h =
        subst (λ other. P (record { name = other; blocks = blocks })) (sym (same_name_is name volume.name e))
        (subst (λ others. P (record { name = volume.name; blocks = others })) (same_Some volume.blocks blocks h) (All-head P volume volumes all))
    by_case rec false e h = rec h

-- without a volume
below_without : (below name : List ℕ) (volumes : VolumeList) → Below below volumes → Below below (without name volumes)
below_without below name [] all = tt
below_without below name (volume ∷ volumes) all = by_case (below_without below name volumes all.1) (is_same_name name volume.name)
  where
    by_case : (Below below (without name volumes)) → (b : Bool) → Below below (cond (not b) (volume ∷ without name volumes) (without name volumes))
    by_case rec true = rec
    by_case rec false = (all.0, rec)

pub rising_without : (name : List ℕ) (volumes : VolumeList) → Rising volumes → Rising (without name volumes)
unfolding IsStrictlySortedBy
rising_without name [] rising = tt
rising_without name (volume ∷ volumes) rising = by_case (rising_without name volumes rising.1) (is_same_name name volume.name)
  where
    by_case : (Rising (without name volumes)) → (b : Bool) → Rising (cond (not b) (volume ∷ without name volumes) (without name volumes))
    by_case rec true = rec
    by_case rec false = (below_without volume.name name volumes rising.0, rec)

pub length-without : (name : List ℕ) (volumes : VolumeList) → length (without name volumes) ≤ length volumes
length-without name [] = omega arith
length-without name (volume ∷ volumes) = by_case (length-without name volumes) (is_same_name name volume.name)
  where
    by_case : (length (without name volumes) ≤ length volumes) → (b : Bool)
        → length (cond (not b) (volume ∷ without name volumes) (without name volumes)) ≤ length (volume ∷ volumes)
    by_case rec true = omega (arith, rec)
    by_case rec false = omega (arith, rec)

pub need-without : (each : ℕ) (name : List ℕ) (volumes : VolumeList) → need each (without name volumes) ≤ need each volumes
need-without each name [] = omega arith
need-without each name (volume ∷ volumes) = by_case (need-without each name volumes) (is_same_name name volume.name)
  where
    by_case : (need each (without name volumes) ≤ need each volumes) → (b : Bool)
        → need each (cond (not b) (volume ∷ without name volumes) (without name volumes)) ≤ need each (volume ∷ volumes)
    by_case rec true = omega (arith, rec)
    by_case rec false = omega (arith, rec)

-- no volume of this name is left
pub gone_without : (name : List ℕ) (volumes : VolumeList) → blocks_of name (without name volumes) ≡ None
gone_without name [] = refl
gone_without name (volume ∷ volumes) = by_case (gone_without name volumes) (is_same_name name volume.name) refl
  where
    by_case : (blocks_of name (without name volumes) ≡ None) → (b : Bool) → is_same_name name volume.name ≡ b
        → blocks_of name (cond (not b) (volume ∷ without name volumes) (without name volumes)) ≡ None
    by_case rec true e = rec
    by_case rec false e = ap (λ (b : Bool). cond b (Some volume.blocks) (blocks_of name (without name volumes))) e ∙ rec

-- the others stay
pub others_without : (other name : List ℕ) (volumes : VolumeList) → (other ≡ name → ⊥) → blocks_of other (without name volumes) ≡ blocks_of other volumes
others_without other name [] apart = refl
others_without other name (volume ∷ volumes) apart = by_case (others_without other name volumes apart) (is_same_name name volume.name) refl
  where
    by_case : (blocks_of other (without name volumes) ≡ blocks_of other volumes) → (b : Bool) → is_same_name name volume.name ≡ b
        → blocks_of other (cond (not b) (volume ∷ without name volumes) (without name volumes)) ≡ blocks_of other (volume ∷ volumes)
    by_case rec true e =
        rec
        ∙ sym (ap (λ (b : Bool). cond b (Some volume.blocks) (blocks_of other volumes))
        (other_name other volume.name (λ same. apart (same ∙ sym (same_name_is name volume.name e)))))
    by_case rec false e = ap (λ rest. cond (is_same_name other volume.name) (Some volume.blocks) rest) rec

-- volumes in their order are known by the blocks of each name
first_is_found : (volume : Volume) (volumes : VolumeList) → blocks_of volume.name (volume ∷ volumes) ≡ Some volume.blocks
first_is_found volume volumes = ap (λ (b : Bool). cond b (Some volume.blocks) (blocks_of volume.name volumes)) (same_name_itself volume.name)

-- who is found on one side alone
found_on_one_side : (volume : Volume) (volumes others : VolumeList) → Below volume.name others
    → ((name : List ℕ) → blocks_of name (volume ∷ volumes) ≡ blocks_of name others) → ⊥
found_on_one_side volume volumes others below same = none-some volume.blocks (sym (none_below volume.name others below) ∙ sym (same volume.name)
    ∙ first_is_found volume volumes)

-- where the first volumes have one name, the others agree as well
rest_agrees : (first second : Volume) (firsts seconds : VolumeList) → Below first.name firsts → Below second.name seconds → first.name ≡ second.name
    → ((name : List ℕ) → blocks_of name (first ∷ firsts) ≡ blocks_of name (second ∷ seconds)) → (name : List ℕ) → blocks_of name firsts ≡ blocks_of name seconds
rest_agrees first second firsts seconds below_first below_second one same name = by_case (is_same_name name first.name) refl
  where
    skip : (volume : Volume) (volumes : VolumeList) → is_same_name name volume.name ≡ false → blocks_of name (volume ∷ volumes) ≡ blocks_of name volumes
    skip volume volumes e = ap (λ (b : Bool). cond b (Some volume.blocks) (blocks_of name volumes)) e

    by_case : (b : Bool) → is_same_name name first.name ≡ b → blocks_of name firsts ≡ blocks_of name seconds
    by_case true e =
        let is_first : name ≡ first.name = same_name_is name first.name e in
        none_below name firsts (subst (λ n. Below n firsts) (sym is_first) below_first)
        ∙ sym (none_below name seconds (subst (λ n. Below n seconds) (sym (is_first ∙ one)) below_second))
    by_case false e = sym (skip first firsts e) ∙ same name ∙ skip second seconds (sym (ap (is_same_name name) one) ∙ e)

pub known_by_blocks : (first second : VolumeList) → Rising first → Rising second → ((name : List ℕ) → blocks_of name first ≡ blocks_of name second)
    → first ≡ second
unfolding IsStrictlySortedBy
known_by_blocks [] [] one two same = refl
known_by_blocks [] (volume ∷ volumes) one two same = absurd (found_on_one_side volume volumes [] tt (λ name. sym (same name)))
known_by_blocks (volume ∷ volumes) [] one two same = absurd (found_on_one_side volume volumes [] tt same)
known_by_blocks (first ∷ firsts) (second ∷ seconds) one two same =
    by_case (λ agree. known_by_blocks firsts seconds one.1 two.1 agree) (name_order first.name second.name) refl
  where
    by_case : (((name : List ℕ) → blocks_of name firsts ≡ blocks_of name seconds) → firsts ≡ seconds) → (o : Ordering) → name_order first.name second.name ≡ o
        → first ∷ firsts ≡ second ∷ seconds
    by_case rec Less e = absurd (found_on_one_side first firsts (second ∷ seconds) (e, below_below first.name second.name seconds e two.0) same)
    by_case rec Equal e =
        let name_same : first.name ≡ second.name = exact_bytes first.name second.name e in
        let found : Some first.blocks ≡ Some second.blocks =
        sym (first_is_found first firsts) ∙ same first.name ∙ ap (λ n. blocks_of n (second ∷ seconds)) name_same ∙ first_is_found second seconds in
        let blocks_same : first.blocks ≡ second.blocks = same_Some first.blocks second.blocks found in
        let volume : List ℕ → List Block → Volume = λ n others. record { name = n; blocks = others } in
        ap₂ (λ v vs. v ∷ vs) (ap₂ volume name_same blocks_same) (rec (rest_agrees first second firsts seconds one.0 two.0 name_same same))
    by_case rec Greater e =
        let less = order_back first.name second.name e in
        absurd (found_on_one_side second seconds (first ∷ firsts) (less, below_below second.name first.name firsts less one.0) (λ name. sym (same name)))

-- a volume that is taken away and put back
put_back : (name : List ℕ) (volumes : VolumeList) (blocks : List Block) → Rising volumes → blocks_of name volumes ≡ Some blocks
    → with_volume (record { name = name; blocks = blocks }) (without name volumes) ≡ volumes
put_back name volumes blocks rising some =
    known_by_blocks (with_volume it (without name volumes)) volumes (rising_with_volume it (without name volumes) (rising_without name volumes rising)) rising
    (λ other. by_name other (is_same_name other name) refl)
  where
    it : Volume
    it = record { name = name; blocks = blocks }

    by_name : (other : List ℕ) (b : Bool) → is_same_name other name ≡ b → blocks_of other (with_volume it (without name volumes)) ≡ blocks_of other volumes
    by_name other true e =
        let same : other ≡ name = same_name_is other name e in
        ap (λ n. blocks_of n (with_volume it (without name volumes))) same ∙ found_with_volume it (without name volumes) ∙ sym some
        ∙ ap (λ n. blocks_of n volumes) (sym same)
    by_name other false e =
        let apart : other ≡ name → ⊥ = λ same. true≢false (sym (same_name_itself name) ∙ ap (λ n. is_same_name n name) (sym same) ∙ e) in
        others_with_volume other it (without name volumes) apart ∙ others_without other name volumes apart

-- so there is one volume less without it, and they need as many extents less
pub length-without_one : (name : List ℕ) (volumes : VolumeList) (blocks : List Block) → Rising volumes → blocks_of name volumes ≡ Some blocks
    → length volumes ≡ length (without name volumes) + 1
length-without_one name volumes blocks rising some =
    ap length (sym (put_back name volumes blocks rising some))
    ∙ length-with_new (record { name = name; blocks = blocks }) (without name volumes) (rising_without name volumes rising) (gone_without name volumes)

pub need-without_one : (each : ℕ) (name : List ℕ) (volumes : VolumeList) (blocks : List Block) → Rising volumes → blocks_of name volumes ≡ Some blocks
    → need each volumes ≡ need each (without name volumes) + extents_for each (length blocks)
need-without_one each name volumes blocks rising some =
    ap (need each) (sym (put_back name volumes blocks rising some))
    ∙ need-with_new each (record { name = name; blocks = blocks }) (without name volumes) (rising_without name volumes rising) (gone_without name volumes)
