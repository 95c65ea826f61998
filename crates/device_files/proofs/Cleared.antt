-- Bytes that are written at the beginning of a file, and files whose superblock places are cleared.
use Rattle.std.proofs.Common.{◌≡◌, ◌∙◌, ◌+◌, ◌-◌, ◌<◌, ◌≤◌, ⊎_elim, ℕ, List, ◌++◌, ap, arith, drop, get_or, length, min, refl, replicate, subst, sym, take}
use Rattle.std.specs.Prelude.{Bool, Err, IsTrue, Ok, OnOk, Option, Result}
use Rattle.std.proofs.lemmas.Bool.{cases_lt}
use Rattle.std.proofs.lemmas.List.{drop_all, ext_get_or, get_or-append-add, get_or-drop, get_or_append_left, length-append, length-drop, length-replicate}
use Rattle.std.proofs.lemmas.List.{get_or-take, length-take, take-replicate}
use Rattle.sector_model.specs.DeviceFiles.{Contents, IsWritten}
use Rattle.sector_model.proofs.DeviceParts.{written_more}
use Rattle.device_files.specs.declared.FolderFault.{FolderFault}
use Rattle.device_files.specs.declared.FolderFault.TheVariants.{NoFile}
use Rattle.device_files.specs.BankFiles.{contents_of}
use Rattle.device_files.specs.DeviceFiles.{IsStillOpen, file_in}
use Rattle.device_files.specs.SlotCalls.{IsClearedUpTo}
use Rattle.device_files.specs.Superblocks.{without_places}

-- what follows a call follows it where it was answered well
pub where_ok : {T E : Type 0} (result : Result T E) (P : Type 0) → P → OnOk result P
where_ok (Ok value) P is = is
where_ok (Err fault) P is = tt

-- a further part was written after the first
pub front_more : {a b c : Contents} (done n : ℕ) (from : List ℕ) → n ≤ length (take (length from - done) (drop done from)) → IsWritten 0 done from a b
    → IsWritten done n (take (length from - done) (drop done from)) b c → IsWritten 0 (done + n) from a c
front_more {a = a} {b = b} {c = c} done n from bound before part =
    let at : done ≡ 0 + done = omega arith in
    written_more {a = a} {b = b} {c = c} 0 done n (done + n) from (take (length from - done) (drop done from)) refl bound each before
    (subst (λ (p : ℕ). IsWritten p n (take (length from - done) (drop done from)) b c) at part)
  where
    each : (k : ℕ) → k < length (take (length from - done) (drop done from)) → get_or (take (length from - done) (drop done from)) k 0 ≡ get_or from (done + k)
        0
    each k under =
        let below : k < length from - done = omega (arith, under, length-take (length from - done) (drop done from)) in
        get_or-take (length from - done) (drop done from) k 0 below ∙ get_or-drop done from k 0

-- what was written at the beginning stands before what stood after it
pub front_written : (from old new safe_old safe_new : List ℕ) → length from ≤ length old
    → IsWritten 0 (length from) from (contents_of old safe_old) (contents_of new safe_new) → new ≡ from ++ drop (length from) old
front_written from old new safe_old safe_new within is = ext_get_or 0 new (from ++ drop (length from) old) same
    (λ i under. ⊎_elim (put i) (rest i) (cases_lt i (length from)))
  where
    same : length new ≡ length (from ++ drop (length from) old)
    same = is.size ∙ omega (arith, within, length-append from (drop (length from) old), length-drop (length from) old)

    put : (i : ℕ) → i < length from → get_or new i 0 ≡ get_or (from ++ drop (length from) old) i 0
    put i lt =
        let at : 0 + i ≡ i = omega arith in
        subst (λ (p : ℕ). get_or new p 0 ≡ get_or from i 0) at (is.put i lt) ∙ sym (get_or_append_left from (drop (length from) old) 0 i lt)

    rest : (i : ℕ) → length from ≤ i → get_or new i 0 ≡ get_or (from ++ drop (length from) old) i 0
    rest i ge =
        let beyond : 0 + length from ≤ i = omega (arith, ge) in
        let at : i ≡ length from + (i - length from) = omega (arith, ge) in
        is.above i beyond ∙ ap (λ (p : ℕ). get_or old p 0) at ∙ sym (get_or-drop (length from) old (i - length from) 0)
        ∙ sym (ap (λ (p : ℕ). get_or (from ++ drop (length from) old) p 0) at ∙ get_or-append-add from (drop (length from) old) (i - length from) 0)

-- so far were the files cleared, where the file of a slot is named
pub cleared_up_to : {F : Type 0} (tells : Bool) (told : F → List ℕ) (first slot : ℕ) (was is : List (Option F)) (fault : FolderFault) → fault ≡ NoFile slot
    → (IsTrue tells → (lower : ℕ) → first ≤ lower → lower < slot
    → IsStillOpen (file_in was lower) (file_in is lower) (λ old new. told new ≡ without_places (told old)))
    → ((higher : ℕ) → slot < higher → file_in is higher ≡ file_in was higher) → IsClearedUpTo tells told first was is fault
cleared_up_to tells told first slot was is fault named lower higher = subst (IsClearedUpTo tells told first was is) (sym named) (lower, higher)

-- what holds so many zeros at its beginning, as far as the file reaches, is cleared
pub front_cleared : (new mid old : List ℕ) (most n : ℕ) → n ≡ min (length old) most → new ≡ mid
    → mid ≡ take n (replicate {A = ℕ} most 0) ++ drop (length (take n (replicate {A = ℕ} most 0))) old
    → new ≡ replicate {A = ℕ} (min most (length old)) 0 ++ drop most old
front_cleared new mid old most n is same written =
    let few : n ≤ most = omega (arith, is) in
    let zeros : take n (replicate {A = ℕ} most 0) ≡ replicate {A = ℕ} n 0 = take-replicate n most 0 few in
    let count : n ≡ min most (length old) = omega (arith, is) in
    same ∙ written ∙ rw (zeros, length-replicate {A = ℕ} n 0) (ap (λ (k : ℕ). replicate {A = ℕ} k 0 ++ drop n old) count
    ∙ ap (λ (l : List ℕ). replicate {A = ℕ} (min most (length old)) 0 ++ l) after)
  where
    after : drop n old ≡ drop most old
    after = ⊎_elim
        (λ (lt : length old < most). let all : length old ≤ n = omega (arith, is, lt) in
        let past : length old ≤ most = omega (arith, lt) in drop_all n old all ∙ sym (drop_all most old past))
        (λ (ge : most ≤ length old). let whole : n ≡ most = omega (arith, is, ge) in ap (λ (k : ℕ). drop k old) whole) (cases_lt (length old) most)
