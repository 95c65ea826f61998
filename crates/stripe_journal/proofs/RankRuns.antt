-- Where the sectors of runs stand in a body, run by run.
use Rattle.std.proofs.Common.{◌≡◌, ℕ, zero, suc, ◌+◌, ◌-◌, ◌*◌, ◌<◌, ◌≤◌, Bool, true, false, cond, List, [], ◌∷◌, ◌++◌, length, drop, take, replicate}
use Rattle.std.proofs.Common.{get_or, refl, sym, subst, ap, ◌∙◌, arith, append_assoc, length-append, Option, Some, None}
use Rattle.std.specs.Prelude.{◌==◌, ◌&&◌, nat_lt, option_and_then, IfSome}
use Rattle.std.proofs.Math.Seq.{take-append-add}
use Rattle.std.proofs.lemmas.Bool.{lt-ltb}
use Rattle.std.proofs.lemmas.List.{at_drop_more, get_or-append-add, get_or-replicate, get_or_append_left, length-replicate, take-append-le, take-replicate}
use Rattle.std.proofs.lemmas.List.{append-nil}
use Rattle.arrayvec.specs.ArrayVec.{ArrayVec}
use Rattle.entry_runs.specs.declared.run.Run.{Run}
use Rattle.entry_runs.specs.declared.runs.Runs as of_runs
use Rattle.entry_runs.specs.Body.{bits_below, has_bit, has_row, run_of}
use Rattle.entry_runs.specs.Runs.{run_at}
use Rattle.entry_runs.specs.WrittenOut.{masks_of_runs, rows_of_runs}
use Rattle.entry_runs.proofs.ByRun.{row_found}
use Rattle.entry_runs.proofs.Lookups.{fit_rise, row_in, run_later}
use Rattle.entry_runs.proofs.Rows.{length-masks, mask_of_row, row_written}
use Rattle.layout_map.specs.Formats.{body_sectors}
use Rattle.layout_map.specs.declared.sizes.TheConstants.{MOST_MEMBERS}
use Rattle.stripe_journal.specs.declared.form.Form.{Form}
use Rattle.stripe_journal.specs.declared.form.Form.TheVariants.{Held, Runs, Whole}
use Rattle.stripe_journal.specs.Body.{place_in, rank_at, rank_by_row, zero_at}
use Rattle.stripe_journal.specs.Forms.{IsForm, format_of, held_by_masks, in_body, mask_at, rank, rows_in}
use Rattle.stripe_journal.specs.Seals.{row_at}
use Rattle.stripe_journal.proofs.HeldRuns.{before_masks, held_by_both, held_by_same, held_listed, runs_rows}
use Rattle.stripe_journal.proofs.Bodies.{part_below}
use Rattle.stripe_journal.proofs.Masks.{rank_whole}
use Rattle.stripe_journal.proofs.Places.{no_row_without_place, place_of_row, row_of_place}

-- the masks of the runs before one, of its rows, and of the runs after it
masks_split : (list : List Run) (i : ℕ) → i < length list
    → masks_of_runs list ≡ masks_of_runs (take i list) ++ (replicate (run_at list i).length (run_at list i).mask ++ masks_of_runs (drop (suc i) list))
masks_split [] i within = absurd (omega (arith, within))
masks_split (run ∷ list) zero within = refl
masks_split (run ∷ list) (suc i) within =
    let front = replicate run.length run.mask in
    ap (λ (xs : List ℕ). front ++ xs) (masks_split list i (omega (arith, within)))
    ∙ sym (append_assoc front (masks_of_runs (take i list))
    (replicate (run_at list i).length (run_at list i).mask ++ masks_of_runs (drop (suc i) list)))

masks_both : (list : List Run) (i : ℕ) → masks_of_runs list ≡ masks_of_runs (take i list) ++ masks_of_runs (drop i list)
masks_both list zero = refl
masks_both [] (suc i) = refl
masks_both (run ∷ list) (suc i) =
    let front = replicate run.length run.mask in
    ap (λ (xs : List ℕ). front ++ xs) (masks_both list i) ∙ sym (append_assoc front (masks_of_runs (take i list)) (masks_of_runs (drop i list)))

-- what the runs before one hold
pub held_so_far : (members : ℕ) (list : List Run) (i before : ℕ)
    → held_by_masks members (masks_of_runs list) ≡ before + held_by_masks members (masks_of_runs (drop i list))
    → before ≡ held_by_masks members (masks_of_runs (take i list))
held_so_far members list i before sum =
    let all = ap (held_by_masks members) (masks_both list i) ∙ held_by_both members (masks_of_runs (take i list)) (masks_of_runs (drop i list)) in
    omega (arith, sum, all)

-- the k-th row of a run, among all

module _ (list : List Run) (i k : ℕ) (within : i < length list) (inner : k < (run_at list i).length) where
  before : List ℕ
  before = masks_of_runs (take i list)

  own : List ℕ
  own = replicate (run_at list i).length (run_at list i).mask

  after : List ℕ
  after = masks_of_runs (drop (suc i) list)

  place : ℕ
  place = length (rows_of_runs (take i list)) + k

  split : masks_of_runs list ≡ before ++ (own ++ after)
  unfolding before own after
  split = masks_split list i within

  place_is : place ≡ length before + k
  unfolding place before
  place_is = omega (arith, length-masks (take i list))

  own_long : length own ≡ (run_at list i).length
  unfolding own
  own_long = length-replicate (run_at list i).length (run_at list i).mask

  place_within : place < length (masks_of_runs list)
  place_within = omega (arith, place_is, ap length split, length-append before (own ++ after), length-append own after, own_long, inner)

  mask_there : mask_at (masks_of_runs list) place ≡ (run_at list i).mask
  unfolding own
  mask_there =
      ap (λ (n : ℕ). mask_at (masks_of_runs list) n) place_is ∙ ap (λ (xs : List ℕ). get_or xs (length before + k) 0) split
      ∙ get_or-append-add before (own ++ after) k 0 ∙ get_or_append_left own after 0 k (omega (arith, own_long, inner)) ∙ own_there
    where
      own_there : get_or own k 0 ≡ (run_at list i).mask
      own_there = get_or-replicate (run_at list i).length k (run_at list i).mask 0 inner

  taken : take place (masks_of_runs list) ≡ before ++ replicate k (run_at list i).mask
  unfolding own
  taken =
      ap (λ (n : ℕ). take n (masks_of_runs list)) place_is ∙ ap (take (length before + k)) split ∙ take-append-add before (own ++ after) k
      ∙ ap (λ (xs : List ℕ). before ++ xs) (take-append-le k own after (omega (arith, own_long, inner)) ∙ own_taken)
    where
      own_taken : take k own ≡ replicate k (run_at list i).mask
      own_taken = take-replicate k (run_at list i).length (run_at list i).mask (omega (arith, inner))

  held_there : (members : ℕ) → held_by_masks members (take place (masks_of_runs list))
      ≡ held_by_masks members (masks_of_runs (take i list)) + k * bits_below (run_at list i).mask members
  unfolding before
  held_there members =
      let last = held_by_same members k (run_at list i).mask [] in
      let same : held_by_masks members (replicate k (run_at list i).mask) ≡ k * bits_below (run_at list i).mask members =
      ap (held_by_masks members) (sym (append-nil (replicate k (run_at list i).mask))) ∙ last ∙ omega arith in
      ap (held_by_masks members) taken ∙ held_by_both members (masks_of_runs (take i list)) (replicate k (run_at list i).mask)
      ∙ ap (λ (n : ℕ). held_by_masks members (masks_of_runs (take i list)) + n) same

-- the place of a sector in a body of runs
pub rank_found : (members : ℕ) (runs : of_runs.Runs) (i row member : ℕ) → i < length runs.list.items → has_row (run_at runs.list.items i) row ≡ true
    → rank_by_row members (Runs runs) row member
    ≡ cond (has_bit (run_at runs.list.items i).mask member)
    (Some (held_by_masks members (masks_of_runs (take i runs.list.items)) + (row - (run_at runs.list.items i).first)
    * bits_below (run_at runs.list.items i).mask members + bits_below (run_at runs.list.items i).mask member)) None
unfolding place
rank_found members runs i row member within here =
    let list = runs.list.items in
    let run = run_at list i in
    let rows = row_in run row here in
    let k = row - run.first in
    let inner : k < run.length = omega (arith, rows.0, rows.1) in
    let at = place list i k within inner in
    let masks = masks_of_runs list in
    let there : row_at (rows_of_runs list) at ≡ row = row_found list i k within inner ∙ omega (arith, rows.0) in
    let at_within : at < length (rows_of_runs list) = omega (arith, place_within list i k within inner, length-masks list) in
    let found : place_in (rows_of_runs list) row ≡ Some at =
    ap (place_in (rows_of_runs list)) (sym there) ∙ place_of_row (rows_of_runs list) at (runs_rows list runs.allowed).rising at_within in
    let mask_is = mask_there list i k within inner in
    let before = before_masks members (Runs runs) masks at (λ n m. refl) (omega (arith, at_within, length-masks list))
    ∙ held_there list i k within inner members in
    ap (λ (o : Option ℕ). option_and_then (λ n. rank_at members (Runs runs) n member) o) found
    ∙ ap (λ (n : ℕ). cond (has_bit (mask_at masks at) member) (Some (n + bits_below (mask_at masks at) member)) None) before
    ∙ ap (λ (mask : ℕ). cond (has_bit mask member) (Some (held_by_masks members (masks_of_runs (take i list)) + k * bits_below run.mask members
    + bits_below mask member)) None) mask_is

-- none has a row that no run has
pub place_of_no_run : (runs : of_runs.Runs) (row : ℕ) → run_of runs.list.items row ≡ None → place_in (rows_of_runs runs.list.items) row ≡ None
place_of_no_run runs row none = by_place (place_in (rows_of_runs runs.list.items) row) refl
  where
    by_place : (o : Option ℕ) → place_in (rows_of_runs runs.list.items) row ≡ o → place_in (rows_of_runs runs.list.items) row ≡ None
    by_place None is = is
    by_place (Some at) is =
        let list = runs.list.items in
        let there = row_of_place (rows_of_runs list) row at is in
        let found = mask_of_row list at (fit_rise list runs.allowed.fit) there.0 in
        let run : run_of list row ≡ Some found.0 = ap (run_of list) (sym there.1) ∙ found.1 in
        let no : None ≡ Some found.0 = sym none ∙ run in
        absurd (cc)

pub no_rank : (members : ℕ) (runs : of_runs.Runs) (row member : ℕ) → run_of runs.list.items row ≡ None → rank_by_row members (Runs runs) row member ≡ None
no_rank members runs row member none =
    ap (λ (o : Option ℕ). option_and_then (λ n. rank_at members (Runs runs) n member) o) (place_of_no_run runs row none)

-- a row of zeros is one of a run without a mask
pub zero_of_run : (members : ℕ) (runs : of_runs.Runs) (row member : ℕ) (run : Run) → run_of runs.list.items row ≡ Some run
    → zero_at members (Runs runs) (place_in (rows_of_runs runs.list.items) row) member ≡ ((run.mask == 0) && nat_lt member members)
zero_of_run members runs row member run is = by_place (place_in (rows_of_runs runs.list.items) row) refl
  where
    by_place : (o : Option ℕ) → place_in (rows_of_runs runs.list.items) row ≡ o
        → zero_at members (Runs runs) o member ≡ ((run.mask == 0) && nat_lt member members)
    by_place None none =
        let written = row_written runs.list.items row run is in
        absurd (no_row_without_place (rows_of_runs runs.list.items) row written.0 none written.1 written.2)
    by_place (Some at) found =
        let there = row_of_place (rows_of_runs runs.list.items) row at found in
        let own = mask_of_row runs.list.items at (fit_rise runs.list.items runs.allowed.fit) there.0 in
        let same : own.0 ≡ run = one_run (sym own.1 ∙ ap (run_of runs.list.items) there.1 ∙ is) in
        ap (λ (mask : ℕ). (mask == 0) && nat_lt member members) (sym own.2 ∙ ap (λ (r : Run). r.mask) same)
      where
        one_run : {a b : Run} → Some a ≡ Some b → a ≡ b
        one_run is = cc

-- the runs from one on that has not the row
pub left_on : (list : List Run) (i row : ℕ) → i < length list → has_row (run_at list i) row ≡ false
    → run_of list row ≡ run_of (drop i list) row → run_of list row ≡ run_of (drop (i + 1) list) row
left_on list i row within isnt left =
    left ∙ at_drop_more (λ (xs : List Run). run_of xs row) list i (record { first = 0; length = 0; mask = 0 }) within
    ∙ run_later (run_at list i) (drop (i + 1) list) row isnt

-- of listed rows

at_row : (members : ℕ) (form : Form) (row i member : ℕ) → place_in (rows_in form) row ≡ Some i
    → rank_by_row members form row member ≡ rank_at members form i member
at_row members form row i member there = ap (λ (o : Option ℕ). option_and_then (λ n. rank_at members form n member) o) there

pub whole_rank : (rows : ArrayVec ℕ) (members row i member : ℕ) → member < members → place_in rows.items row ≡ Some i
    → rank_by_row members (Whole rows) row member ≡ Some (i * members + member)
whole_rank rows members row i member within there =
    at_row members (Whole rows) row i member there
    ∙ ap (λ (b : Bool). cond b (Some (rank members (Whole rows) i member)) None) (lt-ltb member members within)
    ∙ ap Some (rank_whole rows members i member (omega (arith, within)))

pub held_rank : (rows : ArrayVec ℕ) (masks : List ℕ) (members row i member : ℕ) → i ≤ length masks → place_in rows.items row ≡ Some i
    → has_bit (mask_at masks i) member ≡ true
    → rank_by_row members (Held rows masks) row member ≡ Some (held_by_masks members (take i masks) + bits_below (mask_at masks i) member)
held_rank rows masks members row i member within there bit =
    at_row members (Held rows masks) row i member there
    ∙ ap (λ (b : Bool). cond b (Some (rank members (Held rows masks) i member)) None) bit
    ∙ ap (λ (n : ℕ). Some (n + bits_below (mask_at masks i) member)) (held_listed members rows masks i within)

-- each is below the sectors of a half
pub rank_few : (members : ℕ) (form : Form) (row member : ℕ) (result : Option ℕ) → members ≤ MOST_MEMBERS → member < members → IsForm form
    → result ≡ rank_by_row members form row member → IfSome result (λ k. k < body_sectors (format_of form))
rank_few members form row member result few within formed is =
    subst (λ (o : Option ℕ). IfSome o (λ k. k < body_sectors (format_of form))) (sym is) (by_row (place_in (rows_in form) row) refl)
  where
    by_bit : (i : ℕ) (b : Bool) → i < length (rows_in form) → in_body members form i member ≡ b
        → IfSome (cond b (Some (rank members form i member)) None) (λ k. k < body_sectors (format_of form))
    by_bit i false below bit = tt
    by_bit i true below bit = part_below members form i member few formed below within bit

    by_row : (o : Option ℕ) → place_in (rows_in form) row ≡ o
        → IfSome (option_and_then (λ i. rank_at members form i member) o) (λ k. k < body_sectors (format_of form))
    by_row None there = tt
    by_row (Some i) there = by_bit i (in_body members form i member) (row_of_place (rows_in form) row i there).0 refl
