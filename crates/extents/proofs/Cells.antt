-- Sectors full of cells of equal width.
use Rattle.std.proofs.Common.{◌≡◌, ℕ, zero, suc, ◌+◌, ◌-◌, ◌*◌, ◌/◌, ◌%◌, ◌<◌, ◌≤◌, ◌↔◌, List, [], ◌∷◌, ◌++◌, Option, Some, None, Result, Ok, Err, length, take}
use Rattle.std.proofs.Common.{take_all, drop, get_or, sym, ap, ◌∙◌, below_more, arith}
use Rattle.std.specs.Prelude.{IfOk, IsOk}
use Rattle.std.specs.Result.{result_ok}
use Rattle.std.proofs.lemmas.Bool.{false≢true}
use Rattle.std.specs.List.{flat_map}
use Rattle.std.proofs.lemmas.List.{length-append, length-take-le, length-drop, take-append-drop, take_at, drop_at, drop-drop, get_or-take, get_or-drop}
use Rattle.std.proofs.lemmas.List.{nil_from_length, take_more, append-nil, get_or_append_left, get_or_push}
use Rattle.std.proofs.lemmas.Slice.{take-put_mid}
use borrow.Rule.Slice.PartMut.{put_mid}
use Rattle.std.proofs.lemmas.List.Concat.{flat_map-append}
use Rattle.std.proofs.lemmas.Nat.{div-mul-add, mod-mul-add, div_below, mod_below, div-add-mod'}
use Rattle.std.proofs.Math.Nat.{mul-le-mul_right}
use Rattle.extents.specs.Cells.{cell}

module _ {X : Type 0} (f : X → List ℕ) (width : ℕ) (d : X) where
  -- each of these has so many bytes
  abbrev pub AreWide : List X → Type 0
  AreWide xs = (k : ℕ) → k < length xs → length (f (get_or xs k d)) ≡ width

  rest_wide : (x : X) (xs : List X) → AreWide (x ∷ xs) → AreWide xs
  rest_wide x xs wide k within = wide (suc k) (omega arith)

  first_wide : (x : X) (xs : List X) → AreWide (x ∷ xs) → length (f x) ≡ width
  first_wide x xs wide = wide 0 (omega arith)

  -- the bytes of so many cells
  pub length-cells : (xs : List X) → AreWide xs → length (flat_map f xs) ≡ width * length xs
  length-cells [] wide = omega arith
  length-cells (x ∷ xs) wide = let rest = length-cells xs (rest_wide x xs wide) in let one =
      first_wide x xs wide in omega (arith, length-append (f x) (flat_map f xs))

  -- the bytes of a cell
  pub cell_at : (xs : List X) → AreWide xs → (k : ℕ) → k < length xs → take width (drop (width * k) (flat_map f xs)) ≡ f (get_or xs k d)
  cell_at [] wide k within = absurd (omega arith)
  cell_at (x ∷ xs) wide zero within =
      let start : width * 0 ≡ 0 = omega arith in
      ap (λ (n : ℕ). take width (drop n (f x ++ flat_map f xs))) start ∙ take_at (f x) (flat_map f xs) width (first_wide x xs wide)
  cell_at (x ∷ xs) wide (suc k) within =
      let start : width * suc k ≡ width + width * k = omega arith in
      ap (λ (n : ℕ). take width (drop n (f x ++ flat_map f xs))) start
      ∙ ap (take width) (sym (drop-drop (width * k) width (f x ++ flat_map f xs)))
      ∙ ap (λ (ys : List ℕ). take width (drop (width * k) ys)) (drop_at (f x) (flat_map f xs) width (first_wide x xs wide))
      ∙ cell_at xs (rest_wide x xs wide) k (omega arith)

  -- bytes are known by their cells
  pub from_cells : (xs : List X) (bytes : List ℕ) → length bytes ≡ width * length xs
      → ((k : ℕ) → k < length xs → take width (drop (width * k) bytes) ≡ f (get_or xs k d)) → bytes ≡ flat_map f xs
  from_cells [] bytes long each = nil_from_length bytes (omega arith)
  from_cells (x ∷ xs) bytes long each =
      let start : width * 0 ≡ 0 = omega arith in
      let first : take width bytes ≡ f x = ap (λ (n : ℕ). take width (drop n bytes)) (sym start) ∙ each 0 (omega arith) in
      let rest : drop width bytes ≡ flat_map f xs = from_cells xs (drop width bytes) (omega (arith, length-drop width bytes)) (λ k within.
      let next : width + width * k ≡ width * suc k = omega arith in
      ap (take width) (drop-drop (width * k) width bytes ∙ ap (λ (n : ℕ). drop n bytes) next) ∙ each (suc k) (omega arith)) in
      sym (take-append-drop width bytes) ∙ ap (λ (ys : List ℕ). ys ++ drop width bytes) first ∙ ap (λ (ys : List ℕ). f x ++ ys) rest

  -- one more cell
  pub cells_more : (xs : List X) (k : ℕ) → k < length xs → flat_map f (take (k + 1) xs) ≡ flat_map f (take k xs) ++ f (get_or xs k d)
  cells_more xs k within =
      ap (flat_map f) (take_more xs k d within) ∙ flat_map-append f (take k xs) (get_or xs k d ∷ [])
      ∙ ap (λ (ys : List ℕ). flat_map f (take k xs) ++ ys) (append-nil (f (get_or xs k d)))

  -- one more cell is written
  pub cell_written : (xs : List X) (k : ℕ) (to new : List ℕ) → k < length xs → width * k + width ≤ length to → length new ≡ width → new ≡ f (get_or xs k d)
      → take (width * k) to ≡ flat_map f (take k xs) → take (width * (k + 1)) (put_mid (width * k) (width * k + width - width * k) to new) ≡ flat_map f
      (take (k + 1) xs)
  cell_written xs k to new within room long is so_far =
      take-put_mid (width * k) (width * k + width - width * k) to new (width * (k + 1)) (omega arith) (omega arith)
      ∙ ap (λ (ys : List ℕ). ys ++ new) so_far
      ∙ ap (λ (ys : List ℕ). flat_map f (take k xs) ++ ys) is
      ∙ sym (cells_more xs k within)

  module _ (per first count : ℕ) (some : 0 < per) (sectors : List (List ℕ)) (xs : List X) (long : count * per ≤ length xs) where
    room_for : (s : ℕ) → s < count → s * per + per ≤ count * per
    room_for s below = let more : (s + 1) * per ≤ count * per = mul-le-mul_right per (let h : s + 1 ≤ count = omega arith in h) in omega arith

    part_long : (s : ℕ) → s < count → length (take per (drop (per * s) xs)) ≡ per
    part_long s below = length-take-le per (drop (per * s) xs) (let room = room_for s below in omega (arith, length-drop (per * s) xs))

    part_at : (s k : ℕ) → k < per → get_or (take per (drop (per * s) xs)) k d ≡ get_or xs (s * per + k) d
    part_at s k small = get_or-take per (drop (per * s) xs) k d small ∙ get_or-drop (per * s) xs k d
        ∙ ap (λ (n : ℕ). get_or xs n d) (let e : per * s + k ≡ s * per + k = omega arith in e)

    -- the cells of a sector are wide where those of all are
    part_wide : ((i : ℕ) → i < count * per → length (f (get_or xs i d)) ≡ width) → (s : ℕ) → s < count → AreWide (take per (drop (per * s) xs))
    part_wide wide s below k within =
        let all = part_long s below in
        let room = room_for s below in
        ap (λ (x : X). length (f x)) (part_at s k (omega arith)) ∙ wide (s * per + k) (omega arith)

    -- the length of a sector of cells
    pub length-cells_of : ((i : ℕ) → i < count * per → length (f (get_or xs i d)) ≡ width) → (s : ℕ) → s < count
        → length (flat_map f (take per (drop (per * s) xs))) ≡ width * per
    length-cells_of wide s below = length-cells (take per (drop (per * s) xs)) (part_wide wide s below) ∙ ap (λ (n : ℕ). width * n) (part_long s below)

    -- the sectors that hold the cells
    pub cells_of_sectors : ((i : ℕ) → i < count * per → length (f (get_or xs i d)) ≡ width)
        → ((s : ℕ) → s < count → get_or sectors (first + s) [] ≡ flat_map f (take per (drop (per * s) xs)))
        → (i : ℕ) → i < count * per → cell width per first sectors i ≡ f (get_or xs i d)
    cells_of_sectors wide each i within =
        let s = i / per in
        let k = i % per in
        let split : s * per + k ≡ i = div-add-mod' i per in
        let small : k < per = mod_below i per some in
        let s_below : s < count = div_below i per count some within in
        let part = take per (drop (per * s) xs) in
        ap (λ (ys : List ℕ). take width (drop (width * k) ys)) (each s s_below)
        ∙ cell_at part (part_wide wide s s_below) k (let all = part_long s s_below in omega arith)
        ∙ ap f (part_at s k small ∙ ap (λ (n : ℕ). get_or xs n d) split)

    -- the cells make the sectors
    pub sectors_of_cells : ((s : ℕ) → s < count → length (get_or sectors (first + s) []) ≡ width * per)
        → ((i : ℕ) → i < count * per → cell width per first sectors i ≡ f (get_or xs i d))
        → (s : ℕ) → s < count → get_or sectors (first + s) [] ≡ flat_map f (take per (drop (per * s) xs))
    sectors_of_cells sector_long each s below =
        let part = take per (drop (per * s) xs) in
        let all = part_long s below in
        let sector = get_or sectors (first + s) [] in
        from_cells part sector (sector_long s below ∙ ap (λ (n : ℕ). width * n) (sym all)) (λ k within.
        let small : k < per = omega arith in
        let i = s * per + k in
        let room = room_for s below in
        let quotient : s ≡ i / per = sym (div-mul-add s per k small) in
        let rest : k ≡ i % per = sym (mod-mul-add s per k small) in
        ap (λ (q : ℕ). take width (drop (width * k) (get_or sectors (first + q) []))) quotient
        ∙ ap (λ (m : ℕ). take width (drop (width * m) (get_or sectors (first + i / per) []))) rest
        ∙ each i (omega arith)
        ∙ ap f (sym (part_at s k small)))

-- one more cell was read
pub spelled_more : {X : Type 0} (f : Option X → List ℕ) (bytes : ℕ → List ℕ) (items now : List (Option X)) (n : ℕ) (one : Option X) → now ≡ items ++ one ∷ []
    → length items ≡ n
    → ((k : ℕ) → k < n → bytes k ≡ f (get_or items k None)) → bytes n ≡ f one → (k : ℕ) → k < n + 1 → bytes k ≡ f (get_or now k None)
spelled_more f bytes items now n one is long so_far last =
    below_more (λ k. bytes k ≡ f (get_or now k None)) n
    (λ k below. so_far k below ∙ ap f (sym (get_or_append_left items (one ∷ []) None k (omega arith)) ∙ ap (λ ys. get_or ys k None) (sym is)))
    (last ∙ ap f (sym (get_or_push items one None n long) ∙ ap (λ ys. get_or ys n None) (sym is)))

-- one more of a list was read
pub first_more : {X : Type 0} (xs items now : List (Option X)) (n : ℕ) (one : Option X) → now ≡ items ++ one ∷ [] → items ≡ take n xs → n < length xs
    → one ≡ get_or xs n None → now ≡ take (n + 1) xs
first_more xs items now n one is first within last =
    is ∙ ap (λ ys. ys ++ one ∷ []) first ∙ ap (λ y. take n xs ++ y ∷ []) last ∙ sym (take_more xs n None within)

-- a part of a list, as it is cut out
pub cut : {X : Type 0} (at n : ℕ) (xs : List X) → take n (drop at xs) ≡ take (at + n - at) (drop at xs)
cut at n xs = ap (λ (k : ℕ). take k (drop at xs)) (let e : n ≡ at + n - at = omega arith in e)

-- all of a list was read
pub all_read : {X E : Type 0} (inner : Result (List X) E) (out : Option (List X)) (items : List X) (n : ℕ) → out ≡ result_ok inner
    → (IsOk inner ↔ (length items ≡ n))
    → IfOk inner (λ array. array ≡ items) → length items ≡ n → out ≡ Some items
all_read (Ok array) out items n is full same long = is ∙ ap (λ (xs : List _). Some xs) same
all_read (Err left) out items n is full same long = absurd (false≢true (full.1 long))

pub all_found : {X : Type 0} (xs items : List X) (n most : ℕ) → items ≡ take n xs → length xs ≡ most → most ≤ n → items ≡ xs
all_found xs items n most first long all = first ∙ take_all n xs (omega (arith, long, all))
