-- Blocks that are read in parts.
use Rattle.std.proofs.Common.{◌≡◌, ℕ, ◌+◌, ◌*◌, ◌<◌, List, [], ◌∷◌, ◌++◌, length, take, drop, set, Option, Some, None, OnSome}
use Rattle.std.proofs.Common.{refl, sym, ap, subst, ◌∙◌, arith, append-nil, length-append, length-take, take-append-drop, take-take, take_all}
use Rattle.std.proofs.lemmas.List.{drop-take, take_more_set}
use Rattle.std.proofs.lemmas.Grind.{flat_map-append}
use Rattle.std.specs.Io.KnownBytes.{Consumes, IsAtEnd, Keeps}
use Rattle.std.proofs.KnownBytes.{Consumes-kept, Consumes-nil, Consumes-trans}
use Rattle.volume_table.specs.Volumes.{Block}
use Rattle.requests.specs.Inputs.{EndsBefore, Skips, StopsBefore, bytes_of}

-- the first of some bytes, and those after them
take-add : (m n : ℕ) (xs : List ℕ) → take (m + n) xs ≡ take m xs ++ take n (drop m xs)
take-add m n xs =
    let front = take (m + n) xs in
    sym (take-append-drop m front) ∙ ap (λ l. l ++ drop m front) (take-take m (m + n) xs (omega arith)) ∙ ap (λ l. take m xs ++ l) (drop-take m n xs)

-- more bytes of a block were read
pub block_more : (a b c : Option (List ℕ)) (done count : ℕ) (old new : List ℕ) → Consumes a b (take done old) → take done new ≡ take done old
    → Consumes b c (take count (drop done new)) → Consumes a c (take (done + count) new)
block_more a b c done count old new before front more =
    subst (Consumes a c) (sym (take-add done count new))
    (Consumes-trans a b c (take done new) (take count (drop done new)) (subst (Consumes a b) (sym front) before) more)

-- none were
pub block_same : (a b c : Option (List ℕ)) (done : ℕ) (old new : List ℕ) → Consumes a b (take done old) → take done new ≡ take done old → Keeps b c
    → Consumes a c (take done new)
block_same a b c done old new before front same = Consumes-kept a b c (take done new) (subst (Consumes a b) (sym front) before) same

-- all of a block was read
pub block_whole : (a c : Option (List ℕ)) (n : ℕ) (new : List ℕ) → Consumes a c (take n new) → length new ≡ n → Consumes a c new
block_whole a c n new h all = subst (Consumes a c) (take_all n new (omega arith)) h

-- a part of a block was read
pub block_stops : (a b c : Option (List ℕ)) (done : ℕ) (old : List ℕ) → Consumes a b (take done old) → done < 512 → Keeps b c → StopsBefore a c 512
block_stops a b c done old before less same = record {
  read = take done old;
  consumed = Consumes-kept a b c (take done old) before same;
  fewer = omega (arith, length-take done old, less);
}

-- at the end of an input nothing is known of one that was not known
pub still_at_end : (a b c : Option (List ℕ)) (bytes : List ℕ) → Consumes a b bytes → OnSome b (IsAtEnd c) → OnSome a (IsAtEnd c)
still_at_end None b c bytes before end = tt
still_at_end (Some x) None c bytes before end = absurd before
still_at_end (Some x) (Some y) c bytes before end = end

-- the input ended in a block
pub block_ends : (a b c : Option (List ℕ)) (done : ℕ) (old new : List ℕ) → Consumes a b (take done old) → done < 512
    → Consumes b c (take 0 (drop done new)) → OnSome b (IsAtEnd c) → EndsBefore a c 512
block_ends a b c done old new before less none end = record {
  stops = record {
    read = take done old ++ [];
    consumed = Consumes-trans a b c (take done old) [] before none;
    fewer = omega (arith, length-append (take done old) [], length-take done old, less);
  };
  none_left = still_at_end a b c (take done old) before end;
}

-- nothing was skipped
pub skips_none : (a : Option (List ℕ)) → Skips a a 0
skips_none a = record { skipped = []; consumed = Consumes-nil a; all = refl }

pub skips_same : (a b c : Option (List ℕ)) (n : ℕ) → Skips a b n → Keeps b c → Skips a c n
skips_same a b c n h same = record { skipped = h.skipped; consumed = Consumes-kept a b c h.skipped h.consumed same; all = h.all }

pub skips_more : (a b c : Option (List ℕ)) (m n k : ℕ) → Skips a b m → Skips b c n → m + n ≡ k → Skips a c k
skips_more a b c m n k p q sum = record {
  skipped = p.skipped ++ q.skipped;
  consumed = Consumes-trans a b c p.skipped q.skipped p.consumed q.consumed;
  all = omega (arith, length-append p.skipped q.skipped, p.all, q.all, sum);
}

pub skips_stops : (a b c : Option (List ℕ)) (m n : ℕ) → Skips a b m → Keeps b c → m < n → StopsBefore a c n
skips_stops a b c m n h same less = record {
  read = h.skipped;
  consumed = Consumes-kept a b c h.skipped h.consumed same;
  fewer = omega (arith, h.all, less);
}

pub skips_ends : (a b c : Option (List ℕ)) (m n : ℕ) → Skips a b m → Skips b c 0 → m < n → OnSome b (IsAtEnd c) → EndsBefore a c n
skips_ends a b c m n h last less end =
    let both = skips_more a b c m 0 m h last (omega arith) in
    record {
      stops = record { read = both.skipped; consumed = both.consumed; fewer = omega (arith, both.all, less) };
      none_left = still_at_end a b c h.skipped h.consumed end;
    }

-- a block more was read
pub skips_block : (a b c : Option (List ℕ)) (k : ℕ) (block : List ℕ) → Skips a b (512 * k) → Consumes b c block → length block ≡ 512
    → Skips a c (512 * (k + 1))
skips_block a b c k block h more all =
    skips_more a b c (512 * k) 512 (512 * (k + 1)) h (record { skipped = block; consumed = more; all = all }) (omega arith)

-- a block more was read in part
pub blocks_stop : (a b c : Option (List ℕ)) (k n : ℕ) → Skips a b (512 * k) → StopsBefore b c 512 → k < n → StopsBefore a c (512 * n)
blocks_stop a b c k n h last within = record {
  read = h.skipped ++ last.read;
  consumed = Consumes-trans a b c h.skipped last.read h.consumed last.consumed;
  fewer = omega (arith, length-append h.skipped last.read, h.all, last.fewer, within);
}

pub blocks_end : (a b c : Option (List ℕ)) (k n : ℕ) → Skips a b (512 * k) → EndsBefore b c 512 → k < n → EndsBefore a c (512 * n)
blocks_end a b c k n h last within = record {
  stops = blocks_stop a b c k n h last.stops within;
  none_left = still_at_end a b c h.skipped h.consumed last.none_left;
}

-- one more block was read
pub blocks_more : (a b c : Option (List ℕ)) (k : ℕ) (blocks : List Block) (block : Block) → k < length blocks → Consumes a b (bytes_of (take k blocks))
    → Consumes b c block → Consumes a c (bytes_of (take (k + 1) (set blocks k block)))
blocks_more a b c k blocks block within before more =
    let joined : bytes_of (take (k + 1) (set blocks k block)) ≡ bytes_of (take k blocks) ++ block =
    ap bytes_of (take_more_set blocks k block within) ∙ flat_map-append (λ block. block) (take k blocks) (block ∷ [])
    ∙ ap (λ l. bytes_of (take k blocks) ++ l) (append-nil block) in
    subst (Consumes a c) (sym joined) (Consumes-trans a b c (bytes_of (take k blocks)) block before more)
