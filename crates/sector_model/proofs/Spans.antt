-- Bytes of a file on which those of a span are put.
use Rattle.std.proofs.Common.{◌≡◌, ⊎_elim, ◌⊎◌, inl, inr, ℕ, ◌+◌, ◌-◌, ◌<◌, ◌≤◌, List, get_or, length, refl, sym, ◌∙◌, ap, arith, ◌++◌}
use Rattle.std.specs.Prelude.{nat_lt, if◌then◌else◌, Result, Ok, Err, IfOk}
use Rattle.std.proofs.lemmas.List.{get_or_append_left}
use Rattle.std.proofs.lemmas.Bool.{cases_lt, lt-ltb, le-ltb}
use Rattle.sector_model.specs.DeviceFiles.{Contents, AreAt, IsWritten, IsSynced}
use Rattle.sector_model.specs.Spans.{with_span, IsShownAs}

module _ (c : Contents) (start len : ℕ) (bytes : List ℕ) where
  byte_below : (p : ℕ) → p < start → (with_span c start len bytes).byte p ≡ c.byte p
  byte_below p lt = ap (λ b. if b then c.byte p else (if nat_lt p (start + len) then get_or bytes (p - start) 0 else c.byte p)) (lt-ltb p start lt)

  byte_above : (p : ℕ) → start + len ≤ p → (with_span c start len bytes).byte p ≡ c.byte p
  byte_above p ge =
      ap (λ b. if b then c.byte p else (if nat_lt p (start + len) then get_or bytes (p - start) 0 else c.byte p)) (le-ltb p start (omega (arith, ge)))
      ∙ ap (λ b. if b then get_or bytes (p - start) 0 else c.byte p) (le-ltb p (start + len) ge)

  byte_inside : (p : ℕ) → start ≤ p → p < start + len → (with_span c start len bytes).byte p ≡ get_or bytes (p - start) 0
  byte_inside p ge lt =
      ap (λ b. if b then c.byte p else (if nat_lt p (start + len) then get_or bytes (p - start) 0 else c.byte p)) (le-ltb p start ge)
      ∙ ap (λ b. if b then get_or bytes (p - start) 0 else c.byte p) (lt-ltb p (start + len) lt)

  -- a place that the span doesn't have
  byte_beside : (p : ℕ) → (p < start) ⊎ (start + len ≤ p) → (with_span c start len bytes).byte p ≡ c.byte p
  byte_beside p out = ⊎_elim (λ lt. byte_below p lt) (λ ge. byte_above p ge) out

-- the places from one on, of which the span has none
AreBeside : (start len place n : ℕ) → Type 0
AreBeside start len place n = (k : ℕ) → k < n → (place + k < start) ⊎ (start + len ≤ place + k)

-- nothing is put
pub shown_without : (c : Contents) (start len : ℕ) (bytes : List ℕ) → len ≡ 0 → IsShownAs (with_span c start len bytes) c
shown_without c start len bytes none = record {
  size = refl;
  byte = λ p. sym (byte_beside c start len bytes p (⊎_elim (λ lt. inl lt) (λ ge. inr (omega (arith, ge, none))) (cases_lt p start)));
  safe = λ p. refl;
}

-- what waited was written
pub shown_written : (c new : Contents) (start len : ℕ) (bytes held : List ℕ) → length held ≡ len
    → ((k : ℕ) → k < len → get_or held k 0 ≡ get_or bytes k 0) → IsWritten start (length held) held c new → IsShownAs (with_span c start len bytes) new
shown_written c new start len bytes held size same written = record {
  size = written.size;
  byte = λ p. ⊎_elim (λ lt. written.below p lt ∙ sym (byte_below c start len bytes p lt))
      (λ ge. ⊎_elim (λ lt. inside p ge lt) (λ past. written.above p (omega (arith, past, size)) ∙ sym (byte_above c start len bytes p past))
      (cases_lt p (start + len)))
      (cases_lt p start);
  safe = written.safe;
}
  where
    inside : (p : ℕ) → start ≤ p → p < start + len → new.byte p ≡ (with_span c start len bytes).byte p
    inside p ge lt = ap new.byte (omega (arith, ge)) ∙ written.put (p - start) (omega (arith, ge, lt, size)) ∙ same (p - start) (omega (arith, ge, lt))
        ∙ sym (byte_inside c start len bytes p ge lt)

-- bytes of the span were read
pub read_waiting : (c : Contents) (start len place n : ℕ) (bytes to : List ℕ) → start ≤ place → place + n ≤ start + len
    → ((k : ℕ) → k < n → get_or to k 0 ≡ get_or bytes (place - start + k) 0) → AreAt (with_span c start len bytes).byte place n to
read_waiting c start len place n bytes to from within copied = record {
  each = λ k lt. copied k lt ∙ ap (λ (i : ℕ). get_or bytes i 0) (omega (arith, from))
      ∙ sym (byte_inside c start len bytes (place + k) (omega (arith, from)) (omega (arith, within, lt)));
}

-- bytes beside it
pub read_beside : (c : Contents) (start len place n : ℕ) (bytes part to : List ℕ)
    → ((k : ℕ) → k < n → (place + k < start) ⊎ (start + len ≤ place + k)) → ((k : ℕ) → k < n → get_or to k 0 ≡ get_or part k 0)
    → AreAt c.byte place n part → AreAt (with_span c start len bytes).byte place n to
read_beside c start len place n bytes part to beside same read = record {
  each = λ k lt. same k lt ∙ read.each k lt ∙ sym (byte_beside c start len bytes (place + k) (beside k lt));
}

-- so many of these bytes beside it, where a part of them was read
pub part_read : {E : Type 0} (r : Result ℕ E) (c : Contents) (start len place count : ℕ) (bytes part rest : List ℕ) → length part ≡ count
    → IfOk r (λ n. n ≤ length part) → ((k : ℕ) → k < count → (place + k < start) ⊎ (start + len ≤ place + k)) → IfOk r (λ n. AreAt c.byte place n part)
    → IfOk r (λ n. AreAt (with_span c start len bytes).byte place n (part ++ rest))
part_read (Err e) c start len place count bytes part rest size most beside read = tt
part_read (Ok n) c start len place count bytes part rest size most beside read =
    read_beside c start len place n bytes part (part ++ rest) (λ k lt. beside k (omega (arith, lt, most, size)))
    (λ k lt. get_or_append_left part rest 0 k (omega (arith, lt, most))) read

-- bytes were appended to it
pub appended : (c : Contents) (start len n total : ℕ) (old new from : List ℕ) → total ≡ len + n
    → ((k : ℕ) → k < n → get_or new (len + k) 0 ≡ get_or from k 0) → ((k : ℕ) → k < len → get_or new k 0 ≡ get_or old k 0)
    → IsWritten (start + len) n from (with_span c start len old) (with_span c start total new)
appended c start len n total old new from sum put kept = record {
  size = refl;
  put = λ k lt. byte_inside c start total new (start + len + k) (omega arith) (omega (arith, lt, sum))
      ∙ ap (λ (i : ℕ). get_or new i 0) (omega arith) ∙ put k lt;
  below = λ p lt. ⊎_elim (λ before. byte_below c start total new p before ∙ sym (byte_below c start len old p before))
      (λ ge. byte_inside c start total new p ge (omega (arith, lt, sum)) ∙ kept (p - start) (omega (arith, ge, lt))
      ∙ sym (byte_inside c start len old p ge lt))
      (cases_lt p start);
  above = λ p ge. byte_above c start total new p (omega (arith, ge, sum)) ∙ sym (byte_above c start len old p (omega (arith, ge)));
  safe = λ p. refl;
}

-- it was begun anew, after what waited was written
pub begun_anew : (c mid : Contents) (start len place none_left n total : ℕ) (old new from : List ℕ) → IsShownAs (with_span c start len old) mid → none_left ≡ 0
    → total ≡ none_left + n → ((k : ℕ) → k < n → get_or new (none_left + k) 0 ≡ get_or from k 0)
    → IsWritten place n from (with_span c start len old) (with_span mid place total new)
begun_anew c mid start len place none_left n total old new from shown none sum put = record {
  size = shown.size;
  put = λ k lt. byte_inside mid place total new (place + k) (omega arith) (omega (arith, lt, sum, none))
      ∙ ap (λ (i : ℕ). get_or new i 0) (omega (arith, none)) ∙ put k lt;
  below = λ p lt. byte_below mid place total new p lt ∙ shown.byte p;
  above = λ p ge. byte_above mid place total new p (omega (arith, ge, sum, none)) ∙ shown.byte p;
  safe = shown.safe;
}

-- all was synced, and nothing waits
pub synced_after : (c mid new : Contents) (start len place none_left : ℕ) (old bytes : List ℕ) → IsShownAs (with_span c start len old) mid → IsSynced mid new
    → none_left ≡ 0 → IsSynced (with_span c start len old) (with_span new place none_left bytes)
synced_after c mid new start len place none_left old bytes shown synced none =
    let without = shown_without new place none_left bytes none in record {
      size = synced.size ∙ shown.size;
      byte = λ p. sym (without.byte p) ∙ synced.byte p ∙ shown.byte p;
      safe = λ p. synced.safe p ∙ shown.byte p;
    }

-- the bytes of a span are those of its file, also after a write that it follows
pub patched : (c new : Contents) (start len place n : ℕ) (old bytes from part : List ℕ) → length part ≡ n
    → ((k : ℕ) → k < length part → get_or part k 0 ≡ get_or from k 0)
    → ((k : ℕ) → k < len → place ≤ start + k → start + k < place + length part → get_or bytes k 0 ≡ get_or part (start + k - place) 0)
    → ((k : ℕ) → k < len → start + k < place → get_or bytes k 0 ≡ get_or old k 0)
    → ((k : ℕ) → k < len → place + length part ≤ start + k → get_or bytes k 0 ≡ get_or old k 0)
    → AreAt c.byte start len old → IsWritten place n from c new → AreAt new.byte start len bytes
patched c new start len place n old bytes from part size same put below above was written = record {
  each = λ k lt. ⊎_elim (λ before. below k lt before ∙ was.each k lt ∙ sym (written.below (start + k) before))
      (λ ge. ⊎_elim (λ within. inside k lt ge within)
      (λ past. above k lt past ∙ was.each k lt ∙ sym (written.above (start + k) (omega (arith, past, size)))) (cases_lt (start + k) (place + length part)))
      (cases_lt (start + k) place);
}
  where
    inside : (k : ℕ) → k < len → place ≤ start + k → start + k < place + length part → get_or bytes k 0 ≡ new.byte (start + k)
    inside k lt ge within =
        put k lt ge within ∙ same (start + k - place) (omega (arith, ge, within)) ∙ sym (written.put (start + k - place) (omega (arith, ge, within, size)))
        ∙ ap new.byte (omega (arith, ge))
