-- Parts of a sector that are read or written one after the other.
use Rattle.std.proofs.Common.{◌≡◌, ⊎_elim, ℕ, ◌+◌, ◌-◌, ◌<◌, ◌≤◌, List, ◌++◌, length, get_or, take, refl, sym, ◌∙◌, ap, subst, arith}
use Rattle.std.proofs.lemmas.Bool.{cases_lt}
use Rattle.std.proofs.lemmas.Grind.{moves}
use Rattle.std.proofs.lemmas.List.{take_at}
use borrow.Rule.Slice.PartMut.{post_of}
use Rattle.sector_model.specs.DeviceFiles.{Contents, AreAt, IsWritten}

-- a part was read after the first
pub read_more : {a b : Contents} (place m n total : ℕ) (old new : List ℕ) → total ≡ m + n → a ≡ b → AreAt b.byte place m old
    → ((k : ℕ) → k < m → get_or new k 0 ≡ get_or old k 0)
    → ((k : ℕ) → k < n → get_or new (m + k) 0 ≡ a.byte (place + m + k)) → AreAt b.byte place total new
read_more {a = a} {b = b} place m n total old new sum same before front rest = record {
  each = λ k within. ⊎_elim (λ (lt : k < m). front k lt ∙ before.each k lt) (λ (ge : m ≤ k). by_offset k (k - m) (omega arith) (omega arith)) (cases_lt k m);
}
  where
    by_offset : (k j : ℕ) → k ≡ m + j → j < n → get_or new k 0 ≡ b.byte (place + k)
    by_offset k j is lt =
        ap (λ (i : ℕ). get_or new i 0) is ∙ rest j lt ∙ ap (λ (t : Contents). t.byte (place + m + j)) same ∙ ap b.byte (omega (arith, is))

-- nothing more was read
pub read_same : (byte : ℕ → ℕ) (place m total : ℕ) (old new : List ℕ) → total ≡ m → AreAt byte place m old → ((k : ℕ) → k < m → get_or new k 0 ≡ get_or old k 0)
    → AreAt byte place total new
read_same byte place m total old new same before front = record { each = λ k lt. front k (omega (arith, lt, same)) ∙ before.each k (omega (arith, lt, same)) }

-- a part was written after the first
pub written_more : {a b c : Contents} (place m n total : ℕ) (from part : List ℕ) → total ≡ m + n → n ≤ length part
    → ((k : ℕ) → k < length part → get_or part k 0 ≡ get_or from (m + k) 0)
    → IsWritten place m from a b → IsWritten (place + m) n part b c → IsWritten place total from a c
written_more {a = a} {b = b} {c = c} place m n total from rest sum short is_rest before part = record {
  size = part.size ∙ before.size;
  put = λ k within. ⊎_elim (λ (lt : k < m). part.below (place + k) (omega (arith, lt)) ∙ before.put k lt)
      (λ (ge : m ≤ k). by_offset k (k - m) (omega arith) (omega arith)) (cases_lt k m);
  below = λ p lt. part.below p (omega (arith, lt)) ∙ before.below p lt;
  above = λ p ge. part.above p (omega (arith, ge)) ∙ before.above p (omega (arith, ge));
  safe = λ p. part.safe p ∙ before.safe p;
}
  where
    by_offset : (k j : ℕ) → k ≡ m + j → j < n → c.byte (place + k) ≡ get_or from k 0
    by_offset k j is lt =
        ap c.byte (omega (arith, is)) ∙ part.put j lt ∙ is_rest j (omega (arith, lt, short)) ∙ ap (λ (i : ℕ). get_or from i 0) (sym is)

-- a piece of a list of bytes in place of another
abbrev piece : (all mid : List ℕ) (place n : ℕ) → List ℕ
piece all mid place n = take place all ++ (mid ++ post_of place (place + n - place) all)

length-piece : (all mid : List ℕ) (place n : ℕ) → place + n ≤ length all → length mid ≡ n → length (piece all mid place n) ≡ length all
length-piece all mid place n within same = grind (arith, moves)

piece_put : (all mid from : List ℕ) (place size : ℕ) (safe : ℕ → ℕ) → place + length from ≤ length all → mid ≡ from
    → IsWritten place (length from) from (record { size = size; byte = λ p. get_or all p 0; safe = safe })
    (record { size = size; byte = λ p. get_or (piece all mid place (length from)) p 0; safe = safe })
piece_put all mid from place size safe within is = record {
  size = refl;
  put = λ k lt. grind (arith, moves);
  below = λ p lt. grind (arith, moves);
  above = λ p ge. grind (arith, moves);
  safe = λ p. refl;
}

pub piece_written : (all items mid from rest : List ℕ) (place : ℕ) {size : ℕ} {safe : ℕ → ℕ} → all ≡ items → length all ≡ size
    → place + length from ≤ length all → mid ≡ from
    → IsWritten place (length from) from (record { size = size; byte = λ p. get_or items p 0; safe = safe })
    (record {
      size = size;
      byte = λ p. get_or (take size ((take place all ++ (mid ++ post_of place (place + length from - place) all)) ++ rest)) p 0;
      safe =
          safe;
    })
piece_written all items mid from rest place {size = size} {safe = safe} same long within is =
    let whole : length (piece all mid place (length from)) ≡ size = length-piece all mid place (length from) within (ap length is) ∙ long in
    subst (λ (l : List ℕ). IsWritten place (length from) from (record { size = size; byte = λ p. get_or l p 0; safe = safe })
    (record { size = size; byte = λ p. get_or (take size (piece all mid place (length from) ++ rest)) p 0; safe = safe })) same
    (subst (λ (l : List ℕ). IsWritten place (length from) from (record { size = size; byte = λ p. get_or all p 0; safe = safe })
    (record { size = size; byte = λ p. get_or l p 0; safe = safe })) (sym (take_at (piece all mid place (length from)) rest size whole))
    (piece_put all mid from place size safe within is))

-- nothing more was written
pub written_same : {a b c : Contents} (place m total : ℕ) (from : List ℕ) → total ≡ m → c ≡ b → IsWritten place m from a b → IsWritten place total from a c
written_same {a = a} {b = b} {c = c} place m total from sum same before = record {
  size = ap (λ (t : Contents). t.size) same ∙ before.size;
  put = λ k lt. ap (λ (t : Contents). t.byte (place + k)) same ∙ before.put k (omega (arith, lt, sum));
  below = λ p lt. ap (λ (t : Contents). t.byte p) same ∙ before.below p lt;
  above = λ p ge. ap (λ (t : Contents). t.byte p) same ∙ before.above p (omega (arith, ge, sum));
  safe = λ p. ap (λ (t : Contents). t.safe p) same ∙ before.safe p;
}
