-- Lines that are read in parts.
use Rattle.std.proofs.Common.{◌+◌, ◌≡◌, ◌≢◌, ℕ, zero, suc, ◌<◌, ◌≤◌, cond, List, [], ◌∷◌, ◌++◌, All, Option, None, Some, IfSome, OnSome, length, take, inl, inr}
use Rattle.std.proofs.Common.{refl, sym, ap, subst, ◌∙◌, append_assoc, append-nil, length-take, take_all, ne_eqb, arith}
use Rattle.std.proofs.lemmas.List.Elements.{All-head, All-tail, All-append, All-nil, All-take}
use Rattle.std.specs.Io.KnownBytes.{Consumes, Keeps, IsAtEnd}
use Rattle.std.proofs.KnownBytes.{Consumes-nil, Consumes-trans, Consumes-kept}
use Rattle.report.specs.Script.{lines_of, onto_first}
use Rattle.report.specs.Lines.{GivesLine, HasNoLine, ReadsUnended, ReadsWhole, StopsInLine, ReadsPart, end_of}
use Rattle.report.specs.declared.lines.Met.{Met}
use Rattle.report.specs.declared.lines.Met.TheVariants.{Nothing, LineEnd, ScriptEnd}
use Rattle.report.specs.declared.lines.TheConstants.{LONGEST_LINE}

-- what is kept of a line is kept of what was kept and the rest
pub take-kept_append : (n : ℕ) (xs ys : List ℕ) → take n (take n xs ++ ys) ≡ take n (xs ++ ys)
take-kept_append zero xs ys = refl
take-kept_append (suc n) [] ys = refl
take-kept_append (suc n) (x ∷ xs) ys = ap (λ l. x ∷ l) (take-kept_append n xs ys)

-- a line of which at most 65,535 bytes were kept was kept whole
pub kept_whole : (line kept : List ℕ) → kept ≡ take (LONGEST_LINE + 1) line → length kept ≤ LONGEST_LINE → kept ≡ line
kept_whole line kept first short =
    let fits : length line ≤ LONGEST_LINE + 1 = omega (arith, ap length first, length-take (LONGEST_LINE + 1) line) in
    first ∙ take_all (LONGEST_LINE + 1) line fits

-- a line of which more were kept is too long
pub kept_long : (line kept : List ℕ) → kept ≡ take (LONGEST_LINE + 1) line → LONGEST_LINE < length kept → LONGEST_LINE < length line
kept_long line kept first long = omega (arith, ap length first, length-take (LONGEST_LINE + 1) line)

-- bytes without an end of a line, and then one, are a line
lines_of-line : (line rest : List ℕ) → All (λ byte. byte ≢ 10) line → lines_of (line ++ 10 ∷ rest) ≡ line ∷ lines_of rest
lines_of-line [] rest none = refl
lines_of-line (x ∷ xs) rest none =
    ap (λ b. cond b ([] ∷ lines_of (xs ++ 10 ∷ rest)) (onto_first x (lines_of (xs ++ 10 ∷ rest)))) (ne_eqb x 10 (All-head (λ byte. byte ≢ 10) x xs none))
    ∙ ap (onto_first x) (lines_of-line xs rest (All-tail (λ byte. byte ≢ 10) x xs none))

-- bytes without an end of a line are a line
lines_of-last : (x : ℕ) (xs : List ℕ) → All (λ byte. byte ≢ 10) (x ∷ xs) → lines_of (x ∷ xs) ≡ (x ∷ xs) ∷ []
lines_of-last x [] none = ap (λ b. cond b ([] ∷ []) ((x ∷ []) ∷ [])) (ne_eqb x 10 (All-head (λ byte. byte ≢ 10) x [] none))
lines_of-last x (y ∷ ys) none =
    ap (λ b. cond b ([] ∷ lines_of (y ∷ ys)) (onto_first x (lines_of (y ∷ ys)))) (ne_eqb x 10 (All-head (λ byte. byte ≢ 10) x (y ∷ ys) none))
    ∙ ap (onto_first x) (lines_of-last y ys (All-tail (λ byte. byte ≢ 10) x (y ∷ ys) none))

-- before the first part
pub ReadsPart-nothing : (old new : Option (List ℕ)) (line kept : List ℕ) → Keeps old new → kept ≡ take (LONGEST_LINE + 1) line
    → ReadsPart old new Nothing line kept
ReadsPart-nothing old new line kept same is = record {
  part = [];
  unbroken = All-nil (λ byte. byte ≢ 10);
  consumed = Consumes-kept old old new [] (Consumes-nil old) same;
  first = is ∙ ap (take (LONGEST_LINE + 1)) (sym (append-nil line));
}

joined_parts : (a b end : List ℕ) → (a ++ []) ++ (b ++ end) ≡ (a ++ b) ++ end
joined_parts a b end = ap (λ l. l ++ (b ++ end)) (append-nil a) ∙ sym (append_assoc a b end)

-- one part after another
pub ReadsPart-trans : (old mid new : Option (List ℕ)) (met : Met) (line half kept : List ℕ) → ReadsPart old mid Nothing line half
    → ReadsPart mid new met half kept
    → ReadsPart old new met line kept
ReadsPart-trans old mid new met line half kept p q = record {
  part = p.part ++ q.part;
  unbroken = All-append (λ byte. byte ≢ 10) p.part q.part p.unbroken q.unbroken;
  consumed = subst (Consumes old new) (joined_parts p.part q.part (end_of met))
      (Consumes-trans old mid new (p.part ++ []) (q.part ++ end_of met) p.consumed q.consumed);
  first = q.first ∙ ap (λ l. take (LONGEST_LINE + 1) (l ++ q.part)) p.first ∙ take-kept_append (LONGEST_LINE + 1) (line ++ p.part) q.part
      ∙ ap (take (LONGEST_LINE + 1)) (append_assoc line p.part q.part);
}

-- a line and its end were read
pub whole_from_parts : (old new : Option (List ℕ)) (kept : List ℕ) → ReadsPart old new LineEnd [] kept → ReadsWhole old new kept
whole_from_parts old new kept h = record { line = h.part; unbroken = h.unbroken; consumed = h.consumed; first = h.first }

-- a whole line is the next line
pub line_from_whole : (old new : Option (List ℕ)) (kept : List ℕ) → ReadsWhole old new kept → IfSome old (λ script. GivesLine script new kept)
line_from_whole None new kept h = tt
line_from_whole (Some script) None kept h = absurd h.consumed
line_from_whole (Some script) (Some rest) kept h =
    let split : script ≡ h.line ++ 10 ∷ rest = h.consumed ∙ append_assoc h.line (10 ∷ []) rest in
    record {
      line = h.line;
      rest = rest;
      next = record { unbroken = h.unbroken; ended = inl split; lines = ap lines_of split ∙ lines_of-line h.line rest h.unbroken };
      left = refl;
      first = h.first;
    }

-- the line so far has no end in it
pub unbroken_from_parts : (old new : Option (List ℕ)) (met : Met) (kept : List ℕ) → ReadsPart old new met [] kept → All (λ byte. byte ≢ 10) kept
unbroken_from_parts old new met kept h = subst (All (λ byte. byte ≢ 10)) (sym h.first) (All-take (λ byte. byte ≢ 10) (LONGEST_LINE + 1) h.part h.unbroken)

-- a reader whose bytes were known still says so
pub end_from_parts : (old mid new : Option (List ℕ)) (line kept : List ℕ) → ReadsPart old mid Nothing line kept → OnSome mid (IsAtEnd new)
    → OnSome old (IsAtEnd new)
end_from_parts None mid new line kept h end = tt
end_from_parts (Some script) None new line kept h end = absurd h.consumed
end_from_parts (Some script) (Some rest) new line kept h end = end

-- the last part of a script was read
pub read_to_end : (old mid new : Option (List ℕ)) (half kept : List ℕ) → ReadsPart old mid Nothing [] half → ReadsPart mid new ScriptEnd half kept
    → OnSome mid (IsAtEnd new)
    → ReadsPart old new ScriptEnd [] kept × OnSome old (IsAtEnd new)
read_to_end old mid new half kept p q end = (ReadsPart-trans old mid new ScriptEnd [] half kept p q, end_from_parts old mid new [] half p end)

-- what was read at the end of a script is all of it
whole : (script : List ℕ) (new : Option (List ℕ)) (kept : List ℕ) (h : ReadsPart (Some script) new ScriptEnd [] kept) → IsAtEnd new → (new ≡ Some [])
    × (script ≡ h.part)
whole script None kept h end = absurd h.consumed
whole script (Some rest) kept h end = (ap Some end, h.consumed ∙ ap (λ l. (h.part ++ []) ++ l) end ∙ append-nil (h.part ++ []) ∙ append-nil h.part)

some_byte : (line kept : List ℕ) → kept ≡ take (LONGEST_LINE + 1) line → 0 < length kept → line ≢ []
some_byte [] kept first some = absurd (omega (arith, ap length first))
some_byte (x ∷ xs) kept first some = λ e. cc

-- what a script without an end of a line is, is its next line
last_line : (script : List ℕ) (new : Option (List ℕ)) (kept : List ℕ) → ReadsUnended script new kept → GivesLine script new kept
last_line [] new kept h = absurd (h.some refl)
last_line (x ∷ xs) new kept h = record {
  line = x ∷ xs;
  rest = [];
  next = record { unbroken = h.unbroken; ended = inr (refl, h.some, refl); lines = lines_of-last x xs h.unbroken };
  left = h.left;
  first = h.first;
}

-- the last line has no end
pub line_from_unended : (old new : Option (List ℕ)) (kept : List ℕ) → IfSome old (λ script. ReadsUnended script new kept)
    → IfSome old (λ script. GivesLine script new kept)
line_from_unended None new kept h = tt
line_from_unended (Some script) new kept h = last_line script new kept h

-- of a line with a byte some is kept, where there is room for one
some_kept : (n x : ℕ) (xs kept : List ℕ) → kept ≡ take (suc n) (x ∷ xs) → length kept ≡ 0 → ⊥
some_kept n x xs kept first none = omega (arith, ap length first)

no_line : (new : Option (List ℕ)) (line kept : List ℕ) → new ≡ Some [] → kept ≡ take (LONGEST_LINE + 1) line → length kept ≡ 0 → HasNoLine line new
no_line new [] kept left first none = record { none = refl; left = left }
no_line new (x ∷ xs) kept left first none = absurd (some_kept LONGEST_LINE x xs kept first none)

-- what was read at the end of a script has no end of a line
pub unended_from_parts : (old new : Option (List ℕ)) (kept : List ℕ) → ReadsPart old new ScriptEnd [] kept → OnSome old (IsAtEnd new) → 0 < length kept
    → IfSome old (λ script. ReadsUnended script new kept)
unended_from_parts None new kept h end some = tt
unended_from_parts (Some script) new kept h end some =
    let all = whole script new kept h end in
    rw all.1 (record { some = some_byte h.part kept h.first some; unbroken = h.unbroken; left = all.0; first = h.first })

-- no line was left
pub no_line_from_parts : (old new : Option (List ℕ)) (kept : List ℕ) → ReadsPart old new ScriptEnd [] kept → OnSome old (IsAtEnd new) → length kept ≡ 0
    → IfSome old (λ script. HasNoLine script new)
no_line_from_parts None new kept h end none = tt
no_line_from_parts (Some script) new kept h end none =
    let all = whole script new kept h end in
    subst (λ l. HasNoLine l new) (sym all.1) (no_line new h.part kept all.0 h.first none)

-- the reader failed in a line
pub stop_from_parts : (old mid new : Option (List ℕ)) (kept : List ℕ) → ReadsPart old mid Nothing [] kept → Keeps mid new
    → IfSome old (λ script. StopsInLine script new)
stop_from_parts None mid new kept h same = tt
stop_from_parts (Some script) None new kept h same = absurd h.consumed
stop_from_parts (Some script) (Some rest) None kept h same = absurd same
stop_from_parts (Some script) (Some rest) (Some left) kept h same = record {
  read = h.part;
  rest = left;
  split = h.consumed ∙ ap (λ l. l ++ rest) (append-nil h.part) ∙ ap (λ l. h.part ++ l) (sym same);
  unbroken = h.unbroken;
  left = refl;
}
