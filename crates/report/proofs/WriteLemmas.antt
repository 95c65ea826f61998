-- Texts that are written in pieces.
use Rattle.std.proofs.Common.{◌≡◌, ◌≢◌, ℕ, suc, ◌<◌, List, [], ◌∷◌, ◌++◌, Option, length, get_or, take, drop, refl, sym, ap, subst, ◌∙◌, append_assoc, arith}
use Rattle.std.proofs.Common.{take-append-drop, drop-cons}
use Rattle.std.specs.List.{flat_map}
use Rattle.std.proofs.lemmas.Grind.{flat_map-append}
use Rattle.std.specs.Io.KnownBytes.{Appends, Keeps}
use Rattle.std.proofs.KnownBytes.{Appends-nil, Appends-trans, Appends-kept}
use Rattle.report.specs.Written.{AppendsPart}

append_nonempty : (xs ys : List ℕ) → xs ≢ [] → xs ++ ys ≢ []
append_nonempty [] ys some e = some refl
append_nonempty (x ∷ xs) ys some e = cc

-- a part of the first piece is a part of both
pub AppendsPart-front : (old new : Option (List ℕ)) (first second : List ℕ) → AppendsPart old new first → AppendsPart old new (first ++ second)
AppendsPart-front old new first second h =
    let rest = h.is_part.rest in
    record {
      part = h.part;
      is_part = record {
        rest = rest ++ second;
        joined = sym (append_assoc h.part rest second) ∙ ap (λ l. l ++ second) h.is_part.joined;
        some = append_nonempty rest second h.is_part.some;
      };
      written = h.written;
    }

-- a part of the second piece after the whole first is a part of both
pub AppendsPart-after : (old mid new : Option (List ℕ)) (first second : List ℕ) → Appends old mid first → AppendsPart mid new second
    → AppendsPart old new (first ++ second)
AppendsPart-after old mid new first second done h = record {
  part = first ++ h.part;
  is_part = record {
    rest = h.is_part.rest;
    joined = append_assoc first h.part h.is_part.rest ∙ ap (λ l. first ++ l) h.is_part.joined;
    some = h.is_part.some;
  };
  written = Appends-trans old mid new first h.part done h.written;
}

-- where nothing was written of a text that has bytes
pub AppendsPart-none : (old new : Option (List ℕ)) (text : List ℕ) → 0 < length text → Keeps old new → AppendsPart old new text
AppendsPart-none old new text some kept = record {
  part = [];
  is_part = record { rest = text; joined = refl; some = λ e. absurd (omega (arith, ap length e)) };
  written = Appends-kept old old new [] (Appends-nil old) kept;
}

-- the bytes of a front, those of the item after it, and the others
flat_map-split : {X : Type 0} (f : X → List ℕ) (xs : List X) (i : ℕ) (d : X) → i < length xs
    → flat_map f xs ≡ flat_map f (take i xs) ++ (f (get_or xs i d) ++ flat_map f (drop (suc i) xs))
flat_map-split f xs i d within =
    ap (flat_map f) (sym (take-append-drop i xs)) ∙ flat_map-append f (take i xs) (drop i xs)
    ∙ ap (λ l. flat_map f (take i xs) ++ flat_map f l) (drop-cons xs i d within)

-- the items before one are written, and a part of that one
pub AppendsPart-item : {X : Type 0} (f : X → List ℕ) (old mid new : Option (List ℕ)) (xs : List X) (i : ℕ) (d : X) → i < length xs
    → Appends old mid (flat_map f (take i xs)) → AppendsPart mid new (f (get_or xs i d)) → AppendsPart old new (flat_map f xs)
AppendsPart-item f old mid new xs i d within before part =
    subst (AppendsPart old new) (sym (flat_map-split f xs i d within))
    (AppendsPart-after old mid new _ _ before (AppendsPart-front mid new _ (flat_map f (drop (suc i) xs)) part))
