-- Facts on the fields of a line.
use Rattle.std.proofs.Common.{◌≡◌, ◌≢◌, ℕ, ◌==◌, Bool, true, false, cond, ltb, List, [], ◌∷◌, ◌++◌, length, get_or, take, drop, Some, None, ◌+◌, inl, inr, refl}
use Rattle.std.proofs.Common.{sym, ap, ◌∙◌, arith}
use Rattle.std.specs.Prelude.{All}
use Rattle.std.proofs.lemmas.Bool.{cases_eq, ltb-true, ltb-false, ne_eqb}
use Rattle.std.proofs.lemmas.List.Sums.{fails_before_first}
use Rattle.std.specs.List.{join_with_byte, onto_first, position, position_or_len}
use Rattle.std.proofs.lemmas.List.{append-nil}
use Rattle.std.proofs.lemmas.List.Elements.{All-cons, All-head, All-nil, All-tail}
use Rattle.std.proofs.lemmas.List.Splits.{join_with_byte-slice_split, slice_split_at, slice_split_first, slice_split_none}
use Rattle.report.specs.Fields.{fields_of}
use Rattle.report.specs.Grammar.{spaced}

abbrev pub HasNoSpace : List ℕ → Type 0
HasNoSpace field = All (λ byte. byte ≢ 32) field

-- a byte that is no space fails the test at which a line is split
fails_test : (field : List ℕ) → HasNoSpace field → All (λ byte. (byte == 32) ≡ false) field
fails_test field h = λ k d lt. ne_eqb (get_or field k d) 32 (h k d lt)

-- fields with single spaces between them split into themselves
pub fields_of-spaced : (first : List ℕ) (rest : List (List ℕ)) → HasNoSpace first → All HasNoSpace rest → fields_of (first ++ spaced rest) ≡ first ∷ rest
fields_of-spaced first [] h hs =
    ap fields_of (append-nil first) ∙ slice_split_none _ first (fails_test first h)
fields_of-spaced first (field ∷ rest) h hs =
    slice_split_at _ first 32 (field ++ spaced rest) (fails_test first h) refl
    ∙ ap (λ (more : List (List ℕ)). first ∷ more) (fields_of-spaced field rest (All-head HasNoSpace field rest hs) (All-tail HasNoSpace field rest hs))

join-spaced : (first : List ℕ) (rest : List (List ℕ)) → join_with_byte 32 (first ∷ rest) ≡ first ++ spaced rest
join-spaced first [] = sym (append-nil first)
join-spaced first (field ∷ rest) = ap (λ (bytes : List ℕ). first ++ (32 ∷ bytes)) (join-spaced field rest)

-- a line is its fields with single spaces between them
pub line-fields : (line first : List ℕ) (rest : List (List ℕ)) → fields_of line ≡ first ∷ rest → line ≡ first ++ spaced rest
line-fields line first rest h =
    sym (join_with_byte-slice_split 32 line) ∙ ap (join_with_byte 32) h ∙ join-spaced first rest

-- a byte in front of the first of some fields
no_space-onto_first : (byte : ℕ) (parts : List (List ℕ)) → byte ≢ 32 → All HasNoSpace parts → All HasNoSpace (onto_first byte parts)
no_space-onto_first byte [] h hs =
    All-cons HasNoSpace (byte ∷ []) [] (All-cons (λ b. b ≢ 32) byte [] h (All-nil (λ b. b ≢ 32))) hs
no_space-onto_first byte (part ∷ parts) h hs =
    All-cons HasNoSpace (byte ∷ part) parts (All-cons (λ b. b ≢ 32) byte part h (All-head HasNoSpace part parts hs))
    (All-tail HasNoSpace part parts hs)

-- no field has a space
pub no_space-fields_of : (line : List ℕ) → All HasNoSpace (fields_of line)
no_space-fields_of [] = All-cons HasNoSpace [] [] (All-nil (λ b. b ≢ 32)) (All-nil HasNoSpace)
no_space-fields_of (byte ∷ line) =
    elim (cases_eq byte 32) [
      | inl here ↦ rw here (All-cons HasNoSpace [] (fields_of line) (All-nil (λ b. b ≢ 32)) (no_space-fields_of line))
      | inr other ↦
          rw (ne_eqb byte 32 other) (no_space-onto_first byte (fields_of line) other (no_space-fields_of line))
    ]

cond_some : (b : Bool) (at space : ℕ) → cond b (Some at) None ≡ Some space → (b ≡ true) × (at ≡ space)
cond_some true at space h = (refl, cc)
cond_some false at space h = cc

cond_none : (b : Bool) (at : ℕ) → cond b (Some at) None ≡ None → b ≡ false
cond_none true at h = cc
cond_none false at h = refl

-- the bytes up to the first space are the first field, and the fields after it are those of the rest
pub fields_of-found : (line : List ℕ) (space : ℕ) → position (λ byte. byte == 32) line ≡ Some space
    → fields_of line ≡ take space line ∷ fields_of (drop (space + 1) line)
fields_of-found line space h =
    let test : ℕ → Bool = λ byte. byte == 32 in
    let found = cond_some (ltb (position_or_len test line) (length line)) (position_or_len test line) space h in
    rw found.1 at (slice_split_first test line 0 (ltb-true (position_or_len test line) (length line) found.0))

-- a line without a space is its only field
pub fields_of-none : (line : List ℕ) → position (λ byte. byte == 32) line ≡ None → fields_of line ≡ line ∷ []
fields_of-none line h =
    let test : ℕ → Bool = λ byte. byte == 32 in
    let past = ltb-false (position_or_len test line) (length line) (cond_none (ltb (position_or_len test line) (length line)) (position_or_len test line) h) in
    slice_split_none test line (λ k d lt. fails_before_first test line k d (omega arith))
