-- What the spelling of a superblock says at the places of its fields.
use Rattle.std.proofs.Common.{◌≡◌, ◌≢◌, ◌⊎◌, inl, inr, ℕ, zero, suc, ◌+◌, ◌*◌, ◌<◌, ◌≤◌, ◌^◌, List, [], ◌∷◌, ◌++◌, length, get_or, set, take, drop, replicate}
use Rattle.std.proofs.Common.{refl, sym, ap, subst, ◌∙◌, append_assoc, add-one, arith}
use Rattle.std.proofs.lemmas.Bool.{cases_lt, cases_eq}
use Rattle.std.proofs.lemmas.List.{length-append, length-replicate, same_lists, get_or_default, get_or-set_same, get_or-set_other}
use Rattle.byteorder.specs.Endian.{little_bytes, little_number}
use Rattle.layout_map.specs.declared.format.Format.{Format}
use Rattle.layout_map.specs.declared.format.Format.TheVariants.{One, Two}
use Rattle.layout_map.specs.Formats.{stripes_limit}
use Rattle.layout_map.proofs.Places.{chunk_most, rows_most}
use Rattle.superblock.specs.declared.fields.Fields.{Fields}
use Rattle.superblock.specs.declared.state.State.{State}
use Rattle.superblock.specs.declared.state.State.TheVariants.{Missing, InSync, Rebuilding}
use Rattle.superblock.specs.declared.table.Superblock.{Superblock}
use Rattle.superblock.specs.Reading.{fields_of}
use Rattle.superblock.specs.Spelling.{begin_mark, end_mark, format_digit, zeros, state_byte, entry_bytes, entries_bytes, head_bytes, tail_bytes}
use Rattle.superblock.specs.Spelling.{superblock_sector}
use Rattle.superblock.specs.Tables.{state_at, incarnation_at}
use Rattle.superblock.proofs.Parts.{HasAt, has_last, has_first, has_left, has_inner, read_number, read_byte, read_bytes, length-little_bytes}
use Rattle.superblock.proofs.Same.{same_superblock}

-- ---- lengths

pub length-begin_mark : (format : Format) → length (begin_mark format) ≡ 8
unfolding begin_mark
length-begin_mark One = refl
length-begin_mark Two = refl

pub length-end_mark : (format : Format) → length (end_mark format) ≡ 8
unfolding end_mark
length-end_mark One = refl
length-end_mark Two = refl

pub length-zeros : (n : ℕ) → length (zeros n) ≡ n
unfolding zeros
length-zeros n = length-replicate n 0

pub zeros_are : (n k : ℕ) → n ≡ k → replicate n 0 ≡ zeros k
unfolding zeros
zeros_are n k same = ap (λ (m : ℕ). replicate m 0) same

longer : (n k m : ℕ) (front field : List ℕ) → length front ≡ n → length field ≡ k → n + k ≡ m → length (front ++ field) ≡ m
longer n k m front field front_long field_long ends = length-append front field ∙ omega arith

length-entry_state : (state : State) → length ((state_byte state ∷ []) ++ zeros 7) ≡ 8
length-entry_state state = longer 1 7 8 (state_byte state ∷ []) (zeros 7) refl (length-zeros 7) refl

pub length-entry_bytes : (state : State) (incarnation : ℕ) → length (entry_bytes state incarnation) ≡ 16
unfolding entry_bytes
length-entry_bytes state incarnation =
    longer 8 8 16 ((state_byte state ∷ []) ++ zeros 7) (little_bytes 8 incarnation) (length-entry_state state) (length-little_bytes 8 incarnation) refl

pub length-entries_bytes : (n : ℕ) (states : List State) (incarnations : List ℕ) → length (entries_bytes n states incarnations) ≡ 16 * n
unfolding entries_bytes
length-entries_bytes zero states incarnations = refl
length-entries_bytes (suc n) states incarnations =
    longer (16 * n) 16 (16 * suc n) (entries_bytes n states incarnations) (entry_bytes (state_at states n) (incarnation_at incarnations n))
    (length-entries_bytes n states incarnations) (length-entry_bytes (state_at states n) (incarnation_at incarnations n)) (omega arith)

-- ---- the fields before the entries

abbrev up_to_id : Superblock → List ℕ
up_to_id s = begin_mark s.table.geometry.format ++ s.table.id

abbrev up_to_generation : Superblock → List ℕ
up_to_generation s = up_to_id s ++ little_bytes 8 s.table.generation

abbrev up_to_members : Superblock → List ℕ
up_to_members s = up_to_generation s ++ (s.table.geometry.members ∷ [])

abbrev up_to_role : Superblock → List ℕ
up_to_role s = up_to_members s ++ (s.role ∷ [])

abbrev up_to_chunk : Superblock → List ℕ
up_to_chunk s = up_to_role s ++ little_bytes 2 s.table.geometry.chunk

length-up_to_id : (s : Superblock) → length (up_to_id s) ≡ 24
length-up_to_id s = longer 8 16 24 (begin_mark s.table.geometry.format) s.table.id (length-begin_mark s.table.geometry.format) s.table.id_long refl

length-up_to_generation : (s : Superblock) → length (up_to_generation s) ≡ 32
length-up_to_generation s = longer 24 8 32 (up_to_id s) (little_bytes 8 s.table.generation) (length-up_to_id s) (length-little_bytes 8 s.table.generation) refl

length-up_to_members : (s : Superblock) → length (up_to_members s) ≡ 33
length-up_to_members s = longer 32 1 33 (up_to_generation s) (s.table.geometry.members ∷ []) (length-up_to_generation s) refl refl

length-up_to_role : (s : Superblock) → length (up_to_role s) ≡ 34
length-up_to_role s = longer 33 1 34 (up_to_members s) (s.role ∷ []) (length-up_to_members s) refl refl

length-up_to_chunk : (s : Superblock) → length (up_to_chunk s) ≡ 36
length-up_to_chunk s = longer 34 2 36 (up_to_role s) (little_bytes 2 s.table.geometry.chunk) (length-up_to_role s)
    (length-little_bytes 2 s.table.geometry.chunk) refl

pub length-head_bytes : (s : Superblock) → length (head_bytes s) ≡ 40
unfolding head_bytes
length-head_bytes s = longer 36 4 40 (up_to_chunk s) (little_bytes 4 s.table.geometry.stripes) (length-up_to_chunk s)
    (length-little_bytes 4 s.table.geometry.stripes) refl

-- a field that ends where the chunk's begins, or earlier, is a field of the head
in_head : (n : ℕ) (s : Superblock) (field : List ℕ) → HasAt n (up_to_role s) field → HasAt n (head_bytes s) field
unfolding head_bytes
in_head n s field has =
    has_left n (up_to_chunk s) field (little_bytes 4 s.table.geometry.stripes)
    (has_left n (up_to_role s) field (little_bytes 2 s.table.geometry.chunk) has)

in_members : (n : ℕ) (s : Superblock) (field : List ℕ) → HasAt n (up_to_members s) field → HasAt n (head_bytes s) field
in_members n s field has = in_head n s field (has_left n (up_to_members s) field (s.role ∷ []) has)

in_generation : (n : ℕ) (s : Superblock) (field : List ℕ) → HasAt n (up_to_generation s) field → HasAt n (head_bytes s) field
in_generation n s field has = in_members n s field (has_left n (up_to_generation s) field (s.table.geometry.members ∷ []) has)

head_mark : (s : Superblock) → HasAt 0 (head_bytes s) (begin_mark s.table.geometry.format)
head_mark s =
    in_generation 0 s (begin_mark s.table.geometry.format)
    (has_left 0 (up_to_id s) (begin_mark s.table.geometry.format) (little_bytes 8 s.table.generation)
    (has_first (begin_mark s.table.geometry.format) s.table.id))

head_id : (s : Superblock) → HasAt 8 (head_bytes s) s.table.id
head_id s = in_generation 8 s s.table.id (has_left 8 (up_to_id s) s.table.id (little_bytes 8 s.table.generation)
    (has_last 8 (begin_mark s.table.geometry.format) s.table.id (length-begin_mark s.table.geometry.format)))

head_generation : (s : Superblock) → HasAt 24 (head_bytes s) (little_bytes 8 s.table.generation)
head_generation s = in_generation 24 s (little_bytes 8 s.table.generation) (has_last 24 (up_to_id s) (little_bytes 8 s.table.generation) (length-up_to_id s))

head_members : (s : Superblock) → HasAt 32 (head_bytes s) (s.table.geometry.members ∷ [])
head_members s = in_members 32 s (s.table.geometry.members ∷ []) (has_last 32 (up_to_generation s) (s.table.geometry.members ∷ []) (length-up_to_generation s))

head_role : (s : Superblock) → HasAt 33 (head_bytes s) (s.role ∷ [])
head_role s = in_head 33 s (s.role ∷ []) (has_last 33 (up_to_members s) (s.role ∷ []) (length-up_to_members s))

head_chunk : (s : Superblock) → HasAt 34 (head_bytes s) (little_bytes 2 s.table.geometry.chunk)
unfolding head_bytes
head_chunk s =
    has_left 34 (up_to_chunk s) (little_bytes 2 s.table.geometry.chunk) (little_bytes 4 s.table.geometry.stripes)
    (has_last 34 (up_to_role s) (little_bytes 2 s.table.geometry.chunk) (length-up_to_role s))

head_stripes : (s : Superblock) → HasAt 36 (head_bytes s) (little_bytes 4 s.table.geometry.stripes)
unfolding head_bytes
head_stripes s = has_last 36 (up_to_chunk s) (little_bytes 4 s.table.geometry.stripes) (length-up_to_chunk s)

-- ---- the entries

entry_state : (state : State) (incarnation : ℕ) → HasAt 0 (entry_bytes state incarnation) (state_byte state ∷ [])
unfolding entry_bytes
entry_state state incarnation =
    has_left 0 ((state_byte state ∷ []) ++ zeros 7) (state_byte state ∷ []) (little_bytes 8 incarnation) (has_first (state_byte state ∷ []) (zeros 7))

entry_incarnation : (state : State) (incarnation : ℕ) → HasAt 8 (entry_bytes state incarnation) (little_bytes 8 incarnation)
unfolding entry_bytes
entry_incarnation state incarnation = has_last 8 ((state_byte state ∷ []) ++ zeros 7) (little_bytes 8 incarnation) (length-entry_state state)

entries_entry : (n slot : ℕ) (states : List State) (incarnations : List ℕ) → slot < n
    → HasAt (16 * slot) (entries_bytes n states incarnations) (entry_bytes (state_at states slot) (incarnation_at incarnations slot))
unfolding entries_bytes
entries_entry zero slot states incarnations within = absurd (omega arith)
entries_entry (suc n) slot states incarnations within =
    elim (cases_lt slot n) [
      | inl below ↦ has_left (16 * slot) (entries_bytes n states incarnations) (entry_bytes (state_at states slot) (incarnation_at incarnations slot))
          (entry_bytes (state_at states n) (incarnation_at incarnations n)) (entries_entry n slot states incarnations below)
      | inr past ↦
          let here : n ≡ slot = omega arith in
          subst (λ (k : ℕ). HasAt (16 * k) (entries_bytes (suc n) states incarnations) (entry_bytes (state_at states k) (incarnation_at incarnations k))) here
          (has_last (16 * n) (entries_bytes n states incarnations) (entry_bytes (state_at states n) (incarnation_at incarnations n))
          (length-entries_bytes n states incarnations))
    ]

-- ---- the fields after the entries

abbrev up_to_position : Superblock → List ℕ
up_to_position s = little_bytes 8 s.table.position

abbrev up_to_own : Superblock → List ℕ
up_to_own s = up_to_position s ++ little_bytes 8 (incarnation_at s.table.incarnations s.role)

length-up_to_own : (s : Superblock) → length (up_to_own s) ≡ 16
length-up_to_own s =
    longer 8 8 16 (up_to_position s) (little_bytes 8 (incarnation_at s.table.incarnations s.role)) (length-little_bytes 8 s.table.position)
    (length-little_bytes 8 (incarnation_at s.table.incarnations s.role)) refl

with_zeros : (n : ℕ) (front mark : List ℕ) → length front ≡ 16 → length mark ≡ 8 → length (front ++ zeros n ++ mark) ≡ 16 + n + 8
with_zeros n front mark long mark_long =
    longer (16 + n) 8 (16 + n + 8) (front ++ zeros n) mark (longer 16 n (16 + n) front (zeros n) long (length-zeros n) refl) mark_long refl

pub length-tail_bytes : (s : Superblock) → length (tail_bytes s) ≡ 312
unfolding tail_bytes
length-tail_bytes s =
    with_zeros 288 (up_to_own s) (end_mark s.table.geometry.format) (length-up_to_own s) (length-end_mark s.table.geometry.format)

tail_position : (s : Superblock) → HasAt 0 (tail_bytes s) (little_bytes 8 s.table.position)
unfolding tail_bytes
tail_position s =
    has_left 0 (up_to_own s ++ zeros 288) (up_to_position s) (end_mark s.table.geometry.format)
    (has_left 0 (up_to_own s) (up_to_position s) (zeros 288)
    (has_first (up_to_position s) (little_bytes 8 (incarnation_at s.table.incarnations s.role))))

-- ---- the sector

abbrev entries_of : Superblock → List ℕ
entries_of s = entries_bytes 10 s.table.states s.table.incarnations

length-before_tail : (s : Superblock) → length (head_bytes s ++ entries_of s) ≡ 200
length-before_tail s = longer 40 160 200 (head_bytes s) (entries_of s) (length-head_bytes s) (length-entries_bytes 10 s.table.states s.table.incarnations) refl

pub length-superblock_sector : (s : Superblock) → length (superblock_sector s) ≡ 512
unfolding superblock_sector
length-superblock_sector s = longer 200 312 512 (head_bytes s ++ entries_of s) (tail_bytes s) (length-before_tail s) (length-tail_bytes s) refl

sector_head : (s : Superblock) → HasAt 0 (superblock_sector s) (head_bytes s)
unfolding superblock_sector
sector_head s = has_left 0 (head_bytes s ++ entries_of s) (head_bytes s) (tail_bytes s) (has_first (head_bytes s) (entries_of s))

sector_entries : (s : Superblock) → HasAt 40 (superblock_sector s) (entries_of s)
unfolding superblock_sector
sector_entries s = has_left 40 (head_bytes s ++ entries_of s) (entries_of s) (tail_bytes s) (has_last 40 (head_bytes s) (entries_of s) (length-head_bytes s))

sector_tail : (s : Superblock) → HasAt 200 (superblock_sector s) (tail_bytes s)
unfolding superblock_sector
sector_tail s = has_last 200 (head_bytes s ++ entries_of s) (tail_bytes s) (length-before_tail s)

of_head : (n : ℕ) (s : Superblock) (field : List ℕ) → HasAt n (head_bytes s) field → HasAt n (superblock_sector s) field
of_head n s field has = has_inner 0 n n (superblock_sector s) (head_bytes s) field (sector_head s) has (omega arith)

of_entry : (slot n m : ℕ) (s : Superblock) (field : List ℕ) → slot < 10
    → HasAt n (entry_bytes (state_at s.table.states slot) (incarnation_at s.table.incarnations slot)) field
    → 40 + 16 * slot + n ≡ m → HasAt m (superblock_sector s) field
of_entry slot n m s field within has ends =
    let entry = entry_bytes (state_at s.table.states slot) (incarnation_at s.table.incarnations slot) in
    has_inner (40 + 16 * slot) n m (superblock_sector s) entry field
    (has_inner 40 (16 * slot) (40 + 16 * slot) (superblock_sector s) (entries_of s) entry (sector_entries s)
    (entries_entry 10 slot s.table.states s.table.incarnations within) refl)
    has ends

-- ---- what fits

-- whether a slot is rebuilding
not_first : (state : State) (states : List State) → state ≢ Rebuilding → ((slot : ℕ) → state_at states slot ≢ Rebuilding) → (slot : ℕ)
    → state_at (state ∷ states) slot ≢ Rebuilding
not_first state states first others zero = first
not_first state states first others (suc slot) = others slot

one_later : (state : State) (states : List State) → state ≢ Rebuilding → ((slot : ℕ) × (state_at states slot ≡ Rebuilding))
    ⊎ ((slot : ℕ) → state_at states slot ≢ Rebuilding)
    → ((slot : ℕ) × (state_at (state ∷ states) slot ≡ Rebuilding)) ⊎ ((slot : ℕ) → state_at (state ∷ states) slot ≢ Rebuilding)
one_later state states first (inl found) = inl (suc found.0, found.1)
one_later state states first (inr none) = inr (not_first state states first none)

pub some_rebuilding : (states : List State) → ((slot : ℕ) × (state_at states slot ≡ Rebuilding)) ⊎ ((slot : ℕ) → state_at states slot ≢ Rebuilding)
some_rebuilding [] = inr (λ slot same. absurd cc)
some_rebuilding (Rebuilding ∷ states) = inl (0, refl)
some_rebuilding (Missing ∷ states) = one_later Missing states (λ same. absurd cc) (some_rebuilding states)
some_rebuilding (InSync ∷ states) = one_later InSync states (λ same. absurd cc) (some_rebuilding states)

stripes_number : (format : Format) (stripes : ℕ) → stripes ≤ stripes_limit format → stripes < 256 ^ 4
stripes_number One stripes few = omega (arith, few)
stripes_number Two stripes few = omega (arith, few)

position_fits : (s : Superblock) → s.table.position < 256 ^ 8
position_fits s = elim (some_rebuilding s.table.states) [
  | inl found ↦ omega (arith, s.table.allowed.position_below found.0 found.1, rows_most s.table.geometry.limits)
  | inr none ↦ let zero_position = s.table.allowed.no_position none in omega arith
]

generation_fits : (s : Superblock) → s.table.generation < 256 ^ 8
generation_fits s = omega (arith, s.table.allowed.generation_most)

incarnation_fits : (s : Superblock) (slot : ℕ) → incarnation_at s.table.incarnations slot < 256 ^ 8
incarnation_fits s slot =
    elim (cases_lt slot (s.table.geometry.members + 2)) [
      | inl within ↦ omega (arith, s.table.allowed.incarnation_most slot within)
      | inr beyond ↦ omega (arith, s.table.allowed.zero_beyond slot beyond)
    ]

-- ---- what is read

-- the first mark begins with an R, and ends with the format's digit
mark_letter : (format : Format) (rest : List ℕ) → get_or (begin_mark format ++ rest) 0 0 ≡ 82
unfolding begin_mark
mark_letter One rest = refl
mark_letter Two rest = refl

mark_digit : (format : Format) (rest : List ℕ) → get_or (begin_mark format ++ rest) 7 0 ≡ format_digit format
unfolding begin_mark
mark_digit One rest = refl
mark_digit Two rest = refl

empty_is : (xs : List ℕ) → length xs ≡ 0 → xs ≡ []
empty_is [] none = refl
empty_is (x ∷ xs) none = absurd (omega arith)

sector_mark : (s : Superblock) → HasAt 0 (superblock_sector s) (begin_mark s.table.geometry.format)
sector_mark s = of_head 0 s (begin_mark s.table.geometry.format) (head_mark s)

sector_begins : (s : Superblock) → superblock_sector s ≡ begin_mark s.table.geometry.format ++ (sector_mark s).rest
sector_begins s =
    let has = sector_mark s in
    has.parts ∙ ap (λ (p : List ℕ). p ++ (begin_mark s.table.geometry.format ++ has.rest)) (empty_is has.front has.front_long)

pub read_letter : (s : Superblock) → get_or (superblock_sector s) 0 0 ≡ 82
read_letter s = ap (λ (p : List ℕ). get_or p 0 0) (sector_begins s) ∙ mark_letter s.table.geometry.format (sector_mark s).rest

pub read_digit : (s : Superblock) → get_or (superblock_sector s) 7 0 ≡ format_digit s.table.geometry.format
read_digit s = ap (λ (p : List ℕ). get_or p 7 0) (sector_begins s) ∙ mark_digit s.table.geometry.format (sector_mark s).rest

pub read_id : (s : Superblock) → take 16 (drop 8 (superblock_sector s)) ≡ s.table.id
read_id s = read_bytes 8 16 (superblock_sector s) s.table.id (of_head 8 s s.table.id (head_id s)) s.table.id_long

pub read_generation : (s : Superblock) → little_number 8 (drop 24 (superblock_sector s)) ≡ s.table.generation
read_generation s = read_number 24 8 s.table.generation (superblock_sector s) (of_head 24 s (little_bytes 8 s.table.generation) (head_generation s))
    (generation_fits s)

pub read_members : (s : Superblock) → get_or (superblock_sector s) 32 0 ≡ s.table.geometry.members
read_members s = read_byte 32 s.table.geometry.members (superblock_sector s) (of_head 32 s (s.table.geometry.members ∷ []) (head_members s))

pub read_role : (s : Superblock) → get_or (superblock_sector s) 33 0 ≡ s.role
read_role s = read_byte 33 s.role (superblock_sector s) (of_head 33 s (s.role ∷ []) (head_role s))

pub read_chunk : (s : Superblock) → little_number 2 (drop 34 (superblock_sector s)) ≡ s.table.geometry.chunk
read_chunk s =
    read_number 34 2 s.table.geometry.chunk (superblock_sector s) (of_head 34 s (little_bytes 2 s.table.geometry.chunk) (head_chunk s))
    (omega (arith, chunk_most s.table.geometry.limits))

pub read_stripes : (s : Superblock) → little_number 4 (drop 36 (superblock_sector s)) ≡ s.table.geometry.stripes
read_stripes s =
    read_number 36 4 s.table.geometry.stripes (superblock_sector s) (of_head 36 s (little_bytes 4 s.table.geometry.stripes) (head_stripes s))
    (omega (arith, stripes_number s.table.geometry.format s.table.geometry.stripes s.table.geometry.limits.stripes_most))

pub read_state : (s : Superblock) (slot at : ℕ) → slot < 10 → 40 + 16 * slot ≡ at
    → get_or (superblock_sector s) at 0 ≡ state_byte (state_at s.table.states slot)
read_state s slot at within place =
    let state = state_at s.table.states slot in
    read_byte at (state_byte state) (superblock_sector s)
    (of_entry slot 0 at s (state_byte state ∷ []) within (entry_state state (incarnation_at s.table.incarnations slot)) (omega arith))

pub read_incarnation : (s : Superblock) (slot at : ℕ) → slot < 10 → 48 + 16 * slot ≡ at
    → little_number 8 (drop at (superblock_sector s)) ≡ incarnation_at s.table.incarnations slot
read_incarnation s slot at within place =
    let incarnation = incarnation_at s.table.incarnations slot in
    read_number at 8 incarnation (superblock_sector s)
    (of_entry slot 8 at s (little_bytes 8 incarnation) within (entry_incarnation (state_at s.table.states slot) incarnation) (omega arith))
    (incarnation_fits s slot)

pub read_position : (s : Superblock) → little_number 8 (drop 200 (superblock_sector s)) ≡ s.table.position
read_position s =
    read_number 200 8 s.table.position (superblock_sector s)
    (has_inner 200 0 200 (superblock_sector s) (tail_bytes s) (little_bytes 8 s.table.position) (sector_tail s) (tail_position s) refl) (position_fits s)

-- ---- one sector spells one superblock

same_state : (a b : State) → state_byte a ≡ state_byte b → a ≡ b
same_state Missing Missing same = refl
same_state InSync InSync same = refl
same_state Rebuilding Rebuilding same = refl
same_state Missing InSync same = absurd cc
same_state Missing Rebuilding same = absurd cc
same_state InSync Missing same = absurd cc
same_state InSync Rebuilding same = absurd cc
same_state Rebuilding Missing same = absurd cc
same_state Rebuilding InSync same = absurd cc

same_format : (a b : Format) → format_digit a ≡ format_digit b → a ≡ b
same_format One One same = refl
same_format Two Two same = refl
same_format One Two same = absurd (omega arith)
same_format Two One same = absurd (omega arith)

format_same : (s t : Superblock) → superblock_sector s ≡ superblock_sector t → s.table.geometry.format ≡ t.table.geometry.format
format_same s t same =
    same_format s.table.geometry.format t.table.geometry.format
    (sym (read_digit s) ∙ ap (λ (x : List ℕ). get_or x 7 0) same ∙ read_digit t)

states_same : (s t : Superblock) → superblock_sector s ≡ superblock_sector t → s.table.states ≡ t.table.states
states_same s t same =
    same_lists s.table.states t.table.states (s.table.allowed.ten_states ∙ sym t.table.allowed.ten_states) (λ slot d within.
    let below : slot < 10 = omega (arith, s.table.allowed.ten_states) in
    get_or_default s.table.states slot d Missing within
    ∙ same_state (state_at s.table.states slot) (state_at t.table.states slot)
    (sym (read_state s slot (40 + 16 * slot) below refl) ∙ ap (λ (x : List ℕ). get_or x (40 + 16 * slot) 0) same
    ∙ read_state t slot (40 + 16 * slot) below refl)
    ∙ get_or_default t.table.states slot Missing d (omega (arith, t.table.allowed.ten_states)))

incarnations_same : (s t : Superblock) → superblock_sector s ≡ superblock_sector t → s.table.incarnations ≡ t.table.incarnations
incarnations_same s t same =
    same_lists s.table.incarnations t.table.incarnations (s.table.allowed.ten_incarnations ∙ sym t.table.allowed.ten_incarnations) (λ slot d within.
    let below : slot < 10 = omega (arith, s.table.allowed.ten_incarnations) in
    get_or_default s.table.incarnations slot d 0 within
    ∙ sym (read_incarnation s slot (48 + 16 * slot) below refl) ∙ ap (λ (x : List ℕ). little_number 8 (drop (48 + 16 * slot) x)) same
    ∙ read_incarnation t slot (48 + 16 * slot) below refl
    ∙ get_or_default t.table.incarnations slot 0 d (omega (arith, t.table.allowed.ten_incarnations)))

pub fields_same : (a b : Fields) → a.format ≡ b.format → a.id ≡ b.id → a.generation ≡ b.generation → a.members ≡ b.members → a.role ≡ b.role → a.chunk ≡ b.chunk
    → a.stripes ≡ b.stripes
    → a.states ≡ b.states → a.incarnations ≡ b.incarnations → a.position ≡ b.position → a ≡ b
fields_same a b format id generation members role chunk stripes states incarnations position = λ i. record {
  format = format i;
  id = id i;
  generation = generation i;
  members = members i;
  role = role i;
  chunk = chunk i;
  stripes = stripes i;
  states = states i;
  incarnations = incarnations i;
  position = position i;
}

pub one_superblock : (s t : Superblock) → superblock_sector s ≡ superblock_sector t → s ≡ t
one_superblock s t same =
    same_superblock s t (fields_same (fields_of s) (fields_of t)
    (format_same s t same)
    (sym (read_id s) ∙ ap (λ (x : List ℕ). take 16 (drop 8 x)) same ∙ read_id t)
    (sym (read_generation s) ∙ ap (λ (x : List ℕ). little_number 8 (drop 24 x)) same ∙ read_generation t)
    (sym (read_members s) ∙ ap (λ (x : List ℕ). get_or x 32 0) same ∙ read_members t)
    (sym (read_role s) ∙ ap (λ (x : List ℕ). get_or x 33 0) same ∙ read_role t)
    (sym (read_chunk s) ∙ ap (λ (x : List ℕ). little_number 2 (drop 34 x)) same ∙ read_chunk t)
    (sym (read_stripes s) ∙ ap (λ (x : List ℕ). little_number 4 (drop 36 x)) same ∙ read_stripes t)
    (states_same s t same)
    (incarnations_same s t same)
    (sym (read_position s) ∙ ap (λ (x : List ℕ). little_number 8 (drop 200 x)) same ∙ read_position t))

-- ten states that are read are those of the superblock
pub states_are : (s : Superblock) (states : List State) → length states ≡ 10 → ((slot : ℕ) → slot < 10 → state_at states slot ≡ state_at s.table.states slot)
    → states ≡ s.table.states
states_are s states long each = same_lists states s.table.states (long ∙ sym s.table.allowed.ten_states) (λ slot d within.
    get_or_default states slot d Missing within ∙ each slot (omega arith)
    ∙ get_or_default s.table.states slot Missing d (omega (arith, s.table.allowed.ten_states)))

-- likewise ten incarnations
pub incarnations_are : (s : Superblock) (incarnations : List ℕ) → length incarnations ≡ 10
    → ((slot : ℕ) → slot < 10 → incarnation_at incarnations slot ≡ incarnation_at s.table.incarnations slot) → incarnations ≡ s.table.incarnations
incarnations_are s incarnations long each = same_lists incarnations s.table.incarnations (long ∙ sym s.table.allowed.ten_incarnations) (λ slot d within.
    get_or_default incarnations slot d 0 within ∙ each slot (omega arith)
    ∙ get_or_default s.table.incarnations slot 0 d (omega (arith, s.table.allowed.ten_incarnations)))

-- one element more is as in the other list
pub one_more : {A : Type 0} (xs ys : List A) (n : ℕ) (x d : A) → n < length xs → x ≡ get_or ys n d → ((k : ℕ) → k < n → get_or xs k d ≡ get_or ys k d)
    → (k : ℕ) → k < n + 1 → get_or (set xs n x) k d ≡ get_or ys k d
one_more xs ys n x d within here before k below = elim (cases_eq k n) [
  | inl same ↦ rw same (get_or-set_same xs n x d within ∙ here)
  | inr other ↦ get_or-set_other xs n k x d other ∙ before k (omega arith)
]

-- ---- what is written

pub entries_none : (states : List State) (incarnations : List ℕ) → entries_bytes 0 states incarnations ≡ []
unfolding entries_bytes
entries_none states incarnations = refl

-- one entry more
pub entries_more : (front : List ℕ) (slot : ℕ) (states : List State) (incarnations : List ℕ)
    → ((front ++ entries_bytes slot states incarnations) ++ (state_byte (state_at states slot) ∷ [])) ++ zeros 7
    ++ little_bytes 8 (incarnation_at incarnations slot)
    ≡ front ++ entries_bytes (slot + 1) states incarnations
unfolding entries_bytes entry_bytes
entries_more front slot states incarnations = rw add-one (simp append_assoc)

regrouped : (front a b c d : List ℕ) → (((front ++ a) ++ b) ++ c) ++ d ≡ front ++ (((a ++ b) ++ c) ++ d)
regrouped front a b c d = simp append_assoc

pub tail_after : (front : List ℕ) (s : Superblock)
    → (((front ++ little_bytes 8 s.table.position) ++ little_bytes 8 (incarnation_at s.table.incarnations s.role)) ++ zeros 288)
    ++ end_mark s.table.geometry.format ≡ front ++ tail_bytes s
unfolding tail_bytes
tail_after front s = regrouped front (little_bytes 8 s.table.position) (little_bytes 8 (incarnation_at s.table.incarnations s.role)) (zeros 288)
    (end_mark s.table.geometry.format)
