-- An entry's sectors, by row and member, and its body.
use denote.Struct.Props.{props}
use Rattle.std.proofs.Common.{◌≡◌, ◌≢◌, inl, inr, Bool, true, false, cond, ℕ, zero, suc, ◌+◌, ◌-◌, ◌<◌, ◌≤◌, List, [], ◌∷◌, ◌++◌, length, drop, get_or}
use Rattle.std.proofs.Common.{◌==◌, map, refl, sym, subst, ap, ◌∙◌, arith}
use Rattle.std.specs.Prelude.{Err, Ok, filter, replicate, vec_len}
use Rattle.std.specs.Vec.{with_item}
use Rattle.entry_runs.specs.declared.sizes.TheConstants.{MOST_HELD}
use Rattle.std.specs.List.{flat_map, range_with_len}
use Rattle.std.proofs.lemmas.Bool.{cases_eq}
use Rattle.std.proofs.lemmas.List.{flat_map_more, length-append, get_or-take, get_or-drop, get_or-set_same, get_or-set_other, get_or_append_left}
use Rattle.std.proofs.lemmas.List.{get_or-append-add, get_or_at, map-append}
use Rattle.std.proofs.lemmas.List.Elements.{filter-append}
use Rattle.layout_map.specs.declared.sizes.TheConstants.{MOST_MEMBERS}
use Rattle.sector_model.specs.declared.sector.Stop.{Stop}
use Rattle.sector_model.specs.Bank.{IsTrueTo, Panel, after_try, after_write}
use Rattle.sector_model.specs.Calls.{Call, Write, Made, writes_from}
use Rattle.sector_model.specs.History.{History, Bytes}
use Rattle.sector_model.proofs.Sequences.{made_both, made_short, made_stop, made_then}
use Rattle.stripe_journal.specs.declared.entry.Entry.{Entry}
use Rattle.stripe_journal.specs.Entries.{body_of, form_of, held_of, numbers_of, place_at, row_mask, row_of, sector_at, sector_of_row}
use Rattle.stripe_journal.specs.Entries.{holds_sector, sector_in_row, sector_of_mask, with_sector}
use Rattle.entry_runs.specs.Body.{bits_below, count_held, has_bit}
use Rattle.entry_runs.proofs.Counts.{count_beyond}
use Rattle.arrayvec.specs.ArrayVec.{ArrayVec}
use Rattle.stripe_journal.specs.declared.form.Form.{Form}
use Rattle.stripe_journal.specs.declared.form.Form.TheVariants.{Held}
use Rattle.stripe_journal.specs.Forms.{held_before, held_members, in_body, mask_at, rank}
use Rattle.stripe_journal.proofs.EntryRows.{place_within}
use Rattle.stripe_journal.proofs.Masks.{before_agrees, one_rank, rank_agrees, rank_before}

-- writes of one list of values after another
pub writes_both : (device at : ℕ) (first second : List Bytes) → writes_from device at (first ++ second) ≡ writes_from device at first
    ++ writes_from device (at + length first) second
writes_both device at [] second = ap (λ (n : ℕ). writes_from device n second) (none at)
  where
    none : (at : ℕ) → at ≡ at + 0
    none at = omega arith
writes_both device at (value ∷ first) second =
    ap (λ (calls : List Call). Write device at value ∷ calls) (writes_both device (at + 1) first second)
    ∙ ap (λ (n : ℕ). writes_from device at (value ∷ first) ++ writes_from device n second) (next at (length first))
  where
    next : (at n : ℕ) → (at + 1) + n ≡ at + suc n
    next at n = omega arith

-- ranges, one number longer
range_more : (a n : ℕ) → range_with_len a (suc n) ≡ range_with_len a n ++ (a + n) ∷ []
range_more a zero = ap (λ (k : ℕ). k ∷ []) (none a)
  where
    none : (a : ℕ) → a ≡ a + 0
    none a = omega arith
range_more a (suc n) = ap (λ (ks : List ℕ). a ∷ ks) (range_more (a + 1) n) ∙ ap (λ (k : ℕ). (a ∷ range_with_len (a + 1) n) ++ k ∷ []) (on a n)
  where
    on : (a n : ℕ) → (a + 1) + n ≡ a + suc n
    on a n = omega arith

-- the sectors of the members that are held

values_more : (value : ℕ → Bytes) (members : List ℕ) (n : ℕ) (b : Bool) → map value (members ++ cond b (n ∷ []) []) ≡ map value members
    ++ cond b (value n ∷ []) []
values_more value members n true = map-append value members (n ∷ [])
values_more value members n false = map-append value members []

-- with one member more
values_next : (held : ℕ → Bool) (value : ℕ → Bytes) (n : ℕ) → map value (held_members (suc n) held) ≡ map value (held_members n held)
    ++ cond (held n) (value n ∷ []) []
values_next held value n =
    ap (λ (ks : List ℕ). map value (filter held ks)) (range_more 0 n ∙ ap (λ (k : ℕ). range_with_len 0 n ++ k ∷ []) (zero-add n))
    ∙ ap (map value) (filter-append held (range_with_len 0 n) (n ∷ []))
    ∙ values_more value (held_members n held) n (held n)
  where
    zero-add : (n : ℕ) → 0 + n ≡ n
    zero-add n = omega arith

length_more : (values : List Bytes) (value : Bytes) (b : Bool) → length (values ++ cond b (value ∷ []) []) ≡ length values + cond b 1 0
length_more values value true = length-append values (value ∷ [])
length_more values value false = length-append values []

-- there are as many as are held
pub length-held : (held : ℕ → Bool) (value : ℕ → Bytes) (n : ℕ) → length (map value (held_members n held)) ≡ count_held held n
length-held held value zero = refl
length-held held value (suc n) =
    ap length (values_next held value n) ∙ length_more (map value (held_members n held)) (value n) (held n)
    ∙ ap (λ (k : ℕ). k + cond (held n) 1 0) (length-held held value n)

-- and that of a member stands after those of the members below it
pub value_at : (held : ℕ → Bool) (value : ℕ → Bytes) (n member : ℕ) → held member ≡ true → member < n
    → get_or (map value (held_members n held)) (count_held held member) [] ≡ value member
value_at held value zero member is within = absurd (omega (arith, within))
value_at held value (suc n) member is within =
    let before = map value (held_members n held) in
    let long : length before ≡ count_held held n = length-held held value n in
    ap (λ (l : List Bytes). get_or l (count_held held member) []) (values_next held value n)
    ∙ elim (cases_eq member n) [
      | inl same ↦
          let there : held n ≡ true = ap held (sym same) ∙ is in
          let last : length before ≡ count_held held member = long ∙ ap (count_held held) (sym same) in
          ap (λ (b : Bool). get_or (before ++ cond b (value n ∷ []) []) (count_held held member) []) there
          ∙ get_or_at before (value n) [] [] (count_held held member) last ∙ ap value (sym same)
      | inr other ↦
          let below : member < n = omega (arith, within, other) in
          get_or_append_left before (cond (held n) (value n ∷ []) []) [] (count_held held member) (omega (arith, long, count_beyond held member n is below))
          ∙ value_at held value n member is below
    ]

-- what a row holds of the members from one on
abbrev pub held_from : (members mask : ℕ) (row : List Bytes) (member : ℕ) → List Bytes
held_from members mask row member = map (sector_of_row mask row) (filter (has_bit mask) (range_with_len member (members - member)))

held_next : (members mask : ℕ) (row : List Bytes) (member : ℕ) → member < members
    → held_from members mask row member ≡ map (sector_of_row mask row)
    (cond (has_bit mask member) (member ∷ filter (has_bit mask) (range_with_len (member + 1) (members - (member + 1))))
    (filter (has_bit mask) (range_with_len (member + 1) (members - (member + 1)))))
held_next members mask row member within =
    let more : members - member ≡ suc (members - (member + 1)) = omega arith in
    ap (λ (k : ℕ). map (sector_of_row mask row) (filter (has_bit mask) (range_with_len member k))) more

pub held_first : (members mask : ℕ) (row : List Bytes) (member : ℕ) → member < members → has_bit mask member ≡ true
    → held_from members mask row member ≡ sector_of_row mask row member ∷ held_from members mask row (member + 1)
held_first members mask row member within is =
    let rest = filter (has_bit mask) (range_with_len (member + 1) (members - (member + 1))) in
    held_next members mask row member within ∙ ap (λ (b : Bool). map (sector_of_row mask row) (cond b (member ∷ rest) rest)) is

pub held_later : (members mask : ℕ) (row : List Bytes) (member : ℕ) → member < members → has_bit mask member ≡ false
    → held_from members mask row member ≡ held_from members mask row (member + 1)
held_later members mask row member within is =
    let rest = filter (has_bit mask) (range_with_len (member + 1) (members - (member + 1))) in
    held_next members mask row member within ∙ ap (λ (b : Bool). map (sector_of_row mask row) (cond b (member ∷ rest) rest)) is

-- the writes of what a row holds, from one member on

pub held_then : (device at members mask : ℕ) (row : List Bytes) (member : ℕ) (value : Bytes) {answered : Bool} {old mid new : History} (done : Unit {0})
    (after : Panel) → member < members → has_bit mask member ≡ true
    → value ≡ sector_of_row mask row member → mid ≡ after_try (after_write device at value) (Ok done) old → after.down device ≡ false → IsTrueTo after mid
    → Made (writes_from device (at + 1) (held_from members mask row (member + 1))) answered mid new
    → Made (writes_from device at (held_from members mask row member)) answered old new
held_then device at members mask row member value {answered = answered} {old = old} {mid = mid} {new = new} done after within held is write up is_true rest =
    let first = subst (λ (v : Bytes). mid ≡ after_try (after_write device at v) (Ok done) old) is write in
    subst (λ (values : List Bytes). Made (writes_from device at values) answered old new) (sym (held_first members mask row member within held))
    (made_then (Write device at (sector_of_row mask row member)) done after first up is_true rest)

pub held_short : (device at members mask : ℕ) (row : List Bytes) (member : ℕ) (value : Bytes) {old new : History} (stop : Stop) → member < members
    → has_bit mask member ≡ true
    → value ≡ sector_of_row mask row member → new ≡ after_try (after_write device at value) (Err stop) old
    → Made (writes_from device at (held_from members mask row member)) false old new
held_short device at members mask row member value {old = old} {new = new} stop within held is write =
    let first = subst (λ (v : Bytes). new ≡ after_try (after_write device at v) (Err stop) old) is write in
    subst (λ (values : List Bytes). Made (writes_from device at values) false old new) (sym (held_first members mask row member within held))
    (made_stop (Write device at (sector_of_row mask row member)) stop first)

pub lacking_then : (device at members mask : ℕ) (row : List Bytes) (member : ℕ) {answered : Bool} {old new : History} → member < members
    → has_bit mask member ≡ false
    → Made (writes_from device at (held_from members mask row (member + 1))) answered old new
    → Made (writes_from device at (held_from members mask row member)) answered old new
lacking_then device at members mask row member {answered = answered} {old = old} {new = new} within lacking rest =
    subst (λ (values : List Bytes). Made (writes_from device at values) answered old new) (sym (held_later members mask row member within lacking)) rest

-- what the i-th row of an entry holds
abbrev pub row_held : (members : ℕ) → Entry → (i : ℕ) → List Bytes
row_held members entry i = held_of members (row_mask entry i) (row_of entry i)

pub length-row : (members : ℕ) (entry : Entry) (i : ℕ) → length (row_held members entry i) ≡ count_held (in_body members (form_of entry) i) members
length-row members entry i = length-held (has_bit (row_mask entry i)) (sector_of_row (row_mask entry i) (row_of entry i)) members

-- the sectors of the rows from one on, of n in all
abbrev pub body_from : (members : ℕ) → Entry → (i n : ℕ) → List Bytes
body_from members entry i n = flat_map (λ i. row_held members entry i) (range_with_len i (n - i))

body_next : (members : ℕ) (entry : Entry) (i n : ℕ) → i < n → body_from members entry i n ≡ row_held members entry i ++ body_from members entry (i + 1) n
body_next members entry i n within =
    let more : n - i ≡ suc (n - (i + 1)) = omega arith in
    ap (λ (k : ℕ). flat_map (λ i. row_held members entry i) (range_with_len i k)) more

-- the writes of the body from one row on: the row's, and those of the rows after it
row_writes : (device at next members : ℕ) (entry : Entry) (i n : ℕ) → i < n → next ≡ at + count_held (in_body members (form_of entry) i) members
    → writes_from device at (body_from members entry i n) ≡ writes_from device at (row_held members entry i)
    ++ writes_from device next (body_from members entry (i + 1) n)
row_writes device at next members entry i n within next_is =
    let row = row_held members entry i in
    let rest = body_from members entry (i + 1) n in
    let beyond : at + length row ≡ next = omega (arith, length-row members entry i, next_is) in
    ap (writes_from device at) (body_next members entry i n within)
    ∙ writes_both device at row rest
    ∙ ap (λ (m : ℕ). writes_from device at row ++ writes_from device m rest) beyond

pub row_then : (device at next members : ℕ) (entry : Entry) (i n : ℕ) {answered : Bool} {old mid new : History} → i < n
    → next ≡ at + count_held (in_body members (form_of entry) i) members
    → Made (writes_from device at (row_held members entry i)) true old mid → Made (writes_from device next (body_from members entry (i + 1) n)) answered mid new
    → Made (writes_from device at (body_from members entry i n)) answered old new
row_then device at next members entry i n {answered = answered} {old = old} {new = new} within next_is row rest =
    subst (λ (calls : List Call). Made calls answered old new) (sym (row_writes device at next members entry i n within next_is)) (made_both row rest)

pub row_short : (device at members : ℕ) (entry : Entry) (i n : ℕ) {old new : History} → i < n
    → Made (writes_from device at (row_held members entry i)) false old new → Made (writes_from device at (body_from members entry i n)) false old new
row_short device at members entry i n {old = old} {new = new} within row =
    let next = at + count_held (in_body members (form_of entry) i) members in
    subst (λ (calls : List Call). Made calls false old new) (sym (row_writes device at next members entry i n within refl))
    (made_short (writes_from device next (body_from members entry (i + 1) n)) row)

-- a sector of an entry, written and read

-- one that is held is there
pub held_there : (entry : Entry) (i member : ℕ) → has_bit (row_mask entry i) member ≡ true
    → sector_at entry i member ≡ get_or entry.sectors.items (place_at entry i member) []
held_there entry i member held = ap (λ (b : Bool). cond b (get_or entry.sectors.items (place_at entry i member) []) []) held

-- one that is lent ends in its place
pub sector_lent : (entry : Entry) (i member place : ℕ) (value : Bytes) (whole : vec_len (with_item entry.sectors place value) ≡ MOST_HELD)
    → place ≡ place_at entry i member
    → ◌≡◌ {A = Entry} (record { runs = entry.runs; sectors = with_item entry.sectors place value; whole = whole }) (with_sector entry i member value)
sector_lent entry i member place value whole is =
    subst (λ (n : ℕ). (whole : vec_len (with_item entry.sectors n value) ≡ MOST_HELD)
    → ◌≡◌ {A = Entry} (record { runs = entry.runs; sectors = with_item entry.sectors n value; whole = whole }) (with_sector entry i member value)) (sym is)
    (λ whole. ap (λ (w : vec_len entry.sectors ≡ MOST_HELD). put w) (one whole entry.whole)) whole
  where
    put : vec_len entry.sectors ≡ MOST_HELD → Entry
    put whole = record { runs = entry.runs; sectors = with_item entry.sectors (place_at entry i member) value; whole = whole }

    one : IsProp (vec_len entry.sectors ≡ MOST_HELD)
    one = hlevel props

pub sector_there : (entry : Entry) (i member : ℕ) (value : Bytes) → i < length (numbers_of entry) → member < MOST_MEMBERS
    → has_bit (row_mask entry i) member ≡ true
    → sector_at (with_sector entry i member value) i member ≡ value
sector_there entry i member value below within held =
    held_there (with_sector entry i member value) i member held
    ∙ get_or-set_same entry.sectors.items (place_at entry i member) value []
    (omega (arith, entry.whole, entry.sectors.ok.0, place_within entry i member below within held))

pub sector_elsewhere : (entry : Entry) (i member i' member' : ℕ) (value : Bytes) → member < MOST_MEMBERS → member' < MOST_MEMBERS
    → has_bit (row_mask entry i) member ≡ true → (i' ≡ i → member' ≢ member)
    → sector_at (with_sector entry i member value) i' member' ≡ sector_at entry i' member'
sector_elsewhere entry i member i' member' value within within' held other = by_held (has_bit (row_mask entry i') member') refl
  where
    by_held : (b : Bool) → has_bit (row_mask entry i') member' ≡ b → sector_at (with_sector entry i member value) i' member' ≡ sector_at entry i' member'
    by_held false lacking =
        ap (λ (b : Bool). cond b (get_or (with_sector entry i member value).sectors.items (place_at entry i' member') []) []) lacking
        ∙ sym (ap (λ (b : Bool). cond b (get_or entry.sectors.items (place_at entry i' member') []) []) lacking)
    by_held true held' =
        let apart : place_at entry i' member' ≢ place_at entry i member = λ same.
        let one = one_rank MOST_MEMBERS (form_of entry) i' member' i member held' held within' within same in other one.0 one.1 in
        held_there (with_sector entry i member value) i' member' held'
        ∙ get_or-set_other entry.sectors.items (place_at entry i member) (place_at entry i' member') value [] apart
        ∙ sym (held_there entry i' member' held')

-- the sector that masks and sectors have for a member in the i-th row
abbrev pub sector_by : (form : Form) (masks : List ℕ) (sectors : List Bytes) (i member : ℕ) → Bytes
sector_by form masks sectors i member = cond (has_bit (mask_at masks i) member) (get_or sectors (rank MOST_MEMBERS form i member) []) []

by_held : (form : Form) (masks : List ℕ) (sectors : List Bytes) (i member : ℕ) (b : Bool) → has_bit (mask_at masks i) member ≡ b
    → sector_by form masks sectors i member ≡ cond b (get_or sectors (rank MOST_MEMBERS form i member) []) []
by_held form masks sectors i member b is = ap (λ (b : Bool). cond b (get_or sectors (rank MOST_MEMBERS form i member) []) []) is

-- a row more, after so many, with the masks of those rows as they were
module _ (rows rows' : ArrayVec ℕ) (masks masks' : List ℕ) (sectors sectors' : List Bytes) (count : ℕ)
    (same : (k : ℕ) → k < count → mask_at masks' k ≡ mask_at masks k) where
  abbrev first : ℕ
  first = rank MOST_MEMBERS (Held rows' masks') count 0

  before_is : held_before MOST_MEMBERS (Held rows' masks') count ≡ held_before MOST_MEMBERS (Held rows masks) count
  before_is = before_agrees MOST_MEMBERS (Held rows' masks') (Held rows masks) count (λ k m below inside. ap (λ (mask : ℕ). has_bit mask m) (same k below))

  -- the rows before it keep their sectors, where those before its first stay
  pub pushed_kept : (i member : ℕ) → i < count → member < MOST_MEMBERS → ((k : ℕ) → k < first → get_or sectors' k [] ≡ get_or sectors k [])
      → sector_by (Held rows' masks') masks' sectors' i member ≡ sector_by (Held rows masks) masks sectors i member
  pushed_kept i member below within kept = by_bit (has_bit (mask_at masks i) member) refl
    where
      bit : has_bit (mask_at masks' i) member ≡ has_bit (mask_at masks i) member
      bit = ap (λ (mask : ℕ). has_bit mask member) (same i below)

      by_bit : (b : Bool) → has_bit (mask_at masks i) member ≡ b
          → sector_by (Held rows' masks') masks' sectors' i member ≡ sector_by (Held rows masks) masks sectors i member
      by_bit false lacking = by_held (Held rows' masks') masks' sectors' i member false (bit ∙ lacking)
          ∙ sym (by_held (Held rows masks) masks sectors i member false lacking)
      by_bit true held =
          let place : rank MOST_MEMBERS (Held rows' masks') i member ≡ rank MOST_MEMBERS (Held rows masks) i member =
          rank_agrees MOST_MEMBERS (Held rows' masks') (Held rows masks) i member
          (λ k m upto inside. ap (λ (mask : ℕ). has_bit mask m) (same k (omega (arith, upto, below)))) (omega (arith, within)) in
          let before = rank_before MOST_MEMBERS (Held rows masks) i member count held within below in
          by_held (Held rows' masks') masks' sectors' i member true (bit ∙ held)
          ∙ ap (λ (k : ℕ). get_or sectors' k []) place
          ∙ kept (rank MOST_MEMBERS (Held rows masks) i member) (omega (arith, before, before_is))
          ∙ sym (by_held (Held rows masks) masks sectors i member true held)

  -- and it has zeros where those were put from there on
  pub pushed_zeros : (member mask : ℕ) → mask_at masks' count ≡ mask → member < MOST_MEMBERS → has_bit mask member ≡ true
      → ((k : ℕ) → first ≤ k → k < first + bits_below mask MOST_MEMBERS → get_or sectors' k [] ≡ replicate 512 0)
      → sector_by (Held rows' masks') masks' sectors' count member ≡ replicate 512 0
  pushed_zeros member mask its within held zeros =
      let bit : has_bit (mask_at masks' count) member ≡ true = ap (λ (mask : ℕ). has_bit mask member) its ∙ held in
      let bits : bits_below (mask_at masks' count) member ≡ bits_below mask member = ap (λ (mask : ℕ). bits_below mask member) its in
      by_held (Held rows' masks') masks' sectors' count member true bit
      ∙ zeros (rank MOST_MEMBERS (Held rows' masks') count member) (omega arith)
      (omega (arith, bits, count_beyond (has_bit mask) member MOST_MEMBERS held within))

pub numbers_stay : (entry : Entry) (i member : ℕ) (value : Bytes) → numbers_of (with_sector entry i member value) ≡ numbers_of entry
numbers_stay entry i member value = refl

-- the sectors of a row, member by member
pub row_member : (entry : Entry) (i member : ℕ) → member < MOST_MEMBERS → has_bit (row_mask entry i) member ≡ true
    → sector_of_row (row_mask entry i) (row_of entry i) member ≡ sector_at entry i member
row_member entry i member within held =
    let mask = row_mask entry i in
    let there : place_at entry i 0 + bits_below mask member ≡ place_at entry i member = omega arith in
    get_or-take (bits_below mask MOST_MEMBERS) (drop (place_at entry i 0) entry.sectors.items) (bits_below mask member) []
    (count_beyond (has_bit mask) member MOST_MEMBERS held within)
    ∙ get_or-drop (place_at entry i 0) entry.sectors.items (bits_below mask member) []
    ∙ ap (λ (k : ℕ). get_or entry.sectors.items k []) there ∙ sym (held_there entry i member held)

-- and the one that the row holds
pub row_held_member : (entry : Entry) (i member : ℕ) → member < MOST_MEMBERS → holds_sector entry i member ≡ true
    → sector_of_mask (row_mask entry i) (sector_of_row (row_mask entry i) (row_of entry i) member) ≡ sector_in_row entry i member
row_held_member entry i member within held = by_zeros (row_mask entry i == 0) refl
  where
    mask : ℕ
    mask = row_mask entry i

    by_zeros : (b : Bool) → (row_mask entry i == 0) ≡ b
        → sector_of_mask mask (sector_of_row mask (row_of entry i) member) ≡ sector_in_row entry i member
    by_zeros true zeros = ap (λ (b : Bool). cond b (replicate 512 0) (sector_of_row mask (row_of entry i) member)) zeros
        ∙ sym (ap (λ (b : Bool). cond b (replicate 512 0) (sector_at entry i member)) zeros)
    by_zeros false other = ap (sector_of_mask mask) (row_member entry i member within
        (sym (ap (λ (b : Bool). cond b true (has_bit mask member)) other) ∙ held))

-- lists, one after another
lists_next : (f : ℕ → List Bytes) (n : ℕ) → flat_map f (range_with_len 0 (suc n)) ≡ flat_map f (range_with_len 0 n) ++ f n
lists_next f n =
    ap (flat_map f) (range_more 0 n ∙ ap (λ (k : ℕ). range_with_len 0 n ++ k ∷ []) (zero-add n)) ∙ sym (flat_map_more f [] (range_with_len 0 n) n)
  where
    zero-add : (n : ℕ) → 0 + n ≡ n
    zero-add n = omega arith

-- the body of an entry, up to a row

length-rows : (members : ℕ) (entry : Entry) (n : ℕ) → length (flat_map (λ i. row_held members entry i) (range_with_len 0 n)) ≡ held_before members
    (form_of entry) n
length-rows members entry zero = refl
length-rows members entry (suc n) =
    let before = flat_map (λ i. row_held members entry i) (range_with_len 0 n) in
    ap length (lists_next (λ i. row_held members entry i) n) ∙ length-append before (row_held members entry n)
    ∙ omega (arith, length-rows members entry n, length-row members entry n)

rows_at : (members : ℕ) (entry : Entry) (n i member : ℕ) → i < n → member < members → in_body members (form_of entry) i member ≡ true
    → get_or (flat_map (λ i. row_held members entry i) (range_with_len 0 n)) (rank members (form_of entry) i member) [] ≡ get_or (row_held members entry i)
    (count_held (in_body members (form_of entry) i) member) []
rows_at members entry zero i member below within held = absurd (omega (arith, below))
rows_at members entry (suc n) i member below within held =
    let before = flat_map (λ i. row_held members entry i) (range_with_len 0 n) in
    let long : length before ≡ held_before members (form_of entry) n = length-rows members entry n in
    let at = rank members (form_of entry) i member in
    ap (λ (l : List Bytes). get_or l at []) (lists_next (λ i. row_held members entry i) n)
    ∙ elim (cases_eq i n) [
      | inl same ↦
          let count = count_held (in_body members (form_of entry) i) member in
          let place : at ≡ length before + count = ap (λ (k : ℕ). k + count) (ap (held_before members (form_of entry)) same ∙ sym long) in
          ap (λ (k : ℕ). get_or (before ++ row_held members entry n) k []) place
          ∙ get_or-append-add before (row_held members entry n) count []
          ∙ ap (λ (k : ℕ). get_or (row_held members entry k) count []) (sym same)
      | inr other ↦
          let there : i < n = omega (arith, below, other) in
          get_or_append_left before (row_held members entry n) [] at (omega (arith, long, rank_before members (form_of entry) i member n held within there))
          ∙ rows_at members entry n i member there within held
    ]

pub length-body : (members : ℕ) (entry : Entry) → length (body_of members entry) ≡ held_before members (form_of entry) (length (numbers_of entry))
length-body members entry = length-rows members entry (length (numbers_of entry))

pub body_at : (members : ℕ) (entry : Entry) (i member : ℕ) → members ≤ MOST_MEMBERS → i < length (numbers_of entry) → member < members
    → in_body members (form_of entry) i member ≡ true
    → get_or (body_of members entry) (rank members (form_of entry) i member) [] ≡ sector_at entry i member
body_at members entry i member few below within held =
    rows_at members entry (length (numbers_of entry)) i member below within held
    ∙ value_at (has_bit (row_mask entry i)) (sector_of_row (row_mask entry i) (row_of entry i)) members member held within
    ∙ row_member entry i member (omega (arith, few, within)) held
