-- What the rows of a subcommand have, of words that clap takes.
use Rattle.std.proofs.Common.{◌≡◌, ◌∙◌, ◌<◌, ◌++◌, Bool, true, false, ◌||◌, cond, List, [], ◌∷◌, length, Option, Some, None, arith, refl, sym, subst}
use Rattle.std.proofs.Common.{true≢false, ap}
use Rattle.std.specs.Prelude.{IsSome, ℕ, find, option_and_then, option_map, slice_get}
use Rattle.std.specs.Option.{option_map_or}
use Rattle.std.specs.Str.{bytes_eq}
use Rattle.std.proofs.lemmas.Slice.Eq.{bytes_eq-Decides}
use Rattle.clap.specs.Facts.{explicit_source, parser_of_value}
use Rattle.clap.specs.Faults.{check_fault, defaults_fault, level_fault, settle_fault, values_fault, walk_fault}
use Rattle.clap.specs.Simple.{Shape, filled, with_index}
use Rattle.clap.specs.Takes.{is_given, value_passes}
use Rattle.clap.specs.Values.{read_as, refused_kind}
use Rattle.clap.specs.Walk.{Row, Rule, Text, arg_by_id, at_row, default_rows, first_of, has_row, more_values, nothing_held, one_of, reading_by, row_text}
use Rattle.clap.specs.Walk.{rows_after, settled, walk, walk_from, with_default}
use Rattle.clap.specs.declared.parser.matches.ValueSource.TheVariants.{DefaultValue}
use Rattle.clap.proofs.ValueTestLemmas.{accepts-Accepts}
use Rattle.command_line.specs.Commands.{number_rule, up_to}
use Rattle.command_line.specs.FoundRows.{HasNumberTo}
use Rattle.command_line.proofs.WalkFills.{Filled, Fills, FitsRule, HaveGoodDefaults, defaults_filled, first_none, second_none, settle_filled, walk_filled}

-- ---- the value of one argument

-- what the rows have of an argument: its first value passes the argument's parser, and is read as that says
abbrev pub GivenBy : Rule → List Row → Type 0
GivenBy a rows = (text : Text) × (first_of a.id rows ≡ Some text) × (one_of a.id rows ≡ Some (read_as (reading_by a) text)) × (value_passes a text ≡ true)

value_of_row : (a : Rule) (r : Row) → 0 < length r.values → FitsRule (Some a) r
    → (text : Text) × (slice_get r.values 0 ≡ Some text) × (row_text r ≡ Some (read_as (reading_by a) text)) × (value_passes a text ≡ true)
value_of_row a r has fits = go r.values has fits.1
  where
    passed : (b : Bool) → cond b [] (refused_kind (parser_of_value a.parser) ∷ []) ≡ [] → b ≡ true
    passed true e = refl
    passed false e = cc

    go : (vs : List Text) → 0 < length vs → values_fault a vs ≡ []
        → (text : Text) × (slice_get vs 0 ≡ Some text) × (option_map (read_as r.reading) (slice_get vs 0) ≡ Some (read_as (reading_by a) text))
        × (value_passes a text ≡ true)
    go [] has e = absurd (omega arith)
    go (v ∷ vs) has e = (v, refl, ap (λ how. Some (read_as how v)) fits.0, passed (value_passes a v) (first_none _ _ e))

-- an argument that has a row has a value
pub found_value : (known : List Rule) (a : Rule) (rows : List Row) → arg_by_id known a.id ≡ Some a → Filled known rows → has_row a.id rows ≡ true
    → GivenBy a rows
found_value known a [] own f e = absurd (true≢false (sym e))
found_value known a (r ∷ rs) own f e = go (bytes_eq r.id a.id) refl (found_value known a rs own f.1) e
  where
    go : (b : Bool) → bytes_eq r.id a.id ≡ b → (has_row a.id rs ≡ true → GivenBy a rs) → (b || has_row a.id rs) ≡ true
        → (text : Text) × (option_and_then (λ (x : Row). slice_get x.values 0) (cond b (Some r) (find (λ x. bytes_eq x.id a.id) rs)) ≡ Some text)
        × (option_and_then row_text (cond b (Some r) (find (λ x. bytes_eq x.id a.id) rs)) ≡ Some (read_as (reading_by a) text)) × (value_passes a text ≡ true)
    go true same later e =
        let rule : arg_by_id known r.id ≡ Some a = ap (arg_by_id known) ((bytes_eq-Decides r.id a.id).0 same) ∙ own in
        value_of_row a r f.0.0 (subst (λ (o : Option Rule). FitsRule o r) rule f.0.1)
    go false other later e = later e

-- what the words give has a row
given_row : (id : Text) (rows : List Row) → is_given id rows ≡ true → has_row id rows ≡ true
given_row id [] e = absurd (true≢false (sym e))
given_row id (r ∷ rs) e = go (bytes_eq r.id id) (given_row id rs) e
  where
    go : (b : Bool) → (is_given id rs ≡ true → has_row id rs ≡ true)
        → option_map_or (λ (x : Row). explicit_source x.source) (cond b (Some r) (find (λ x. bytes_eq x.id id) rs)) false ≡ true → (b || has_row id rs) ≡ true
    go true later e = refl
    go false later e = later e

-- what has no row has no value
pub no_row : (id : Text) (rows : List Row) → has_row id rows ≡ false → (first_of id rows ≡ None) × (one_of id rows ≡ None)
no_row id rows e = (ap (option_and_then (λ (r : Row). slice_get r.values 0)) (none rows e), ap (option_and_then row_text) (none rows e))
  where
    none : (rs : List Row) → has_row id rs ≡ false → find (λ (r : Row). bytes_eq r.id id) rs ≡ None
    none [] e = refl
    none (r ∷ rs) e = go (bytes_eq r.id id) e (none rs)
      where
        go : (b : Bool) → (b || has_row id rs) ≡ false → (has_row id rs ≡ false → find (λ (x : Row). bytes_eq x.id id) rs ≡ None)
            → cond b (Some r) (find (λ (x : Row). bytes_eq x.id id) rs) ≡ None
        go true e later = absurd (true≢false e)
        go false e later = later e

pub given_value : (known : List Rule) (a : Rule) (rows : List Row) → arg_by_id known a.id ≡ Some a → Filled known rows → is_given a.id rows ≡ true
    → GivenBy a rows
given_value known a rows own f e = found_value known a rows own f (given_row a.id rows e)

pub given_some : (a : Rule) (rows : List Row) → GivenBy a rows → IsSome (first_of a.id rows)
given_some a rows given = rw given.1 refl

pub number_given : (name : Text) (most : ℕ) (rows : List Row) → GivenBy (with_index 2 (filled (number_rule name (up_to most)))) rows
    → HasNumberTo rows name most
number_given name most rows given = (given.0, given.1, given.2, accepts-Accepts false (up_to most) given.0 given.3)

-- ---- an argument with a default

same_id : (id : Text) → bytes_eq id id ≡ true
same_id id = (bytes_eq-Decides id id).1 refl

-- a row that is there stays where another argument gets its default
pub kept_row : (name : Text) (a : Rule) (rows : List Row) (v : Text) (vs : List Text) → a.defaults ≡ v ∷ vs → has_row name rows ≡ true
    → has_row name (with_default rows a) ≡ true
kept_row name a rows v vs is has = go (has_row a.id rows) refl
  where
    stays : (rs : List Row) (change : Row → List Row) (x : Row) → has_row a.id rs ≡ false → has_row name rs ≡ true
        → has_row name (at_row a.id change (x ∷ []) rs) ≡ true
    stays [] change x none there = absurd (true≢false (sym there))
    stays (r ∷ rs) change x none there = by (bytes_eq r.id a.id) refl none (stays rs change x)
      where
        front : (b : Bool) → bytes_eq r.id name ≡ b → (b || has_row name rs) ≡ true
            → (has_row name rs ≡ true → has_row name (at_row a.id change (x ∷ []) rs) ≡ true)
            → (bytes_eq r.id name || has_row name (at_row a.id change (x ∷ []) rs)) ≡ true
        front true here there later = rw here refl
        front false here there later = rw here (later there)

        by : (b : Bool) → bytes_eq r.id a.id ≡ b → (b || has_row a.id rs) ≡ false
            → (has_row a.id rs ≡ false → has_row name rs ≡ true → has_row name (at_row a.id change (x ∷ []) rs) ≡ true)
            → has_row name (cond b (change r ++ rs) (r ∷ at_row a.id change (x ∷ []) rs)) ≡ true
        by true here none later = absurd (true≢false none)
        by false here none later = front (bytes_eq r.id name) refl there (later none)

    go : (b : Bool) → has_row a.id rows ≡ b → has_row name (cond b rows (default_rows a.id (reading_by a) a.defaults rows)) ≡ true
    go true same = has
    go false none = rw is (stays rows (more_values DefaultValue (v ∷ vs)) _ none has)

-- it has a row where its default was noted
pub default_row : (a : Rule) (rows : List Row) (v : Text) (vs : List Text) → a.defaults ≡ v ∷ vs → has_row a.id (with_default rows a) ≡ true
default_row a rows v vs is = go (has_row a.id rows) refl
  where
    added : (rs : List Row) (change : Row → List Row) (x : Row) → x.id ≡ a.id → has_row a.id rs ≡ false → has_row a.id (at_row a.id change (x ∷ []) rs) ≡ true
    added [] change x same none = rw (same, same_id a.id) refl
    added (r ∷ rs) change x same none = by (bytes_eq r.id a.id) refl none (added rs change x same)
      where
        by : (b : Bool) → bytes_eq r.id a.id ≡ b → (b || has_row a.id rs) ≡ false
            → (has_row a.id rs ≡ false → has_row a.id (at_row a.id change (x ∷ []) rs) ≡ true)
            → has_row a.id (cond b (change r ++ rs) (r ∷ at_row a.id change (x ∷ []) rs)) ≡ true
        by true here none later = absurd (true≢false none)
        by false here none later = rw here (later none)

    go : (b : Bool) → has_row a.id rows ≡ b → has_row a.id (cond b rows (default_rows a.id (reading_by a) a.defaults rows)) ≡ true
    go true has = has
    go false none = rw is (added rows (more_values DefaultValue (v ∷ vs)) (record {
      id = a.id;
      values = v ∷ vs;
      count = None;
      source = Some DefaultValue;
      reading = reading_by a;
    }) refl none)

pub no_default : (rows : List Row) (a : Rule) → a.defaults ≡ [] → with_default rows a ≡ rows
no_default rows a none = go (has_row a.id rows)
  where
    go : (b : Bool) → cond b rows (default_rows a.id (reading_by a) a.defaults rows) ≡ rows
    go true = refl
    go false = rw none refl

-- ---- the end of the words

-- the rows at the end of words that clap takes are filled, and what is required is given
pub record Ends (s : Shape) (rows : List Row) : Type 0 where
  pub filled_rows : Filled s.rules rows
  pub checked : check_fault s rows false ≡ []

pub level_ends : (s : Shape) (words : List Text) → Fills s.rules s.rules → HaveGoodDefaults s.rules s.rules → level_fault s [] nothing_held words false [] ≡ []
    → Ends s (rows_after s.rules [] words)
level_ends s words fills good e =
    let end = (walk s.rules [] nothing_held words).held in
    let walks = first_none _ _ e in
    let settles = second_none (walk_fault s [] (walk_from nothing_held) words) _ e in
    let after = second_none (settle_fault s.rules s.args_override_self end) _ settles in
    let ends = walk_filled s.rules s [] (walk_from nothing_held) words fills tt walks in
    let settled_ends = settle_filled s.rules s.rules s.args_override_self end fills ends (first_none _ _ settles) in
    record {
      filled_rows = defaults_filled s.rules s.rules (settled s.rules end).rows good settled_ends;
      checked = second_none (defaults_fault (settled s.rules end).rows s.rules) _ after;
    }
