-- One word more of a subcommand's plain words: FOLDER, the name of an option, its value, or a flag.
use Rattle.std.proofs.Common.{◌≡◌, ◌≢◌, ◌∙◌, ◌+◌, ◌==◌, ◌&&◌, inl, inr, refl, sym, ℕ, Bool, true, false, List, [], ◌∷◌, Some, None, ap, arith, codes}
use Rattle.std.specs.Prelude.{min, nat_lt, slice_get}
use Rattle.std.specs.Str.{bytes_eq}
use Rattle.std.proofs.lemmas.Bool.{ne_eqb, true≢false}
use Rattle.hex.specs.Hex.{is_hex_digit}
use Rattle.clap.specs.Faults.{turn_fault, use_fault}
use Rattle.clap.specs.Lexer.{long_of, short_of, usize_max}
use Rattle.clap.specs.Simple.{Shape}
use Rattle.clap.specs.Walk.{Row, Rule, Text, Walk, arg_by_id, arg_by_index, arg_by_long, idle, is_multiple, most_values, nothing_held, option}
use Rattle.clap.specs.Walk.{pending_count, takes_several}
use Rattle.clap.specs.Walk.{takes_values}
use Rattle.clap.specs.Walk.{used, walk_from, walked}
use Rattle.command_line.specs.Invocations.{IsChoice, IsIdText}
use Rattle.command_line.specs.Requests.{IsNewSetText, IsPlainWord, IsSetText}
use Rattle.command_line.proofs.OneAsked.{two_names}
use Rattle.command_line.proofs.TakenWords.{built_folder}

-- ---- words that stand as values

-- the word is no option, and not the end of the options
pub record IsValue (word : Text) : Type 0 where
  pub not_end : bytes_eq word (45 ∷ 45 ∷ []) ≡ false
  pub not_long : long_of word ≡ None
  pub not_short : short_of word ≡ None

pub value_from_first : (word : Text) → IsPlainWord word → IsValue word
value_from_first [] h = record { not_end = refl; not_long = refl; not_short = refl }
value_from_first (x ∷ xs) h =
    let other : (x == 45) ≡ false = ne_eqb x 45 (λ is. h (ap Some is)) in
    record { not_end = rw other refl; not_long = rw other refl; not_short = rw other refl }

-- an id does not begin with a hyphen
pub plain_id : (text : Text) → IsIdText text → IsPlainWord text
plain_id [] h is = cc
plain_id (x ∷ xs) h is =
    let first : x ≡ 45 = cc in
    let digit : is_hex_digit x ≡ true = h.1 0 0 (omega (arith, h.0)) in
    true≢false (sym (rw first at digit))

-- a word that begins with another byte does not
pub other_first : (word : Text) (first : ℕ) → slice_get word 0 ≡ Some first → first ≢ 45 → IsPlainWord word
other_first word first is other e =
    let same : Some first ≡ Some 45 = sym is ∙ e in
    let both : first ≡ 45 = cc in
    other both

-- nor does a value of `--id` that is one
pub plain_choice : (text : Text) → IsSetText text → IsPlainWord text
plain_choice text (inl is_id) = plain_id text is_id
plain_choice text (inr is) = rw is (other_first (codes "auto") 97 refl (λ e. omega (arith, e)))

pub plain_new : (text : Text) → IsNewSetText text → IsPlainWord text
plain_new text (inl is_id) = plain_id text is_id
plain_new text (inr is) = rw is (other_first (codes "new") 110 refl (λ e. omega (arith, e)))

-- it chooses a set
pub set_choice : (name text : Text) → bytes_eq name (codes "make") ≡ false → IsSetText text → IsChoice name text
set_choice name text other (inl is_id) = inl is_id
set_choice name text other (inr is) = inr (inr (two_names name (codes "make") other, is))

pub new_choice : (text : Text) → IsNewSetText text → IsChoice (codes "make") text
new_choice text (inl is_id) = inl is_id
new_choice text (inr is) = inr (inl (refl, is))

-- ---- where the walk stands

-- after a word, or after the value of an option, before the word of this position
abbrev pub given_at : ℕ → List Row → Text → Text → Walk
given_at position rows name text = record {
  held = record { rows = rows; pending = Some (name, text ∷ []); skip = 0 };
  waiting = idle;
  position = position;
  is_trailing = false;
  stopped = None;
}

-- after FOLDER, and no other word
abbrev pub given : List Row → Text → Text → Walk
given = given_at 2

-- after the name of an option, before the word of this position
abbrev pub waits_at : ℕ → List Row → Text → Walk
waits_at position rows name = record {
  held = record { rows = rows; pending = Some (name, []); skip = 0 };
  waiting = option name;
  position = position;
  is_trailing = false;
  stopped = None;
}

-- after a flag
abbrev pub flagged : List Row → Walk
flagged rows = record {
  held = record { rows = rows; pending = None; skip = 0 };
  waiting = idle;
  position = 2;
  is_trailing = false;
  stopped = None;
}

and_false : (a : Bool) → (a && false) ≡ false
and_false true = refl
and_false false = refl

module _ (s : Shape) where
  -- ---- FOLDER

  pub folder_step : arg_by_index s.rules 1 ≡ Some built_folder → (folder : Text) → IsValue folder
      → walked s.rules [] (walk_from nothing_held) folder ≡ given [] (codes "folder") folder
  unfolding walked
  folder_step first folder v = rw (v.not_end, v.not_long, v.not_short, first) refl

  pub folder_turn : arg_by_index s.rules 1 ≡ Some built_folder → (folder : Text) → IsValue folder → turn_fault s [] (walk_from nothing_held) folder ≡ []
  folder_turn first folder v = rw (v.not_end, v.not_long, v.not_short, first) refl

  -- ---- a word after a word

  -- the words of two positions
  module _ (p next : ℕ) (a b : Rule) (own : arg_by_id s.rules a.id ≡ Some a) (index : arg_by_index s.rules p ≡ Some b) (single : is_multiple b ≡ false)
      (several : takes_several b ≡ false) (ends : b.trailing_var_arg ≡ false) (after : min (p + 1) usize_max ≡ next) (rows : List Row) (text word : Text)
      (v : IsValue word) where
    pub word_step : walked s.rules [] (given_at p rows a.id text) word ≡ given_at next (used a (text ∷ []) rows) b.id word
    unfolding walked
    word_step = rw (v.not_end, v.not_long, v.not_short, index, single, several, ends, after, and_false (bytes_eq a.id b.id), own) refl

    pub word_turn : use_fault s.args_override_self a (text ∷ []) rows ≡ [] → turn_fault s [] (given_at p rows a.id text) word ≡ []
    word_turn passes = rw (v.not_end, v.not_long, v.not_short, index, several, and_false (bytes_eq a.id b.id), own, passes) refl

  -- ---- the value of an option

  module _ (p : ℕ) (a : Rule) (own : arg_by_id s.rules a.id ≡ Some a) (rows : List Row) (text : Text) (v : IsValue text) where
    pub value_step : nat_lt (pending_count a (Some (a.id, text ∷ []))) (most_values a) ≡ false
        → walked s.rules [] (waits_at p rows a.id) text ≡ given_at p rows a.id text
    unfolding walked
    value_step last = rw (v.not_end, v.not_long, v.not_short, own, last) refl

    pub value_turn : turn_fault s [] (waits_at p rows a.id) text ≡ []
    value_turn = rw (v.not_end, v.not_long, v.not_short) refl

  -- ---- the name of an option or of a flag, after a value

  -- the word names this argument
  pub record IsName (word name : Text) (b : Rule) : Type 0 where
    pub not_end : bytes_eq word (45 ∷ 45 ∷ []) ≡ false
    pub is_long : long_of word ≡ Some (name, None)
    pub found : arg_by_long s.rules name ≡ Some b

  module _ (a b : Rule) (own : arg_by_id s.rules a.id ≡ Some a) (rows : List Row) (text word name : Text) (is : IsName word name b) where
    pub named_step : (p : ℕ) → takes_values b ≡ true
        → walked s.rules [] (given_at p rows a.id text) word ≡ waits_at p (used a (text ∷ []) rows) b.id
    unfolding walked
    named_step p takes = rw (is.not_end, is.is_long, is.found, takes, own) refl

    pub named_turn : (p : ℕ) → takes_values b ≡ true → use_fault s.args_override_self a (text ∷ []) rows ≡ []
        → turn_fault s [] (given_at p rows a.id text) word ≡ []
    named_turn p takes passes = rw (is.not_end, is.is_long, is.found, takes, own, passes) refl

    pub flag_step : takes_values b ≡ false → walked s.rules [] (given rows a.id text) word ≡ flagged (used b [] (used a (text ∷ []) rows))
    unfolding walked
    flag_step none = rw (is.not_end, is.is_long, is.found, none, own) refl

    pub flag_turn : takes_values b ≡ false → use_fault s.args_override_self a (text ∷ []) rows ≡ []
        → use_fault s.args_override_self b [] (used a (text ∷ []) rows) ≡ [] → turn_fault s [] (given rows a.id text) word ≡ []
    flag_turn none passes flags = rw (is.not_end, is.is_long, is.found, none, own, passes, flags) refl

  -- ---- a flag after a flag

  module _ (rows : List Row) (b : Rule) (word name : Text) (is : IsName word name b) where
    pub more_step : takes_values b ≡ false → walked s.rules [] (flagged rows) word ≡ flagged (used b [] rows)
    unfolding walked
    more_step none = rw (is.not_end, is.is_long, is.found, none) refl

    pub more_turn : takes_values b ≡ false → use_fault s.args_override_self b [] rows ≡ [] → turn_fault s [] (flagged rows) word ≡ []
    more_turn none flags = rw (is.not_end, is.is_long, is.found, none, flags) refl
