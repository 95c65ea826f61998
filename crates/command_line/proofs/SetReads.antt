-- What `get_str` and `get_flag` read of a name that has a value.
use Rattle.std.proofs.Common.{◌≡◌, ◌∙◌, refl, ap, sym, subst, Bool, true, false, List, Option, Some, None, codes, true≢false}
use Rattle.std.specs.Prelude.{IsSome, is_some, option_map}
use Rattle.std.specs.Borrow.{Bor}
use Rattle.clap.specs.Matches.{first_value, one_text}
use Rattle.clap.specs.Values.{bool_text}
use Rattle.clap.specs.Walk.{Row, Text, first_of, one_of, rows_of}
use Rattle.clap.specs.declared.parser.matches.Found.{Found}
use Rattle.clap.proofs.WalkLemmas.{first_value-rows, one_text-rows}
use Rattle.command_line.specs.FoundRows.{HasFlagValue}
use Rattle.command_line.specs.Invocations.{HasFlag}

some_back : (o : Option (Bor Text)) (p : Option Text) → option_map (λ s. s.now) o ≡ p → IsSome p → IsSome o
some_back (Some x) p is some = refl
some_back None p is some = subst (λ (q : Option Text). IsSome q) (sym is) some

module _ (found : Found) (name : Text) (read : Option (Bor Text)) (is : option_map (λ s. s.now) read ≡ first_value found name) where
  pub text_some : IsSome (first_of name (rows_of found)) → IsSome read
  text_some some = some_back read (first_of name (rows_of found)) (is ∙ first_value-rows found name) some

  pub text_value : (text : Bor Text) → read ≡ Some text → first_of name (rows_of found) ≡ Some text.now
  text_value text got = sym (is ∙ first_value-rows found name) ∙ ap (option_map (λ s. s.now)) got

  pub text_none : read ≡ None → first_of name (rows_of found) ≡ None
  text_none got = sym (is ∙ first_value-rows found name) ∙ ap (option_map (λ s. s.now)) got

-- a name has a value or none
pub not_both : (rows : List Row) (name text : Text) → first_of name rows ≡ Some text → first_of name rows ≡ None → ⊥
not_both rows name text some none =
    let both : Some text ≡ None = sym some ∙ none in
    cc

-- whether `get_str` reads a text of a name
module _ (found : Found) (name : Text) (read : Option (Bor Text)) (is : option_map (λ s. s.now) read ≡ first_value found name) (has : Bool)
    (tells : has ≡ is_some read) where
  has_is : is_some (first_of name (rows_of found)) ≡ has
  has_is = ap is_some (sym (is ∙ first_value-rows found name)) ∙ kept read ∙ sym tells
    where
      kept : (o : Option (Bor Text)) → is_some (option_map (λ s. s.now) o) ≡ is_some o
      kept (Some x) = refl
      kept None = refl

  pub is_given : has ≡ true → IsSome (first_of name (rows_of found))
  is_given on = has_is ∙ on

  pub not_given : has ≡ false → ¬ IsSome (first_of name (rows_of found))
  not_given off some = true≢false (sym some ∙ has_is ∙ off)

  pub none_given : has ≡ false → first_of name (rows_of found) ≡ None
  none_given off = go (first_of name (rows_of found)) (has_is ∙ off)
    where
      go : (o : Option Text) → is_some o ≡ false → o ≡ None
      go None is = refl
      go (Some x) is = absurd (true≢false is)

pub flag_value : (found : Found) (name : Text) (is_given : Bool) → HasFlagValue (rows_of found) name
    → (one_text found name ≡ Some (codes "true") → is_given ≡ true)
    → (one_text found name ≡ Some (codes "false") → is_given ≡ false) → HasFlag (rows_of found) name is_given
flag_value found name is_given has on off = go has.0 has.1 has.2
  where
    go : (b : Bool) → first_of name (rows_of found) ≡ Some (bool_text b) → one_of name (rows_of found) ≡ Some (bool_text b)
        → HasFlag (rows_of found) name is_given
    go true first one = rw (on (one_text-rows found name ∙ one)) first
    go false first one = rw (off (one_text-rows found name ∙ one)) first
