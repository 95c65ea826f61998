-- Of words that clap takes: each value that its walk keeps passes the parser of its argument.
use Rattle.std.proofs.Common.{◌≡◌, ◌∙◌, ◌<◌, ◌==◌, ◌++◌, ℕ, zero, suc, Bool, true, false, ◌&&◌, cond, List, [], ◌∷◌, length, Option, Some, None, arith, refl}
use Rattle.std.proofs.Common.{subst, ap, codes, length-append}
use Rattle.std.specs.Prelude.{find, fold, slice_get, encode_utf8, drop, is_some}
use Rattle.std.specs.Option.{option_map_or}
use Rattle.std.specs.Str.{bytes_eq, chars}
use Rattle.std.proofs.lemmas.Bool.{ne_eqb}
use Rattle.std.proofs.lemmas.Slice.Eq.{bytes_eq-Decides}
use Rattle.clap.specs.Lexer.{long_of, short_of}
use Rattle.clap.specs.Facts.{parser_of_value}
use Rattle.clap.specs.Kinds.{Kinds, or_else, range_kinds, value_kinds}
use Rattle.clap.specs.Faults.{bundle_step_fault, flag_word_fault, flags_fault, long_fault, other_fault, positional_fault, react_fault, option_fault}
use Rattle.clap.specs.Faults.{settle_fault, short_fault, step_fault, stray_fault, turn_fault, use_fault, walk_fault, word_fault, bundle_fault, values_fault}
use Rattle.clap.specs.Faults.{repeat_fault}
use Rattle.clap.specs.Simple.{Shape}
use Rattle.clap.specs.Walk.{Held, Names, Outcome, Row, Rule, Step, Text, Waiting, Walk, after_flag, after_step, arg_by_id, arg_by_index, arg_by_long}
use Rattle.clap.specs.Walk.{arg_by_short, at_row, attached_value, bundle, bundle_met, bundle_step, done, flag_met, idle, is_pending, long_met, long_or_other}
use Rattle.clap.specs.Walk.{more_values, next, option, option_met, option_word, plain, plain_word, positional, reacted, refused, settled, settled_rows}
use Rattle.clap.specs.Walk.{short_met, short_or_plain, subcommand, subcommand_met, subcommand_or_other, takes_several, takes_values, to_positional, trailing}
use Rattle.clap.specs.Walk.{used, used_by_id, value, waits, walked, walked_from, reading_by, with_values, without, word_met, default_rows, has_row}
use Rattle.clap.specs.Walk.{with_default}
use Rattle.clap.specs.declared.parser.matches.ValueSource.{ValueSource}
use Rattle.clap.specs.declared.builder.action.ArgAction.TheVariants.{Set, SetTrue}
use Rattle.clap.specs.declared.error.kind.ErrorKind.{ErrorKind}
use Rattle.clap.specs.declared.error.kind.ErrorKind.TheVariants.{TooManyValues, WrongNumberOfValues}

pub first_none : (a b : Kinds) → or_else a b ≡ [] → a ≡ []
first_none [] b e = refl
first_none (k ∷ ks) b e = e

pub second_none : (a b : Kinds) → or_else a b ≡ [] → b ≡ []
second_none [] b e = e
second_none (k ∷ ks) b e = cc

some_kind : (k : ErrorKind) (ks : Kinds) → k ∷ ks ≡ [] → ⊥
some_kind k ks e = cc

-- the values of a row pass the parser of its argument, and are read as that says
abbrev pub FitsRule : Option Rule → Row → Type 0
FitsRule None r = Unit {0}
FitsRule (Some a) r = (r.reading ≡ reading_by a) × (values_fault a r.values ≡ [])

both_pass : (a : Rule) (vs ws : List Text) → values_fault a vs ≡ [] → values_fault a ws ≡ [] → values_fault a (vs ++ ws) ≡ []
both_pass a [] ws e f = f
both_pass a (v ∷ vs) ws e f =
    let first = first_none (value_kinds a.ignore_case (parser_of_value a.parser) v) _ e in
    let later = both_pass a vs ws (second_none (value_kinds a.ignore_case (parser_of_value a.parser) v) _ e) f in
    rw (first, later) refl

-- an argument that takes one value
abbrev pub with_one_value : Rule → Rule
with_one_value a = record a { action = Some Set; range = Some (record { start_inclusive = 1; end_inclusive = 1 }) }

-- a flag
abbrev pub as_flag : Rule → Rule
as_flag a = record a { action = Some SetTrue; range = Some (record { start_inclusive = 0; end_inclusive = 0 }); missing = codes "true" ∷ [] }

module _ (known : List Rule) where
  -- ---- rows with values

  -- the row has a value, and all pass
  abbrev pub Fits : Row → Type 0
  Fits r = (0 < length r.values) × FitsRule (arg_by_id known r.id) r

  -- each row does
  abbrev pub Filled : List Row → Type 0
  Filled [] = Unit {0}
  Filled (r ∷ rs) = Fits r × Filled rs

  filled_append : (xs ys : List Row) → Filled xs → Filled ys → Filled (xs ++ ys)
  filled_append [] ys f g = g
  filled_append (x ∷ xs) ys f g = (f.0, filled_append xs ys f.1 g)

  filled_at_row : (id : Text) (change : Row → List Row) (missing rows : List Row) → ((r : Row) → bytes_eq r.id id ≡ true → Fits r → Filled (change r))
      → Filled missing → Filled rows → Filled (at_row id change missing rows)
  filled_at_row id change missing [] c m f = m
  filled_at_row id change missing (r ∷ rs) c m f = go (bytes_eq r.id id) refl (filled_at_row id change missing rs c m f.1)
    where
      go : (b : Bool) → bytes_eq r.id id ≡ b → Filled (at_row id change missing rs) → Filled (cond b (change r ++ rs) (r ∷ at_row id change missing rs))
      go true same later = filled_append (change r) rs (c r same f.0) f.1
      go false other later = (f.0, later)

  filled_with_values : (a : Rule) (s : ValueSource) (v : Text) (vs : List Text) (rows : List Row) → arg_by_id known a.id ≡ Some a
      → values_fault a (v ∷ vs) ≡ [] → Filled rows → Filled (with_values a.id (reading_by a) s (v ∷ vs) rows)
  filled_with_values a s v vs rows own pass f =
      filled_at_row a.id (more_values s (v ∷ vs)) _ rows more ((omega arith, rw own (refl, pass)), tt) f
    where
      more : (r : Row) → bytes_eq r.id a.id ≡ true → Fits r → Filled (more_values s (v ∷ vs) r)
      more r same fits =
          let rule : arg_by_id known r.id ≡ Some a = ap (arg_by_id known) ((bytes_eq-Decides r.id a.id).0 same) ∙ own in
          let has : FitsRule (Some a) r = subst (λ (o : Option Rule). FitsRule o r) rule fits.1 in
          let sum = length-append r.values (v ∷ vs) in
          ((omega (arith, sum, fits.0), rw rule (has.0, both_pass a r.values (v ∷ vs) has.1 pass)), tt)

  -- ---- rules whose uses give values

  -- a use that clap takes leaves each row with a value
  abbrev pub FillsBy : Rule → Type 0
  FillsBy a = (again : Bool) (values : List Text) (rows : List Row) → Filled rows → use_fault again a values rows ≡ []
      → Filled (used a values rows)

  abbrev pub Fills : List Rule → Type 0
  Fills [] = Unit {0}
  Fills (a ∷ rest) = FillsBy a × Fills rest

  abbrev pub FillsIf : Option Rule → Type 0
  FillsIf None = Unit {0}
  FillsIf (Some a) = FillsBy a

  found_fills : (p : Rule → Bool) (c : List Rule) → Fills c → FillsIf (find p c)
  found_fills p [] fills = tt
  found_fills p (a ∷ rest) fills =
      elim (p a) as (λ b. FillsIf (cond b (Some a) (find p rest))) [ true ↦ fills.0 | false ↦ found_fills p rest fills.1 ]

  pub one_value_fills : (a : Rule) → arg_by_id known a.id ≡ Some (with_one_value a) → FillsBy (with_one_value a)
  one_value_fills a own again [] rows f e = cc
  one_value_fills a own again (v ∷ vs) rows f e =
      let set = second_none (range_kinds 1 1 (length (v ∷ vs))) _ e in
      let pass = second_none (repeat_fault again a.id rows) _ set in
      filled_with_values (with_one_value a) _ v vs (without a.id rows) own pass
      (filled_at_row a.id (λ _. []) [] rows (λ r same fits. tt) tt f)

  -- a flag that stands for `true`
  pub flag_fills : (a : Rule) → arg_by_id known a.id ≡ Some (as_flag a) → values_fault (as_flag a) (codes "true" ∷ []) ≡ [] → FillsBy (as_flag a)
  flag_fills a own pass again (v ∷ vs) rows f e =
      let range : range_kinds 0 0 (length (v ∷ vs)) ≡ [] = first_none (range_kinds 0 0 (length (v ∷ vs))) _ e in
      let more : (0 == suc (length vs)) ≡ false = ne_eqb 0 (suc (length vs)) (λ is. omega (arith, is)) in
      absurd (some_kind WrongNumberOfValues [] (rw more at range))
  flag_fills a own pass again [] rows f e =
      filled_with_values (as_flag a) _ (codes "true") [] (without a.id rows) own pass (filled_at_row a.id (λ _. []) [] rows (λ r same fits. tt) tt f)

  -- ---- defaults

  -- default values pass the parser of their argument
  abbrev pub HaveGoodDefaults : List Rule → Type 0
  HaveGoodDefaults [] = Unit {0}
  HaveGoodDefaults (a ∷ rest) = ((arg_by_id known a.id ≡ Some a) × (values_fault a a.defaults ≡ [])) × HaveGoodDefaults rest

  default_filled : (a : Rule) (rows : List Row) → arg_by_id known a.id ≡ Some a → values_fault a a.defaults ≡ [] → Filled rows → Filled (with_default rows a)
  default_filled a rows own pass f = go (has_row a.id rows)
    where
      values : (vs : List Text) → values_fault a vs ≡ [] → Filled (default_rows a.id (reading_by a) vs rows)
      values [] pass = f
      values (v ∷ vs) pass = filled_with_values a _ v vs rows own pass f

      go : (b : Bool) → Filled (cond b rows (default_rows a.id (reading_by a) a.defaults rows))
      go true = f
      go false = values a.defaults pass

  pub defaults_filled : (rules : List Rule) (rows : List Row) → HaveGoodDefaults rules → Filled rows → Filled (fold with_default rows rules)
  defaults_filled [] rows good f = f
  defaults_filled (a ∷ rest) rows good f = defaults_filled rest (with_default rows a) good.1 (default_filled a rows good.0.0 good.0.1 f)

  -- ---- the walk

  pub settle_filled : (c : List Rule) (again : Bool) (h : Held) → Fills c → Filled h.rows → settle_fault c again h ≡ [] → Filled (settled c h).rows
  settle_filled c again h fills f e = go h.pending e
    where
      by_id : (p : Text × List Text) (o : Option Rule) → FillsIf o → option_map_or (λ a. use_fault again a p.1 h.rows) o [] ≡ []
          → Filled (used_by_id o p.1 h.rows)
      by_id p None by e = f
      by_id p (Some a) by e = by again p.1 h.rows f e

      go : (pending : Option (Text × List Text))
          → option_map_or (λ p. option_map_or (λ a. use_fault again a p.1 h.rows) (arg_by_id c p.0) []) pending [] ≡ []
          → Filled (settled_rows c pending h.rows)
      go None e = f
      go (Some p) e = by_id p (arg_by_id c p.0) (found_fills (λ a. bytes_eq a.id p.0) c fills) e

  react_filled : (c : List Rule) (again : Bool) (a : Rule) (values : List Text) (h : Held) → Fills c → FillsBy a → Filled h.rows
      → react_fault c again a values h ≡ [] → Filled (reacted c a values h).rows
  react_filled c again a values h fills by f e =
      by again values (settled c h).rows (settle_filled c again h fills f (first_none _ _ e)) (second_none (settle_fault c again h) _ e)

  option_filled : (c : List Rule) (again : Bool) (a : Rule) (v : Option Text) (h : Held) → Fills c → FillsBy a → Filled h.rows
      → option_fault c again a v h ≡ [] → Filled (option_met c a v h).0.rows
  option_filled c again a None h fills by f e = settle_filled c again h fills f e
  option_filled c again a (Some v) h fills by f e = react_filled c again a (v ∷ []) h fills by f e

  flag_filled : (c : List Rule) (again : Bool) (a : Rule) (v : Option Text) (h : Held) → Fills c → FillsBy a → Filled h.rows
      → cond (is_some v) (TooManyValues ∷ []) (react_fault c again a [] h) ≡ [] → Filled (flag_met c a v h).0.rows
  flag_filled c again a None h fills by f e = react_filled c again a [] h fills by f e
  flag_filled c again a (Some v) h fills by f e = f

  long_filled : (c : List Rule) (again : Bool) (o : Option Rule) (v : Option Text) (h : Held) → Fills c → FillsIf o → Filled h.rows
      → long_fault c again o v h ≡ [] → Filled (long_met c o v h).0.rows
  long_filled c again None v h fills by f e = f
  long_filled c again (Some a) v h fills by f e = go (takes_values a) e
    where
      go : (b : Bool) → cond b (option_fault c again a v h) (cond (is_some v) (TooManyValues ∷ []) (react_fault c again a [] h)) ≡ []
          → Filled (cond b (option_met c a v h) (flag_met c a v h)).0.rows
      go true e = option_filled c again a v h fills by f e
      go false e = flag_filled c again a v h fills by f e

  short_filled : (c : List Rule) (again : Bool) (o : Option Rule) (rest : Text) (h : Held) (met : Held → Held × Outcome) (fault : Held → Kinds)
      → Fills c → FillsIf o → Filled h.rows → ((g : Held) → Filled g.rows → fault g ≡ [] → Filled (met g).0.rows)
      → short_fault c again o rest h fault ≡ [] → Filled (short_met c o rest h met).0.rows
  short_filled c again None rest h met fault fills by f after e = f
  short_filled c again (Some a) rest h met fault fills by f after e = go (takes_values a) e
    where
      go : (b : Bool) → cond b (option_fault c again a (attached_value rest) h) (or_else (react_fault c again a [] h) (fault (reacted c a [] h))) ≡ []
          → Filled (cond b (option_met c a (attached_value rest) h) (met (reacted c a [] h))).0.rows
      go true e = option_filled c again a (attached_value rest) h fills by f e
      go false e = after (reacted c a [] h) (react_filled c again a [] h fills by f (first_none _ _ e)) (second_none (react_fault c again a [] h) _ e)

  flags_filled : (c : List Rule) (again : Bool) (k : ℕ) (flags : Text) (skip : ℕ) (so_far : Outcome) (h : Held) → Fills c → Filled h.rows
      → flags_fault c again k flags skip h ≡ [] → Filled (bundle_met c k flags skip so_far h).0.rows
  unfolding bundle_met flags_fault
  flags_filled c again zero flags skip so_far h fills f e = f
  flags_filled c again (suc k) flags skip so_far h fills f e =
      go (slice_get (chars flags) 0) skip (λ rest skip so_far g fg eg. flags_filled c again k rest skip so_far g fills fg eg) e
    where
      go : (x : Option ℕ) (skip : ℕ)
          → ((rest : Text) (skip : ℕ) (so_far : Outcome) (g : Held) → Filled g.rows → flags_fault c again k rest skip g ≡ []
          → Filled (bundle_met c k rest skip so_far g).0.rows)
          → bundle_step_fault c again x flags skip h (flags_fault c again k) ≡ []
          → Filled (bundle_step c x flags skip so_far h (bundle_met c k)).0.rows
      go None skip more e = f
      go (Some x) zero more e =
          let rest = drop (length (encode_utf8 x)) flags in
          short_filled c again (arg_by_short c x) rest h (bundle_met c k rest 0 done) (flags_fault c again k rest 0) fills
          (found_fills _ c fills) f (more rest 0 done) e
      go (Some x) (suc skip) more e = more (drop (length (encode_utf8 x)) flags) skip so_far h f e

  plain_filled : (c : List Rule) (waiting : Waiting) (word : Text) (h : Held) → Filled h.rows → Filled (plain_word c waiting word h).0.rows
  plain_filled c idle word h f = f
  plain_filled c positional word h f = f
  plain_filled c (option id) word h f = go (arg_by_id c id)
    where
      go : (o : Option Rule) → Filled (option_word o id word h).0.rows
      go None = f
      go (Some a) = f

  after_filled : (c : List Rule) (waiting : Waiting) (word : Text) (h : Held) (o : Outcome) → Filled h.rows → Filled (after_flag c waiting word h o).0.rows
  after_filled c waiting word h done f = f
  after_filled c waiting word h (waits id) f = f
  after_filled c waiting word h plain f = plain_filled c waiting word h f
  after_filled c waiting word h refused f = plain_filled c waiting word h f

  flag_word_filled : (c : List Rule) (again : Bool) (waiting : Waiting) (word : Text) (long : Option (Text × Option Text)) (h : Held) → Fills c → Filled h.rows
      → flag_word_fault c again long word h ≡ [] → Filled (long_or_other c waiting word long h).0.rows
  flag_word_filled c again waiting word (Some p) h fills f e =
      let met = long_met c (arg_by_long c p.0) p.1 h in
      after_filled c waiting word met.0 met.1 (long_filled c again (arg_by_long c p.0) p.1 h fills (found_fills _ c fills) f e)
  flag_word_filled c again waiting word None h fills f e = go (short_of word) e
    where
      go : (short : Option Text) → option_map_or (λ flags. bundle_fault c again flags h) short [] ≡ [] → Filled (short_or_plain c waiting word short h).0.rows
      go None e = plain_filled c waiting word h f
      go (Some flags) e =
          after_filled c waiting word (bundle c flags h).0 (bundle c flags h).1
          (flags_filled c again (length flags) flags h.skip plain (record h { skip = 0 }) fills f e)

  word_filled : (s : Shape) (names : Names) (is_trailing : Bool) (waiting : Waiting) (position : ℕ) (word : Text) (h : Held) → Fills s.rules → Filled h.rows
      → word_fault s names is_trailing waiting word h ≡ [] → Filled (word_met s.rules names is_trailing waiting position word h).0.rows
  word_filled s names true waiting position word h fills f e = f
  word_filled s names false waiting position word h fills f e = go (subcommand_met names waiting word) e
    where
      other : (b : Bool) → cond b [] (flag_word_fault s.rules s.args_override_self (long_of word) word h) ≡ []
          → Filled (cond b (h, trailing position) (long_or_other s.rules waiting word (long_of word) h)).0.rows
      other true e = f
      other false e = flag_word_filled s.rules s.args_override_self waiting word (long_of word) h fills f e

      go : (name : Option Text) → other_fault s name word h ≡ [] → Filled (subcommand_or_other s.rules name waiting position word h).0.rows
      go (Some name) e = f
      go None e = other (bytes_eq word (45 ∷ 45 ∷ [])) e

  positional_filled : (s : Shape) (word : Text) (w : Walk) (h : Held) (o : Option Rule) → Fills s.rules → Filled h.rows
      → option_map_or (λ a. positional_fault s.rules s.args_override_self a h) o (stray_fault s) ≡ [] → Filled (to_positional s.rules o word w h).held.rows
  positional_filled s word w h None fills f e = f
  positional_filled s word w h (Some a) fills f e = go (is_pending a h.pending && takes_several a) e
    where
      go : (b : Bool) → cond b [] (settle_fault s.rules s.args_override_self h) ≡ [] → Filled (cond b h (settled s.rules h)).rows
      go true e = f
      go false e = settle_filled s.rules s.args_override_self h fills f e

  step_filled : (s : Shape) (word : Text) (w : Walk) (h : Held) (step : Step) → Fills s.rules → Filled h.rows → step_fault s w.position h step ≡ []
      → Filled (after_step s.rules word w h step).held.rows
  step_filled s word w h (next waiting) fills f e = f
  step_filled s word w h (trailing position) fills f e = f
  step_filled s word w h (subcommand name) fills f e = f
  step_filled s word w h value fills f e = positional_filled s word w h (arg_by_index s.rules w.position) fills f e

  turn_filled : (s : Shape) (names : Names) (w : Walk) (word : Text) → Fills s.rules → Filled w.held.rows → turn_fault s names w word ≡ []
      → Filled (walked s.rules names w word).held.rows
  unfolding walked
  turn_filled s names w word fills f e = go w.stopped e
    where
      go : (stopped : Option (Text × List Text))
          → cond (is_some stopped) [] (or_else (word_fault s names w.is_trailing w.waiting word w.held)
          (step_fault s w.position (word_met s.rules names w.is_trailing w.waiting w.position word w.held).0
          (word_met s.rules names w.is_trailing w.waiting w.position word w.held).1)) ≡ []
          → Filled (walked_from s.rules names stopped w word).held.rows
      go (Some p) e = f
      go None e =
          let met = word_met s.rules names w.is_trailing w.waiting w.position word w.held in
          step_filled s word w met.0 met.1 fills
          (word_filled s names w.is_trailing w.waiting w.position word w.held fills f (first_none _ _ e))
          (second_none (word_fault s names w.is_trailing w.waiting word w.held) _ e)

  pub walk_filled : (s : Shape) (names : Names) (w : Walk) (words : List Text) → Fills s.rules → Filled w.held.rows → walk_fault s names w words ≡ []
      → Filled (fold (walked s.rules names) w words).held.rows
  unfolding walk_fault
  walk_filled s names w [] fills f e = f
  walk_filled s names w (word ∷ rest) fills f e =
      walk_filled s names (walked s.rules names w word) rest fills (turn_filled s names w word fills f (first_none _ _ e))
      (second_none (turn_fault s names w word) _ e)
