-- The walk over plain words, piece by piece: FOLDER and the id, an option with its value, or a flag; and what it comes to for a subcommand.
use Rattle.std.proofs.Common.{◌≡◌, ◌∙◌, ◌+◌, refl, ap, ℕ, false, true, List, [], ◌∷◌, Option, Some, None, codes}
use Rattle.std.specs.Prelude.{find, fold, min, nat_lt, option_map}
use Rattle.std.specs.Str.{bytes_eq}
use Rattle.clap.specs.Faults.{check_fault, defaults_fault, level_fault, settle_fault, turn_fault, use_fault, walk_fault}
use Rattle.clap.specs.Lexer.{long_of, usize_max}
use Rattle.clap.specs.Simple.{Shape, built, entered, label_of, names_of, rows_at}
use Rattle.clap.specs.Walk.{Row, Rule, Text, Walk, answers_to, arg_by_id, arg_by_index, arg_by_long, finished, is_multiple, most_values, nothing_held}
use Rattle.clap.specs.Walk.{pending_count, takes_several}
use Rattle.clap.specs.Walk.{settled, takes_values, used, walk, walk_from, walked}
use Rattle.command_line.specs.Commands.{raidtool_app}
use Rattle.command_line.specs.Invocations.{Enters}
use Rattle.command_line.proofs.PlainSteps.{IsName, IsValue, flag_step, flag_turn, more_step, more_turn, flagged, folder_step, folder_turn, given, given_at}
use Rattle.command_line.proofs.PlainSteps.{named_step}
use Rattle.command_line.proofs.PlainSteps.{named_turn, value_step, value_turn, word_step, word_turn}
use Rattle.command_line.proofs.TakenWords.{built_folder, built_id}

-- from one place in the walk these words lead to another, and none of them is a fault
pub record Goes (s : Shape) (from : Walk) (words : List Text) (to : Walk) : Type 0 where
  pub walk_is : fold (walked s.rules []) from words ≡ to
  pub no_fault : walk_fault s [] from words ≡ []

-- the word names this option, which takes one value
pub record IsOption (s : Shape) (word name : Text) (b : Rule) : Type 0 where
  pub not_end : bytes_eq word (45 ∷ 45 ∷ []) ≡ false
  pub is_long : long_of word ≡ Some (name, None)
  pub found : arg_by_long s.rules name ≡ Some b
  pub own : arg_by_id s.rules b.id ≡ Some b
  pub takes : takes_values b ≡ true
  pub one_value : (value : Text) → nat_lt (pending_count b (Some (b.id, value ∷ []))) (most_values b) ≡ false

-- a subcommand has FOLDER and `--id`
pub record HasSetRules (s : Shape) : Type 0 where
  pub first : arg_by_index s.rules 1 ≡ Some built_folder
  pub own_folder : arg_by_id s.rules built_folder.id ≡ Some built_folder
  pub own_id : arg_by_id s.rules built_id.id ≡ Some built_id
  pub found : arg_by_long s.rules (codes "id") ≡ Some built_id
  pub alone : (folder : Text) → use_fault s.args_override_self built_folder (folder ∷ []) [] ≡ []

-- after FOLDER and the id
abbrev pub id_given : Text → Text → Walk
id_given folder text = given (used built_folder (folder ∷ []) []) (codes "id") text

-- the rows then
abbrev pub id_rows : Text → Text → List Row
id_rows folder text = used built_id (text ∷ []) (used built_folder (folder ∷ []) [])

module _ (s : Shape) where
  pub stays : (at : Walk) → Goes s at [] at
  unfolding walk_fault
  stays at = record { walk_is = refl; no_fault = refl }

  one_word : (from mid to : Walk) (word : Text) (words : List Text) → walked s.rules [] from word ≡ mid → turn_fault s [] from word ≡ []
      → Goes s mid words to → Goes s from (word ∷ words) to
  unfolding walk_fault
  one_word from mid to word words step turn goes = record {
    walk_is = ap (λ (w : Walk). fold (walked s.rules []) w words) step ∙ goes.walk_is;
    no_fault = rw (turn, step, goes.no_fault) refl;
  }

  -- an option and its value, after the value of another
  module _ (a : Rule) (own : arg_by_id s.rules a.id ≡ Some a) (rows : List Row) (text : Text)
      (passes : use_fault s.args_override_self a (text ∷ []) rows ≡ []) where
    pub option_goes : (word name : Text) (b : Rule) → IsOption s word name b → (value : Text) → IsValue value → (words : List Text) (to : Walk)
        → Goes s (given (used a (text ∷ []) rows) b.id value) words to → Goes s (given rows a.id text) (word ∷ value ∷ words) to
    option_goes word name b is value v words to goes =
        let is_name : IsName s word name b = record { not_end = is.not_end; is_long = is.is_long; found = is.found } in
        one_word _ _ to word (value ∷ words) (named_step s a b own rows text word name is_name 2 is.takes)
        (named_turn s a b own rows text word name is_name 2 is.takes passes)
        (one_word _ _ to value words (value_step s 2 b is.own (used a (text ∷ []) rows) value v (is.one_value value))
        (value_turn s 2 b is.own (used a (text ∷ []) rows) value v) goes)

    pub flag_goes : (word name : Text) (b : Rule) → IsName s word name b → takes_values b ≡ false
        → use_fault s.args_override_self b [] (used a (text ∷ []) rows) ≡ []
        → Goes s (given rows a.id text) (word ∷ []) (flagged (used b [] (used a (text ∷ []) rows)))
    flag_goes word name b is none flags =
        one_word _ _ _ word [] (flag_step s a b own rows text word name is none) (flag_turn s a b own rows text word name is none passes flags)
        (stays (flagged (used b [] (used a (text ∷ []) rows))))

    -- two flags
    pub flags_go : (word name : Text) (b : Rule) → IsName s word name b → takes_values b ≡ false
        → use_fault s.args_override_self b [] (used a (text ∷ []) rows) ≡ []
        → (word' name' : Text) (b' : Rule) → IsName s word' name' b' → takes_values b' ≡ false
        → use_fault s.args_override_self b' [] (used b [] (used a (text ∷ []) rows)) ≡ []
        → Goes s (given rows a.id text) (word ∷ word' ∷ []) (flagged (used b' [] (used b [] (used a (text ∷ []) rows))))
    flags_go word name b is none flags word' name' b' is' none' flags' =
        one_word _ _ _ word (word' ∷ []) (flag_step s a b own rows text word name is none) (flag_turn s a b own rows text word name is none passes flags)
        (one_word _ _ _ word' [] (more_step s (used b [] (used a (text ∷ []) rows)) b' word' name' is' none')
        (more_turn s (used b [] (used a (text ∷ []) rows)) b' word' name' is' none' flags')
        (stays (flagged (used b' [] (used b [] (used a (text ∷ []) rows))))))

  -- FOLDER alone
  pub folder_goes : arg_by_index s.rules 1 ≡ Some built_folder → (folder : Text) → IsValue folder → (words : List Text) (to : Walk)
      → Goes s (given [] (codes "folder") folder) words to → Goes s (walk_from nothing_held) (folder ∷ words) to
  folder_goes first folder is_folder words to goes =
      one_word _ _ to folder words (folder_step s first folder is_folder) (folder_turn s first folder is_folder) goes

  -- the id as the last option, after words to this position
  pub last_id_goes : (p : ℕ) (a : Rule) → arg_by_id s.rules a.id ≡ Some a → arg_by_id s.rules built_id.id ≡ Some built_id
      → arg_by_long s.rules (codes "id") ≡ Some built_id → (rows : List Row) (word : Text) → use_fault s.args_override_self a (word ∷ []) rows ≡ []
      → (text : Text) → IsValue text
      → Goes s (given_at p rows a.id word) (codes "--id" ∷ text ∷ []) (given_at p (used a (word ∷ []) rows) (codes "id") text)
  last_id_goes p a own own_id found rows word passes text v =
      let is_name : IsName s (codes "--id") (codes "id") built_id = record { not_end = refl; is_long = refl; found = found } in
      one_word _ _ _ (codes "--id") (text ∷ []) (named_step s a built_id own rows word (codes "--id") (codes "id") is_name p refl)
      (named_turn s a built_id own rows word (codes "--id") (codes "id") is_name p refl passes)
      (one_word _ _ _ text [] (value_step s p built_id own_id (used a (word ∷ []) rows) text v refl)
      (value_turn s p built_id own_id (used a (word ∷ []) rows) text v) (stays (given_at p (used a (word ∷ []) rows) (codes "id") text)))

  -- a word after a word
  pub word_goes : (p next : ℕ) (a b : Rule) → arg_by_id s.rules a.id ≡ Some a → arg_by_index s.rules p ≡ Some b → is_multiple b ≡ false
      → takes_several b ≡ false → b.trailing_var_arg ≡ false → min (p + 1) usize_max ≡ next → (rows : List Row) (text : Text)
      → use_fault s.args_override_self a (text ∷ []) rows ≡ [] → (word : Text) → IsValue word → (words : List Text) (to : Walk)
      → Goes s (given_at next (used a (text ∷ []) rows) b.id word) words to → Goes s (given_at p rows a.id text) (word ∷ words) to
  word_goes p next a b own index single several ends after rows text passes word v words to goes =
      one_word _ _ to word words (word_step s p next a b own index single several ends after rows text word v)
      (word_turn s p next a b own index single several ends after rows text word v passes) goes

  pub set_goes : HasSetRules s → (folder text : Text) → IsValue folder → IsValue text → (words : List Text) (to : Walk)
      → Goes s (id_given folder text) words to → Goes s (walk_from nothing_held) (folder ∷ codes "--id" ∷ text ∷ words) to
  set_goes has folder text is_folder is_id words to goes =
      let id_option : IsOption s (codes "--id") (codes "id") built_id = record {
        not_end = refl;
        is_long = refl;
        found = has.found;
        own = has.own_id;
        takes = refl;
        one_value = λ value. refl;
      } in
      one_word _ _ to folder (codes "--id" ∷ text ∷ words) (folder_step s has.first folder is_folder) (folder_turn s has.first folder is_folder)
      (option_goes built_folder has.own_folder [] folder (has.alone folder) (codes "--id") (codes "id") built_id id_option text is_id words to goes)

-- ---- the program's words

-- the program's own arguments have no defaults
top_defaults : defaults_fault [] (built raidtool_app).top.rules ≡ []
unfolding defaults_fault
top_defaults = refl

-- the walk over the program's words stops at this name
abbrev stopped : Text → List Text → Walk
stopped name rest = record (walk_from nothing_held) { stopped = Some (name, rest) }

-- the program's words begin with the name of this subcommand
pub record StopsAt (s : Shape) (rest : List Text) : Type 0 where
  pub walk_is : walk (built raidtool_app).top.rules (names_of (built raidtool_app)) nothing_held (s.name ∷ rest) ≡ stopped s.name rest
  pub no_fault : walk_fault (built raidtool_app).top (names_of (built raidtool_app)) (walk_from nothing_held) (s.name ∷ rest) ≡ []
  pub found : find (λ (sub : Shape). answers_to s.name (label_of sub)) (built raidtool_app).subs ≡ Some s

-- where the walk over a subcommand's words ends, nothing is wrong
pub record EndsWell (s : Shape) (to : Walk) : Type 0 where
  pub settles : settle_fault s.rules s.args_override_self to.held ≡ []
  pub defaults : defaults_fault (settled s.rules to.held).rows s.rules ≡ []
  pub checks : check_fault s (finished s.rules to.held) false ≡ []

level_none : (s : Shape) (words : List Text) (to : Walk) → Goes s (walk_from nothing_held) words to → EndsWell s to
    → level_fault s [] nothing_held words false [] ≡ []
level_none s words to goes well = rw (goes.no_fault, goes.walk_is, well.settles, well.defaults, well.checks) refl

-- so the words are the subcommand's, and these are its rows
pub sub_enters : (s : Shape) (rest : List Text) (to : Walk) → StopsAt s rest → Goes s (walk_from nothing_held) rest to → EndsWell s to
    → Enters (s.name ∷ rest) s.name (finished s.rules to.held)
sub_enters s rest to stops goes well = record {
  taken = rw (stops.no_fault, stops.walk_is, stops.found, level_none s rest to goes well, top_defaults) refl;
  entered =
      ap (λ (w : Walk). entered (built raidtool_app) w.stopped) stops.walk_is
      ∙ ap (λ (sub : Option Shape). option_map (λ (s : Shape). rows_at s rest) sub) stops.found
      ∙ ap (λ (w : Walk). Some (s.name, finished s.rules w.held)) goes.walk_is;
}
