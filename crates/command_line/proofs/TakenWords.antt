-- What clap finds in words that it takes as the program's.
use Rattle.std.proofs.Common.{◌≡◌, ◌∙◌, inl, inr, Bool, true, false, not, ◌&&◌, ◌||◌, cond, ℕ, List, [], ◌∷◌, Option, Some, None, refl, sym, true≢false, ap}
use Rattle.std.proofs.Common.{codes}
use Rattle.std.specs.Prelude.{fold, is_some, option_map}
use Rattle.std.specs.Option.{option_map_or}
use Rattle.std.specs.Str.{bytes_eq}
use Rattle.std.proofs.lemmas.Slice.Eq.{bytes_eq-Decides}
use Rattle.clap.specs.Kinds.{check_kinds}
use Rattle.clap.specs.Faults.{defaults_fault, entered_fault, level_fault, settle_fault, walk_fault}
use Rattle.clap.specs.Simple.{App, Shape, built, built_leaf, entered, filled, help_rule, inherited, marked_built, names_of, rows_at, subcommand_of, with_index}
use Rattle.clap.specs.Simple.{with_leaf_noted}
use Rattle.clap.specs.Takes.{is_given}
use Rattle.clap.specs.Values.{bool_text}
use Rattle.clap.specs.Walk.{Row, Rule, Text, answers_to, arg_by_id, has_row, nothing_held, rows_after, settled, walk, walk_from, with_default}
use Rattle.clap.proofs.ValueTestLemmas.{accepts-Accepts}
use Rattle.command_line.specs.Commands.{blocks_rule, chunk_rule, examine_app, flag_rule, folder_rule, from_one, id_rule, make_app, members_rule}
use Rattle.command_line.specs.Commands.{name_rule, new_name_rule, raidtool_app, rebuild_app, rename_app, set_app, size_rule, sized_app, slot_app, slot_rule}
use Rattle.command_line.specs.Commands.{some_id_rule, some_number_rule, status_app, steps_rule, stripes_rule, up_to, volume_app}
use Rattle.command_line.specs.FoundRows.{HasCountOrNone, HasEntered, HasFlagValue, HasFlags, HasFolder, HasMakeValues, HasNumberTo, HasNumberToOrNone, HasSet}
use Rattle.command_line.specs.FoundRows.{HasWord, of_create, of_examine, of_extend, of_fail, of_list, of_make, of_rebuild, of_remove, of_rename, of_replace}
use Rattle.command_line.specs.FoundRows.{of_run, of_scrub, of_serve, of_status, of_upgrade}
use Rattle.command_line.specs.Invocations.{IsTaken}
use Rattle.command_line.proofs.TakenRows.{Ends, GivenBy, default_row, found_value, given_some, given_value, kept_row, level_ends, no_default, no_row}
use Rattle.command_line.proofs.TakenRows.{number_given}
use Rattle.command_line.proofs.WalkFills.{Filled, Fills, HaveGoodDefaults, first_none, flag_fills, one_value_fills, second_none}

-- ---- the subcommands, as the program builds them

abbrev pub built_sub : App → Shape
built_sub sub = built_leaf (inherited (with_leaf_noted (marked_built raidtool_app.top)) sub.top)

-- one with FOLDER and `--id H`
abbrev pub built_set : Text → Shape
built_set name = built_sub (set_app name)

-- one with FOLDER, `--id H` and `--slot K`
abbrev pub built_slotted : Text → Shape
built_slotted name = built_sub (slot_app name)

abbrev pub built_make : Shape
built_make = built_sub make_app

abbrev pub built_status : Shape
built_status = built_sub status_app

abbrev pub built_rebuild : Shape
built_rebuild = built_sub rebuild_app

abbrev pub built_examine : Shape
built_examine = built_sub examine_app

-- one with FOLDER, NAME and `--id H`
abbrev pub built_volume : Text → Shape
built_volume name = built_sub (volume_app name)

-- one with FOLDER, NAME, SIZE and `--id H`
abbrev pub built_sized : Text → Shape
built_sized name = built_sub (sized_app name)

abbrev pub built_rename : Shape
built_rename = built_sub rename_app

abbrev pub built_name : Rule
built_name = with_index 2 (filled name_rule)

abbrev pub built_blocks : Rule
built_blocks = with_index 3 (filled blocks_rule)

abbrev pub built_new_name : Rule
built_new_name = with_index 3 (filled new_name_rule)

abbrev pub built_some_id : Rule
built_some_id = with_index 2 (filled some_id_rule)

abbrev pub built_folder : Rule
built_folder = with_index 1 (filled folder_rule)

abbrev pub built_id : Rule
built_id = with_index 2 (filled id_rule)

abbrev pub built_members : Rule
built_members = with_index 2 (filled members_rule)

abbrev pub built_chunk : Rule
built_chunk = with_index 2 (filled chunk_rule)

abbrev pub built_stripes : Rule
built_stripes = with_index 2 (filled stripes_rule)

abbrev pub built_size : Rule
built_size = with_index 2 (filled size_rule)

abbrev pub built_flag : Text → Rule
built_flag name = with_index 2 (filled (flag_rule name))

abbrev pub built_over : Rule
built_over = built_flag (codes "over")

abbrev pub built_reserve : Rule
built_reserve = built_flag (codes "reserve")

abbrev pub built_json : Rule
built_json = built_flag (codes "json")

abbrev pub built_check : Rule
built_check = built_flag (codes "check")

abbrev pub built_slot : Rule
built_slot = with_index 2 (filled slot_rule)

abbrev pub built_steps : Rule
built_steps = with_index 2 (filled steps_rule)

-- ---- FOLDER and the id

two_given : (a b more : Bool) → check_kinds false false ((true && not a) || ((true && not b) || more)) ≡ [] → (a ≡ true) × (b ≡ true) × (more ≡ false)
two_given true true false e = (refl, refl, refl)
two_given true true true e = cc
two_given true false more e = cc
two_given false b more e = cc

two_more : (a b : Bool) → ((true && not a) || ((true && not b) || false)) ≡ false → (a ≡ true) × (b ≡ true)
two_more true true e = (refl, refl)
two_more true false e = absurd (true≢false e)
two_more false b e = absurd (true≢false e)

one_given : (a : Bool) → ((true && not a) || false) ≡ false → a ≡ true
one_given true e = refl
one_given false e = absurd (true≢false e)

-- ---- what `run`, `serve`, `scrub`, `upgrade` and `list` find

module _ (name : Text) where
  set_fills : Fills (built_set name).rules (built_set name).rules
  set_fills = (
    one_value_fills (built_set name).rules built_folder refl,
    (one_value_fills (built_set name).rules built_id refl, ((λ again values rows f e. f), tt)),
  )

  taken_set : (words : List Text) → level_fault (built_set name) [] nothing_held words false [] ≡ [] → HasSet (rows_after (built_set name).rules [] words)
  taken_set words e =
      let known = (built_set name).rules in
      let rows = rows_after known [] words in
      let ends : Ends (built_set name) rows = level_ends (built_set name) words set_fills ((refl, refl), ((refl, refl), ((refl, refl), tt))) e in
      let given = two_given (is_given (codes "folder") rows) (is_given (codes "id") rows) false ends.checked in
      record {
        folder = given_some built_folder rows (given_value known built_folder rows refl ends.filled_rows given.0);
        id = given_some built_id rows (given_value known built_id rows refl ends.filled_rows given.1);
      }

-- ---- flags, and numbers that may be left out

-- the value of a flag is one of two
flag_given : (name : Text) (rows : List Row) → GivenBy (built_flag name) rows → HasFlagValue rows name
flag_given name rows given = go (bytes_eq given.0 (codes "true")) (bytes_eq given.0 (codes "false")) refl refl given.3
  where
    value : (b : Bool) → given.0 ≡ bool_text b → HasFlagValue rows name
    value b is = (b, given.1 ∙ ap (λ (t : Text). Some t) is, given.2 ∙ ap (λ (t : Text). Some t) is)

    go : (a b : Bool) → bytes_eq given.0 (codes "true") ≡ a → bytes_eq given.0 (codes "false") ≡ b → (a || b) ≡ true → HasFlagValue rows name
    go true b is other e = value true ((bytes_eq-Decides given.0 (codes "true")).0 is)
    go false true other is e = value false ((bytes_eq-Decides given.0 (codes "false")).0 is)
    go false false a b e = absurd (true≢false (sym e))

-- each of two flags has one, since it has a default
module _ (a b : Text) (before : List Row) where
  -- after both and the help
  abbrev defaulted : List Row
  defaulted = with_default (with_default (with_default before (built_flag a)) (built_flag b)) (with_index 2 (filled help_rule))

  first_row : has_row a defaulted ≡ true
  first_row =
      let first = with_default before (built_flag a) in
      rw (no_default (with_default first (built_flag b)) (with_index 2 (filled help_rule)) refl)
      (kept_row a (built_flag b) first (codes "false") [] refl (default_row (built_flag a) before (codes "false") [] refl))

  second_row : has_row b defaulted ≡ true
  second_row =
      let first = with_default before (built_flag a) in
      rw (no_default (with_default first (built_flag b)) (with_index 2 (filled help_rule)) refl) (default_row (built_flag b) first (codes "false") [] refl)

-- a number is given, or left out
some_number_given : (known : List Rule) (name : Text) (most : ℕ) (rows : List Row)
    → arg_by_id known name ≡ Some (with_index 2 (filled (some_number_rule name (up_to most)))) → Filled known rows → HasNumberToOrNone rows name most
some_number_given known name most rows own f = go (has_row name rows) refl
  where
    go : (b : Bool) → has_row name rows ≡ b → HasNumberToOrNone rows name most
    go true has =
        let rule = with_index 2 (filled (some_number_rule name (up_to most))) in
        let given : GivenBy rule rows = found_value known rule rows own f has in
        inr (given.0, given.1, given.2, accepts-Accepts false (up_to most) given.0 given.3)
    go false none = inl (no_row name rows none)

-- ---- what `make` finds

make_fills : Fills built_make.rules built_make.rules
make_fills = (
  one_value_fills built_make.rules built_folder refl,
  (
    one_value_fills built_make.rules built_id refl,
    (
      one_value_fills built_make.rules built_members refl,
      (
        one_value_fills built_make.rules built_chunk refl,
        (
          one_value_fills built_make.rules built_stripes refl,
          (
            one_value_fills built_make.rules built_size refl,
            (
              flag_fills built_make.rules built_over refl refl,
              (flag_fills built_make.rules built_reserve refl refl, ((λ again values rows f e. f), tt)),
            ),
          ),
        ),
      ),
    ),
  ),
)

-- the rows before those of the flags
abbrev before_flags : List Row → List Row
before_flags rows = fold with_default rows (built_folder ∷ built_id ∷ built_members ∷ built_chunk ∷ built_stripes ∷ built_size ∷ [])

over_row : (rows : List Row) → has_row (codes "over") (fold with_default rows built_make.rules) ≡ true
over_row rows = first_row (codes "over") (codes "reserve") (before_flags rows)

reserve_row : (rows : List Row) → has_row (codes "reserve") (fold with_default rows built_make.rules) ≡ true
reserve_row rows = second_row (codes "over") (codes "reserve") (before_flags rows)

taken_make : (words : List Text) → level_fault built_make [] nothing_held words false [] ≡ []
    → HasSet (rows_after built_make.rules [] words) × HasMakeValues (rows_after built_make.rules [] words)
taken_make words e =
    let known = built_make.rules in
    let rows = rows_after known [] words in
    let settled_rows = (settled known (walk known [] nothing_held words).held).rows in
    let good : HaveGoodDefaults known known =
    ((refl, refl), ((refl, refl), ((refl, refl), ((refl, refl), ((refl, refl), ((refl, refl), ((refl, refl), ((refl, refl), ((refl, refl), tt))))))))) in
    let ends : Ends built_make rows = level_ends built_make words make_fills good e in
    let given = two_given (is_given (codes "folder") rows) (is_given (codes "id") rows) _ ends.checked in
    let members = one_given (is_given (codes "members") rows) given.2 in (
      record {
        folder = given_some built_folder rows (given_value known built_folder rows refl ends.filled_rows given.0);
        id = given_some built_id rows (given_value known built_id rows refl ends.filled_rows given.1);
      },
      record {
        members = number_given (codes "members") 255 rows (given_value known built_members rows refl ends.filled_rows members);
        chunk = some_number_given known (codes "chunk") 65535 rows refl ends.filled_rows;
        stripes = some_number_given known (codes "stripes") 4294967295 rows refl ends.filled_rows;
        over = flag_given (codes "over") rows (found_value known built_over rows refl ends.filled_rows (over_row settled_rows));
        reserve = flag_given (codes "reserve") rows (found_value known built_reserve rows refl ends.filled_rows (reserve_row settled_rows));
      },
    )

-- ---- what `fail` and `replace` find

module _ (name : Text) where
  slot_fills : Fills (built_slotted name).rules (built_slotted name).rules
  slot_fills = (
    one_value_fills (built_slotted name).rules built_folder refl,
    (
      one_value_fills (built_slotted name).rules built_id refl,
      (one_value_fills (built_slotted name).rules built_slot refl, ((λ again values rows f e. f), tt)),
    ),
  )

  taken_slot : (words : List Text) → level_fault (built_slotted name) [] nothing_held words false [] ≡ []
      → HasSet (rows_after (built_slotted name).rules [] words) × HasNumberTo (rows_after (built_slotted name).rules [] words) (codes "slot") 255
  taken_slot words e =
      let known = (built_slotted name).rules in
      let rows = rows_after known [] words in
      let ends : Ends (built_slotted name) rows =
      level_ends (built_slotted name) words slot_fills ((refl, refl), ((refl, refl), ((refl, refl), ((refl, refl), tt)))) e in
      let given = two_given (is_given (codes "folder") rows) (is_given (codes "id") rows) _ ends.checked in
      let slot = one_given (is_given (codes "slot") rows) given.2 in (
        record {
          folder = given_some built_folder rows (given_value known built_folder rows refl ends.filled_rows given.0);
          id = given_some built_id rows (given_value known built_id rows refl ends.filled_rows given.1);
        },
        number_given (codes "slot") 255 rows (given_value known built_slot rows refl ends.filled_rows slot),
      )

-- ---- what `rebuild` finds

rebuild_fills : Fills built_rebuild.rules built_rebuild.rules
rebuild_fills = (
  one_value_fills built_rebuild.rules built_folder refl,
  (one_value_fills built_rebuild.rules built_id refl, (one_value_fills built_rebuild.rules built_steps refl, ((λ again values rows f e. f), tt))),
)

-- the steps are given, or left out
steps_given : (rows : List Row) → Filled built_rebuild.rules rows → HasCountOrNone rows (codes "steps")
steps_given rows f = go (has_row (codes "steps") rows) refl
  where
    go : (b : Bool) → has_row (codes "steps") rows ≡ b → HasCountOrNone rows (codes "steps")
    go true has =
        let given : GivenBy built_steps rows = found_value built_rebuild.rules built_steps rows refl f has in
        inr (given.0, given.1, given.2, accepts-Accepts false from_one given.0 given.3)
    go false none = inl (no_row (codes "steps") rows none)

taken_rebuild : (words : List Text) → level_fault built_rebuild [] nothing_held words false [] ≡ []
    → HasSet (rows_after built_rebuild.rules [] words) × HasCountOrNone (rows_after built_rebuild.rules [] words) (codes "steps")
taken_rebuild words e =
    let known = built_rebuild.rules in
    let rows = rows_after known [] words in
    let ends : Ends built_rebuild rows = level_ends built_rebuild words rebuild_fills ((refl, refl), ((refl, refl), ((refl, refl), ((refl, refl), tt)))) e in
    let given = two_given (is_given (codes "folder") rows) (is_given (codes "id") rows) _ ends.checked in (
      record {
        folder = given_some built_folder rows (given_value known built_folder rows refl ends.filled_rows given.0);
        id = given_some built_id rows (given_value known built_id rows refl ends.filled_rows given.1);
      },
      steps_given rows ends.filled_rows,
    )

-- ---- what `status` finds

status_fills : Fills built_status.rules built_status.rules
status_fills = (
  one_value_fills built_status.rules built_folder refl,
  (
    one_value_fills built_status.rules built_id refl,
    (
      flag_fills built_status.rules built_json refl refl,
      (flag_fills built_status.rules built_check refl refl, ((λ again values rows f e. f), tt)),
    ),
  ),
)

-- so of `status`
flag_row : (rows : List Row) → has_row (codes "json") (fold with_default rows built_status.rules) ≡ true
flag_row rows = first_row (codes "json") (codes "check") (with_default (with_default rows built_folder) built_id)

status_check_row : (rows : List Row) → has_row (codes "check") (fold with_default rows built_status.rules) ≡ true
status_check_row rows = second_row (codes "json") (codes "check") (with_default (with_default rows built_folder) built_id)

taken_status : (words : List Text) → level_fault built_status [] nothing_held words false [] ≡ []
    → HasSet (rows_after built_status.rules [] words) × HasFlags (rows_after built_status.rules [] words)
taken_status words e =
    let known = built_status.rules in
    let rows = rows_after known [] words in
    let ends : Ends built_status rows =
    level_ends built_status words status_fills ((refl, refl), ((refl, refl), ((refl, refl), ((refl, refl), ((refl, refl), tt))))) e in
    let given = two_given (is_given (codes "folder") rows) (is_given (codes "id") rows) _ ends.checked in (
      record {
        folder = given_some built_folder rows (given_value known built_folder rows refl ends.filled_rows given.0);
        id = given_some built_id rows (given_value known built_id rows refl ends.filled_rows given.1);
      },
      (
        flag_given (codes "json") rows
            (found_value known built_json rows refl ends.filled_rows (flag_row (settled known (walk known [] nothing_held words).held).rows)),
        flag_given (codes "check") rows
            (found_value known built_check rows refl ends.filled_rows (status_check_row (settled known (walk known [] nothing_held words).held).rows)),
      ),
    )

-- ---- what `examine` finds

examine_fills : Fills built_examine.rules built_examine.rules
examine_fills = (
  one_value_fills built_examine.rules built_folder refl,
  (
    one_value_fills built_examine.rules built_some_id refl,
    (
      flag_fills built_examine.rules built_json refl refl,
      (flag_fills built_examine.rules built_check refl refl, ((λ again values rows f e. f), tt)),
    ),
  ),
)

examine_flag_row : (rows : List Row) → has_row (codes "json") (fold with_default rows built_examine.rules) ≡ true
examine_flag_row rows = first_row (codes "json") (codes "check") (with_default (with_default rows built_folder) built_some_id)

examine_check_row : (rows : List Row) → has_row (codes "check") (fold with_default rows built_examine.rules) ≡ true
examine_check_row rows = second_row (codes "json") (codes "check") (with_default (with_default rows built_folder) built_some_id)

first_given : (a more : Bool) → check_kinds false false ((true && not a) || more) ≡ [] → a ≡ true
first_given true more e = refl
first_given false more e = cc

taken_examine : (words : List Text) → level_fault built_examine [] nothing_held words false [] ≡ []
    → HasFolder (rows_after built_examine.rules [] words) × HasFlags (rows_after built_examine.rules [] words)
taken_examine words e =
    let known = built_examine.rules in
    let rows = rows_after known [] words in
    let ends : Ends built_examine rows =
    level_ends built_examine words examine_fills ((refl, refl), ((refl, refl), ((refl, refl), ((refl, refl), ((refl, refl), tt))))) e in
    let given = first_given (is_given (codes "folder") rows) _ ends.checked in (
      given_some built_folder rows (given_value known built_folder rows refl ends.filled_rows given),
      (
        flag_given (codes "json") rows
            (found_value known built_json rows refl ends.filled_rows (examine_flag_row (settled known (walk known [] nothing_held words).held).rows)),
        flag_given (codes "check") rows
            (found_value known built_check rows refl ends.filled_rows (examine_check_row (settled known (walk known [] nothing_held words).held).rows)),
      ),
    )

-- ---- what `create` and `extend` find

module _ (name : Text) where
  sized_fills : Fills (built_sized name).rules (built_sized name).rules
  sized_fills = (
    one_value_fills (built_sized name).rules built_folder refl,
    (
      one_value_fills (built_sized name).rules built_id refl,
      (
        one_value_fills (built_sized name).rules built_name refl,
        (one_value_fills (built_sized name).rules built_blocks refl, ((λ again values rows f e. f), tt)),
      ),
    ),
  )

  taken_sized : (words : List Text) → level_fault (built_sized name) [] nothing_held words false [] ≡ []
      → HasSet (rows_after (built_sized name).rules [] words) × HasWord (rows_after (built_sized name).rules [] words) (codes "name")
      × HasWord (rows_after (built_sized name).rules [] words) (codes "size")
  taken_sized words e =
      let known = (built_sized name).rules in
      let rows = rows_after known [] words in
      let good : HaveGoodDefaults known known = ((refl, refl), ((refl, refl), ((refl, refl), ((refl, refl), ((refl, refl), tt))))) in
      let ends : Ends (built_sized name) rows = level_ends (built_sized name) words sized_fills good e in
      let given = two_given (is_given (codes "folder") rows) (is_given (codes "id") rows) _ ends.checked in
      let more = two_more (is_given (codes "name") rows) (is_given (codes "size") rows) given.2 in (
        record {
          folder = given_some built_folder rows (given_value known built_folder rows refl ends.filled_rows given.0);
          id = given_some built_id rows (given_value known built_id rows refl ends.filled_rows given.1);
        },
        given_some built_name rows (given_value known built_name rows refl ends.filled_rows more.0),
        given_some built_blocks rows (given_value known built_blocks rows refl ends.filled_rows more.1),
      )

-- ---- what `remove` finds

volume_fills : Fills (built_volume (codes "remove")).rules (built_volume (codes "remove")).rules
volume_fills = (
  one_value_fills (built_volume (codes "remove")).rules built_folder refl,
  (
    one_value_fills (built_volume (codes "remove")).rules built_id refl,
    (one_value_fills (built_volume (codes "remove")).rules built_name refl, ((λ again values rows f e. f), tt)),
  ),
)

taken_remove : (words : List Text) → level_fault (built_volume (codes "remove")) [] nothing_held words false [] ≡ []
    → HasSet (rows_after (built_volume (codes "remove")).rules [] words) × HasWord (rows_after (built_volume (codes "remove")).rules [] words) (codes "name")
taken_remove words e =
    let known = (built_volume (codes "remove")).rules in
    let rows = rows_after known [] words in
    let good : HaveGoodDefaults known known = ((refl, refl), ((refl, refl), ((refl, refl), ((refl, refl), tt)))) in
    let ends : Ends (built_volume (codes "remove")) rows = level_ends (built_volume (codes "remove")) words volume_fills good e in
    let given = two_given (is_given (codes "folder") rows) (is_given (codes "id") rows) _ ends.checked in
    let name = one_given (is_given (codes "name") rows) given.2 in (
      record {
        folder = given_some built_folder rows (given_value known built_folder rows refl ends.filled_rows given.0);
        id = given_some built_id rows (given_value known built_id rows refl ends.filled_rows given.1);
      },
      given_some built_name rows (given_value known built_name rows refl ends.filled_rows name),
    )

-- ---- what `rename` finds

rename_fills : Fills built_rename.rules built_rename.rules
rename_fills = (
  one_value_fills built_rename.rules built_folder refl,
  (
    one_value_fills built_rename.rules built_id refl,
    (
      one_value_fills built_rename.rules built_name refl,
      (one_value_fills built_rename.rules built_new_name refl, ((λ again values rows f e. f), tt)),
    ),
  ),
)

taken_rename : (words : List Text) → level_fault built_rename [] nothing_held words false [] ≡ []
    → HasSet (rows_after built_rename.rules [] words) × HasWord (rows_after built_rename.rules [] words) (codes "name")
    × HasWord (rows_after built_rename.rules [] words) (codes "new")
taken_rename words e =
    let known = built_rename.rules in
    let rows = rows_after known [] words in
    let good : HaveGoodDefaults known known = ((refl, refl), ((refl, refl), ((refl, refl), ((refl, refl), ((refl, refl), tt))))) in
    let ends : Ends built_rename rows = level_ends built_rename words rename_fills good e in
    let given = two_given (is_given (codes "folder") rows) (is_given (codes "id") rows) _ ends.checked in
    let more = two_more (is_given (codes "name") rows) (is_given (codes "new") rows) given.2 in (
      record {
        folder = given_some built_folder rows (given_value known built_folder rows refl ends.filled_rows given.0);
        id = given_some built_id rows (given_value known built_id rows refl ends.filled_rows given.1);
      },
      given_some built_name rows (given_value known built_name rows refl ends.filled_rows more.0),
      given_some built_new_name rows (given_value known built_new_name rows refl ends.filled_rows more.1),
    )

-- ---- what the program's words find

-- the subcommand whose name is met first
abbrev met : (is_run is_serve is_make is_status is_fail is_replace is_rebuild is_scrub is_upgrade is_examine : Bool)
    (is_create is_extend is_remove is_rename is_list : Bool) → Option Shape
met is_run is_serve is_make is_status is_fail is_replace is_rebuild is_scrub is_upgrade is_examine is_create is_extend is_remove is_rename is_list =
    cond is_run (Some (built_set (codes "run"))) (cond is_serve (Some (built_set (codes "serve"))) (cond is_make (Some built_make)
    (cond is_status (Some built_status) (cond is_fail (Some (built_slotted (codes "fail"))) (cond is_replace (Some (built_slotted (codes "replace")))
    (cond is_rebuild (Some built_rebuild) (cond is_scrub (Some (built_set (codes "scrub"))) (cond is_upgrade (Some (built_set (codes "upgrade")))
    (cond is_examine (Some built_examine) (cond is_create (Some (built_sized (codes "create"))) (cond is_extend (Some (built_sized (codes "extend")))
    (cond is_remove (Some (built_volume (codes "remove"))) (cond is_rename (Some built_rename)
    (cond is_list (Some (built_set (codes "list"))) None))))))))))))))

-- words that clap takes as the program's are those of a subcommand with all its values
pub taken_words : (words : List Text) → IsTaken words → HasEntered (subcommand_of raidtool_app words)
taken_words words e =
    let top = (built raidtool_app).top in
    let names = names_of (built raidtool_app) in
    let stop = (walk top.rules names nothing_held words).stopped in
    let end = (walk top.rules names nothing_held words).held in
    let below = second_none (walk_fault top names (walk_from nothing_held) words) _ e in
    let settles = second_none (entered_fault (built raidtool_app) stop) _ below in
    let after = second_none (settle_fault top.rules top.args_override_self end) _ settles in
    let checks = second_none (defaults_fault (settled top.rules end).rows top.rules) _ after in
    go stop (first_none _ _ below) (there (is_some (entered (built raidtool_app) stop)) checks)
  where
    there : (has : Bool) → check_kinds (not has && false) (not has && true) (not (false && has) && false) ≡ [] → has ≡ true
    there true e = refl
    there false e = cc

    found : (p : Text × List Text) (is_run is_serve is_make is_status is_fail is_replace is_rebuild is_scrub is_upgrade is_examine : Bool)
        (is_create is_extend is_remove is_rename is_list : Bool)
        → option_map_or (λ s. level_fault s [] nothing_held p.1 false [])
        (met is_run is_serve is_make is_status is_fail is_replace is_rebuild is_scrub is_upgrade is_examine
        is_create is_extend is_remove is_rename is_list) [] ≡ []
        → is_some (option_map (λ s. rows_at s p.1)
        (met is_run is_serve is_make is_status is_fail is_replace is_rebuild is_scrub is_upgrade is_examine
        is_create is_extend is_remove is_rename is_list)) ≡ true
        → HasEntered (option_map (λ s. rows_at s p.1)
        (met is_run is_serve is_make is_status is_fail is_replace is_rebuild is_scrub is_upgrade is_examine
        is_create is_extend is_remove is_rename is_list))
    found p true _ _ _ _ _ _ _ _ _ _ _ _ _ _ taken has =
        let set : HasSet _ = taken_set (codes "run") p.1 taken in
        record { folder = set.folder; set = λ other. set; others = of_run refl }
    found p false true _ _ _ _ _ _ _ _ _ _ _ _ _ taken has =
        let set : HasSet _ = taken_set (codes "serve") p.1 taken in
        record { folder = set.folder; set = λ other. set; others = of_serve refl }
    found p false false true _ _ _ _ _ _ _ _ _ _ _ _ taken has =
        let make = taken_make p.1 taken in
        record { folder = make.0.folder; set = λ other. make.0; others = of_make refl make.1 }
    found p false false false true _ _ _ _ _ _ _ _ _ _ _ taken has =
        let status = taken_status p.1 taken in
        record { folder = status.0.folder; set = λ other. status.0; others = of_status refl status.1 }
    found p false false false false true _ _ _ _ _ _ _ _ _ _ taken has =
        let fail = taken_slot (codes "fail") p.1 taken in
        record { folder = fail.0.folder; set = λ other. fail.0; others = of_fail refl fail.1 }
    found p false false false false false true _ _ _ _ _ _ _ _ _ taken has =
        let replace = taken_slot (codes "replace") p.1 taken in
        record { folder = replace.0.folder; set = λ other. replace.0; others = of_replace refl replace.1 }
    found p false false false false false false true _ _ _ _ _ _ _ _ taken has =
        let rebuild = taken_rebuild p.1 taken in
        record { folder = rebuild.0.folder; set = λ other. rebuild.0; others = of_rebuild refl rebuild.1 }
    found p false false false false false false false true _ _ _ _ _ _ _ taken has =
        let set : HasSet _ = taken_set (codes "scrub") p.1 taken in
        record { folder = set.folder; set = λ other. set; others = of_scrub refl }
    found p false false false false false false false false true _ _ _ _ _ _ taken has =
        let set : HasSet _ = taken_set (codes "upgrade") p.1 taken in
        record { folder = set.folder; set = λ other. set; others = of_upgrade refl }
    found p false false false false false false false false false true _ _ _ _ _ taken has =
        let examine = taken_examine p.1 taken in
        record { folder = examine.0; set = λ other. absurd (other refl); others = of_examine refl examine.1 }
    found p false false false false false false false false false false true _ _ _ _ taken has =
        let create = taken_sized (codes "create") p.1 taken in
        record { folder = create.0.folder; set = λ other. create.0; others = of_create refl create.1 create.2 }
    found p false false false false false false false false false false false true _ _ _ taken has =
        let extend = taken_sized (codes "extend") p.1 taken in
        record { folder = extend.0.folder; set = λ other. extend.0; others = of_extend refl extend.1 extend.2 }
    found p false false false false false false false false false false false false true _ _ taken has =
        let remove = taken_remove p.1 taken in
        record { folder = remove.0.folder; set = λ other. remove.0; others = of_remove refl remove.1 }
    found p false false false false false false false false false false false false false true _ taken has =
        let rename = taken_rename p.1 taken in
        record { folder = rename.0.folder; set = λ other. rename.0; others = of_rename refl rename.1 rename.2 }
    found p false false false false false false false false false false false false false false true taken has =
        let set : HasSet _ = taken_set (codes "list") p.1 taken in
        record { folder = set.folder; set = λ other. set; others = of_list refl }
    found p false false false false false false false false false false false false false false false taken has = absurd (true≢false (sym has))

    go : (stop : Option (Text × List Text)) → entered_fault (built raidtool_app) stop ≡ [] → is_some (entered (built raidtool_app) stop) ≡ true
        → HasEntered (entered (built raidtool_app) stop)
    go None taken has = absurd (true≢false (sym has))
    go (Some p) taken has =
        found p (answers_to p.0 (codes "run", [])) (answers_to p.0 (codes "serve", [])) (answers_to p.0 (codes "make", []))
        (answers_to p.0 (codes "status", [])) (answers_to p.0 (codes "fail", [])) (answers_to p.0 (codes "replace", []))
        (answers_to p.0 (codes "rebuild", [])) (answers_to p.0 (codes "scrub", [])) (answers_to p.0 (codes "upgrade", []))
        (answers_to p.0 (codes "examine", [])) (answers_to p.0 (codes "create", [])) (answers_to p.0 (codes "extend", []))
        (answers_to p.0 (codes "remove", [])) (answers_to p.0 (codes "rename", [])) (answers_to p.0 (codes "list", [])) taken has
