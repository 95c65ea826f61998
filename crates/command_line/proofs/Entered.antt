-- What is found of `make`, where it was entered.
use Rattle.std.proofs.Common.{rules, ◌≡◌, ◌⊎◌, inl, inr, ◌∙◌, refl, ap, ap₂, sym, subst, false, List, Option, Some, None, codes}
use Rattle.std.specs.Prelude.{IfErr, IfOk, IsSomeAnd, Result, option_map, unwrap_or}
use Rattle.std.proofs.lemmas.Result.{IfErr-weaker, IfOk-weaker}
use Rattle.std.specs.Str.{bytes_eq}
use Rattle.clap.specs.Matches.{found_of, subcommand_name_of}
use Rattle.clap.specs.Simple.{subcommand_rows_of}
use Rattle.clap.specs.Walk.{Row, Text, rows_of}
use Rattle.clap.specs.declared.parser.matches.ArgMatches.{ArgMatches}
use Rattle.command_line.specs.declared.Asked.{Asked}
use Rattle.command_line.specs.declared.InvocationFault.{InvocationFault}
use Rattle.command_line.specs.Invocations.{AsksIn, IsFaultIn}
use Rattle.command_line.specs.FoundRows.{HasEntered, HasMakeValues, HasValues, IsComplete, of_create, of_examine, of_extend, of_fail, of_list, of_make}
use Rattle.command_line.specs.FoundRows.{of_rebuild, of_remove, of_rename, of_replace, of_run, of_scrub, of_serve, of_status, of_upgrade}
use Rattle.command_line.proofs.OneAsked.{two_names}

abbrev Entered : Type 0
Entered = Option (Text × List Row)

name_found : (m : ArgMatches) → subcommand_name_of m ≡ option_map (λ (e : Text × List Row). e.0) (subcommand_rows_of m)
name_found m = search rules

both : (o : Entered) (name : Text) (rows : List Row) → option_map (λ e. e.0) o ≡ Some name → option_map (λ e. e.1) o ≡ Some rows → o ≡ Some (name, rows)
both None name rows is are = cc
both (Some e) name rows is are =
    ap₂ (λ (n : Text) (r : List Row). Some (n, r)) (ap (λ (o : Option Text). unwrap_or o name) is) (ap (λ (o : Option (List Row)). unwrap_or o rows) are)

other : (name text : Text) → bytes_eq text (codes "make") ≡ false → name ≡ text → name ≡ codes "make" → ⊥
other name text differ is same = two_names text (codes "make") differ (sym is ∙ same)

values : (name : Text) (rows : List Row) → name ≡ codes "make" → HasValues name rows → HasMakeValues rows
values name rows same (of_make is has) = has
values name rows same (of_run is) = absurd (other name (codes "run") refl is same)
values name rows same (of_serve is) = absurd (other name (codes "serve") refl is same)
values name rows same (of_status is has) = absurd (other name (codes "status") refl is same)
values name rows same (of_fail is has) = absurd (other name (codes "fail") refl is same)
values name rows same (of_replace is has) = absurd (other name (codes "replace") refl is same)
values name rows same (of_rebuild is has) = absurd (other name (codes "rebuild") refl is same)
values name rows same (of_scrub is) = absurd (other name (codes "scrub") refl is same)
values name rows same (of_upgrade is) = absurd (other name (codes "upgrade") refl is same)
values name rows same (of_examine is has) = absurd (other name (codes "examine") refl is same)
values name rows same (of_create is has more) = absurd (other name (codes "create") refl is same)
values name rows same (of_extend is has more) = absurd (other name (codes "extend") refl is same)
values name rows same (of_remove is has) = absurd (other name (codes "remove") refl is same)
values name rows same (of_rename is has more) = absurd (other name (codes "rename") refl is same)
values name rows same (of_list is) = absurd (other name (codes "list") refl is same)

pub make_values : (m sub : ArgMatches) (name : Text) → HasEntered (subcommand_rows_of m) → Some name ≡ subcommand_name_of m
    → Some (rows_of (found_of sub)) ≡ option_map (λ e. e.1) (subcommand_rows_of m) → name ≡ codes "make" → HasMakeValues (rows_of (found_of sub))
make_values m sub name has is are make =
    let entered = both (subcommand_rows_of m) name (rows_of (found_of sub)) (sym (name_found m) ∙ sym is) (sym are) in
    let complete : IsComplete name (rows_of (found_of sub)) = subst HasEntered entered has in
    values name (rows_of (found_of sub)) make complete.others

-- the name of a subcommand of the program
abbrev pub IsKnown : Text → Type 0
IsKnown name =
    (name ≡ codes "run") ⊎ ((name ≡ codes "serve") ⊎ ((name ≡ codes "make") ⊎ ((name ≡ codes "status") ⊎ ((name ≡ codes "fail")
    ⊎ ((name ≡ codes "replace") ⊎ ((name ≡ codes "rebuild") ⊎ ((name ≡ codes "scrub") ⊎ ((name ≡ codes "upgrade") ⊎ ((name ≡ codes "examine")
    ⊎ ((name ≡ codes "create") ⊎ ((name ≡ codes "extend") ⊎ ((name ≡ codes "remove") ⊎ ((name ≡ codes "rename") ⊎ ((name ≡ codes "list")))))))))))))))

-- what is read of the rows of the subcommand that was entered
module _ (m sub : ArgMatches) (name text : Text) (is : Some name ≡ subcommand_name_of m)
    (are : Some (rows_of (found_of sub)) ≡ option_map (λ e. e.1) (subcommand_rows_of m)) (same : name ≡ text) where
  entered_as : subcommand_rows_of m ≡ Some (text, rows_of (found_of sub))
  entered_as = both (subcommand_rows_of m) text (rows_of (found_of sub)) (sym (name_found m) ∙ sym is ∙ ap (λ (t : Text). Some t) same) (sym are)

  pub asks_as : (r : Result Asked InvocationFault) → IfOk r (AsksIn text (rows_of (found_of sub)))
      → IfOk r (λ asked. IsSomeAnd (subcommand_rows_of m) (λ e. AsksIn e.0 e.1 asked))
  asks_as r h = IfOk-weaker r _ _ (λ asked asks. rw entered_as asks) h

  pub fails_as : (r : Result Asked InvocationFault) → IfErr r (IsFaultIn text (rows_of (found_of sub)))
      → IfErr r (λ fault. IsSomeAnd (subcommand_rows_of m) (λ e. IsFaultIn e.0 e.1 fault))
  fails_as r h = IfErr-weaker r _ _ (λ fault fails. rw entered_as fails) h

-- a name is one of those of the program's subcommands
pub is_known : (m : ArgMatches) → HasEntered (subcommand_rows_of m) → (name : Text) → Some name ≡ subcommand_name_of m → IsKnown name
is_known m has name is = go (subcommand_rows_of m) has (is ∙ name_found m)
  where
    known : (n : Text) (rows : List Row) → HasValues n rows → IsKnown n
    known n rows (of_run e) = inl e
    known n rows (of_serve e) = inr (inl e)
    known n rows (of_make e v) = inr (inr (inl e))
    known n rows (of_status e v) = inr (inr (inr (inl e)))
    known n rows (of_fail e v) = inr (inr (inr (inr (inl e))))
    known n rows (of_replace e v) = inr (inr (inr (inr (inr (inl e)))))
    known n rows (of_rebuild e v) = inr (inr (inr (inr (inr (inr (inl e))))))
    known n rows (of_scrub e) = inr (inr (inr (inr (inr (inr (inr (inl e)))))))
    known n rows (of_upgrade e) = inr (inr (inr (inr (inr (inr (inr (inr (inl e))))))))
    known n rows (of_examine e v) = inr (inr (inr (inr (inr (inr (inr (inr (inr (inl e)))))))))
    known n rows (of_create e v w) = inr (inr (inr (inr (inr (inr (inr (inr (inr (inr (inl e))))))))))
    known n rows (of_extend e v w) = inr (inr (inr (inr (inr (inr (inr (inr (inr (inr (inr (inl e)))))))))))
    known n rows (of_remove e v) = inr (inr (inr (inr (inr (inr (inr (inr (inr (inr (inr (inr (inl e))))))))))))
    known n rows (of_rename e v w) = inr (inr (inr (inr (inr (inr (inr (inr (inr (inr (inr (inr (inr (inl e)))))))))))))
    known n rows (of_list e) = inr (inr (inr (inr (inr (inr (inr (inr (inr (inr (inr (inr (inr (inr e)))))))))))))

    go : (o : Entered) → HasEntered o → Some name ≡ option_map (λ e. e.0) o → IsKnown name
    go None has is = absurd has
    go (Some e) has is =
        let same : e.0 ≡ name = ap (λ (o : Option Text). unwrap_or o name) (sym is) in
        subst IsKnown same (known e.0 e.1 has.others)

-- no other name is
pub none_of : (name : Text) → IsKnown name
    → (name ≡ codes "run" → ⊥)
    → (name ≡ codes "serve" → ⊥)
    → (name ≡ codes "make" → ⊥)
    → (name ≡ codes "status" → ⊥)
    → (name ≡ codes "fail" → ⊥)
    → (name ≡ codes "replace" → ⊥)
    → (name ≡ codes "rebuild" → ⊥)
    → (name ≡ codes "scrub" → ⊥)
    → (name ≡ codes "upgrade" → ⊥)
    → (name ≡ codes "examine" → ⊥)
    → (name ≡ codes "create" → ⊥)
    → (name ≡ codes "extend" → ⊥)
    → (name ≡ codes "remove" → ⊥)
    → (name ≡ codes "rename" → ⊥)
    → (name ≡ codes "list" → ⊥) → ⊥
none_of name (inl is) other _ _ _ _ _ _ _ _ _ _ _ _ _ _ = other is
none_of name (inr (inl is)) _ other _ _ _ _ _ _ _ _ _ _ _ _ _ = other is
none_of name (inr (inr (inl is))) _ _ other _ _ _ _ _ _ _ _ _ _ _ _ = other is
none_of name (inr (inr (inr (inl is)))) _ _ _ other _ _ _ _ _ _ _ _ _ _ _ = other is
none_of name (inr (inr (inr (inr (inl is))))) _ _ _ _ other _ _ _ _ _ _ _ _ _ _ = other is
none_of name (inr (inr (inr (inr (inr (inl is)))))) _ _ _ _ _ other _ _ _ _ _ _ _ _ _ = other is
none_of name (inr (inr (inr (inr (inr (inr (inl is))))))) _ _ _ _ _ _ other _ _ _ _ _ _ _ _ = other is
none_of name (inr (inr (inr (inr (inr (inr (inr (inl is)))))))) _ _ _ _ _ _ _ other _ _ _ _ _ _ _ = other is
none_of name (inr (inr (inr (inr (inr (inr (inr (inr (inl is))))))))) _ _ _ _ _ _ _ _ other _ _ _ _ _ _ = other is
none_of name (inr (inr (inr (inr (inr (inr (inr (inr (inr (inl is)))))))))) _ _ _ _ _ _ _ _ _ other _ _ _ _ _ = other is
none_of name (inr (inr (inr (inr (inr (inr (inr (inr (inr (inr (inl is))))))))))) _ _ _ _ _ _ _ _ _ _ other _ _ _ _ = other is
none_of name (inr (inr (inr (inr (inr (inr (inr (inr (inr (inr (inr (inl is)))))))))))) _ _ _ _ _ _ _ _ _ _ _ other _ _ _ = other is
none_of name (inr (inr (inr (inr (inr (inr (inr (inr (inr (inr (inr (inr (inl is))))))))))))) _ _ _ _ _ _ _ _ _ _ _ _ other _ _ = other is
none_of name (inr (inr (inr (inr (inr (inr (inr (inr (inr (inr (inr (inr (inr (inl is)))))))))))))) _ _ _ _ _ _ _ _ _ _ _ _ _ other _ = other is
none_of name (inr (inr (inr (inr (inr (inr (inr (inr (inr (inr (inr (inr (inr (inr is)))))))))))))) _ _ _ _ _ _ _ _ _ _ _ _ _ _ other = other is
