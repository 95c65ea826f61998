use Rattle.std.proofs.Common.{◌≡◌, ◌++◌, List, ℕ, string_bytes, codes, ap, ◌∙◌}
use Rattle.std.specs.Prelude.{Option, slice_index_or}
use Rattle.std.proofs.lemmas.List.{append_assoc}
use Rattle.std.proofs.lemmas.Result.{on_ok_weaker}
use Rattle.recovery.specs.Examining.{unexamined}
use Rattle.report.specs.Inspections.{entry_text, last_in, own_text, place_text, standing_text}
use Rattle.report.proofs.inspections.write_slot.Goals as goal

-- parts appended one after another
joined : (a p o e s l f : List ℕ) → a ++ p ++ o ++ e ++ s ++ l ++ f ≡ a ++ (p ++ o ++ e ++ s ++ l ++ f)
joined a p o e s l f = simp append_assoc

pub returns : goal.returns
returns c =
    let its = c.args.examined.now in
    let found = slice_index_or its.slots c.args.slot unexamined in
    on_ok_weaker c.end_slot.result (λ same. same
    ∙ ap (λ (text : List ℕ). text ++ codes " " ++ standing_text found.standing ++ codes "\n")
    (c.in_ok-write_entry.ensures
    ∙ ap (λ (last : Option ℕ). string_bytes c.write_own.new.text ++ entry_text last) c.last_of.ensures
    ∙ ap (λ (text : List ℕ). text ++ entry_text (last_in its.table.geometry.members c.args.slot its.last))
    (c.in_ok-write_own.ensures ∙ ap (λ (text : List ℕ). text ++ own_text found) c.in_ok-write_place.ensures))
    ∙ joined (string_bytes c.args.text.now) (place_text its.table.geometry.members c.args.slot) (own_text found)
    (entry_text (last_in its.table.geometry.members c.args.slot its.last)) (codes " ") (standing_text found.standing) (codes "\n")) c.end_slot.ensures
