-- The object is its members, put one after another.
use Rattle.std.proofs.Common.{◌≡◌, ℕ, List, Bor, codes, fold, string_bytes, sym, ap, ◌∙◌, rules}
use Rattle.std.proofs.lemmas.List.Folds.{fold-map}
use Rattle.serde_json.specs.Data.{Members, no_members, object, put, string}
use Rattle.serde_json.specs.View.{view, members_view}
use Rattle.serde_json.specs.declared.value.Value.{String, the_lemmas}
use Rattle.serde_json.proofs.Views.{view-Object}
use Rattle.report.specs.Report.{whole}
use Rattle.report.proofs.Members.{put_on}
use Rattle.report.specs.Inspections.{entry_json}
use Rattle.report.proofs.inspection_values.slot_value.Goals as goal

-- a number with its key, as it is read of the code's, and as it is put into an object
abbrev said : Bor (List ℕ) × ℕ → List ℕ × ℕ
said number = (number.0.now, number.1)

abbrev put_number : Members → List ℕ × ℕ → Members
put_number done number = put number.0 (whole number.1) done

pub returns : goal.returns
returns c =
    let none : members_view c.new-object.result.entries ≡ no_members = ap members_view c.new-object.ensures.empty in
    let all = c.slot_numbers.result in
    let numbers = c.in_ok-put_numbers.ensures
    ∙ ap (λ (done : Members). fold (λ (d : Members) (n : Bor (List ℕ) × ℕ). put_number d (said n)) done all) none
    ∙ sym (fold-map put_number said no_members all)
    ∙ ap (fold put_number no_members) c.slot_numbers.ensures in
    let entry = c.entry_value.ensures ∙ ap entry_json c.last_of.ensures in
    let presence = c.in_ok-presence.ensures ∙ ap string c.presence_word-presence.ensures in
    let role = c.in_ok-role.ensures ∙ ap string c.role_word-role.ensures in
    let text : view (String c.in_ok-standing.standing) ≡ string (string_bytes c.in_ok-standing.standing) = search (rules, the_lemmas) in
    let standing = text ∙ ap string c.in_ok-standing.ensures in
    view-Object c.put-4.new.map ∙ ap object
    (put_on (codes "standing") (String c.in_ok-standing.standing) _ c.put-3.new.map.entries c.put-4.new.map.entries _ c.in_ok-put-4.ensures.ok standing
    (put_on (codes "role") c.in_ok-role.role _ c.put-2.new.map.entries c.put-3.new.map.entries _ c.in_ok-put-3.ensures.ok role
    (put_on (codes "presence") c.in_ok-presence.presence _ c.put.new.map.entries c.put-2.new.map.entries _ c.in_ok-put-2.ensures.ok presence
    (put_on (codes "entry") c.entry_value.result _ c.put_numbers.new.object.entries c.put.new.map.entries _ c.in_ok-put.ensures.ok entry numbers))))
