-- The object is its members, put one after another.
use Rattle.std.proofs.Common.{◌≡◌, ℕ, ◌+◌, List, [], ◌∷◌, Bor, codes, fold, string_bytes, refl, sym, ap, ◌∙◌, rules}
use Rattle.std.proofs.lemmas.List.Folds.{fold-map}
use Rattle.serde_json.specs.Data.{Members, array, no_members, object, put, string}
use Rattle.serde_json.specs.View.{items_of, view, members_view}
use Rattle.serde_json.specs.declared.value.Value.{Array, String, the_lemmas}
use Rattle.serde_json.proofs.Views.{view-Array, view-Object}
use Rattle.hex.specs.Hex.{encode_lower}
use Rattle.layout_map.specs.declared.format.Format.{Format}
use Rattle.layout_map.specs.declared.format.Format.TheVariants.{One, Two}
use Rattle.recovery.specs.declared.examination.Examined.{Examined}
use Rattle.volume_table.specs.declared.status.Status.{Status}
use Rattle.report.specs.Inspections.{inspection_pairs, inspection_slots_json, outlook_text}
use Rattle.report.specs.Report.{format_put, left, members_of, whole}
use Rattle.report.proofs.Members.{put_on}
use Rattle.report.proofs.inspection_values.inspection_value.Goals as goal

-- a number with its key, as it is read of the code's, and as it is put into an object
abbrev said : Bor (List ℕ) × ℕ → List ℕ × ℕ
said number = (number.0.now, number.1)

abbrev put_number : Members → List ℕ × ℕ → Members
put_number done number = put number.0 (whole number.1) done

-- the numbers of a set, each with its key, in the order in which they are put
abbrev numbers_of : Status → List (List ℕ × ℕ)
numbers_of status =
    (codes "chunk", status.chunk) ∷ (codes "stripes", status.stripes) ∷ (codes "rows", status.rows) ∷ (codes "members", status.members)
    ∷ (codes "generation", status.generation) ∷ (codes "position", status.position) ∷ (codes "left", left status) ∷ []

-- the keys are in order, whatever the format
in_order : (format : Format) (status : Status) (examined : Examined)
    → put (codes "slots") (array (items_of (inspection_slots_json examined (examined.table.geometry.members + 2))))
    (put (codes "outlook") (string (outlook_text examined.outlook)) (put (codes "id") (string (encode_lower status.id))
    (format_put format status.extent_blocks (fold put_number no_members (numbers_of status)))))
    ≡ members_of (inspection_pairs format status examined)
in_order One status examined = refl
in_order Two status examined = refl

pub returns : goal.returns
returns c =
    let status = c.args.status.now in
    let none : members_view c.new-object.result.entries ≡ no_members = ap members_view c.new-object.ensures.empty in
    let all = c.set_numbers.result in
    let numbers = c.in_ok-put_numbers.ensures
    ∙ ap (λ (done : Members). fold (λ (d : Members) (n : Bor (List ℕ) × ℕ). put_number d (said n)) done all) none
    ∙ sym (fold-map put_number said no_members all)
    ∙ ap (fold put_number no_members) c.set_numbers.ensures in
    let text : view (String c.in_ok-id.id) ≡ string (string_bytes c.in_ok-id.id) = search (rules, the_lemmas) in
    let id = text ∙ ap string c.in_ok-id.ensures in
    let outlook_view : view (String c.in_ok-outlook.outlook) ≡ string (string_bytes c.in_ok-outlook.outlook) = search (rules, the_lemmas) in
    let outlook = outlook_view ∙ ap string c.in_ok-outlook.ensures in
    let slots = view-Array c.in_ok-slots.slots ∙ ap (λ those. array (items_of those)) c.in_ok-slots.ensures in
    view-Object c.put-3.new.map ∙ ap object
    (put_on (codes "slots") (Array c.in_ok-slots.slots) _ c.put-2.new.map.entries c.put-3.new.map.entries _ c.in_ok-put-3.ensures.ok slots
    (put_on (codes "outlook") (String c.in_ok-outlook.outlook) _ c.put.new.map.entries c.put-2.new.map.entries _ c.in_ok-put-2.ensures.ok outlook
    (put_on (codes "id") (String c.in_ok-id.id) _ c.put_format.new.object.entries c.put.new.map.entries _ c.in_ok-put.ensures.ok id
    (c.in_ok-put_format.ensures ∙ ap (format_put status.format status.extent_blocks) numbers))) ∙ in_order status.format status c.args.examined.now)
