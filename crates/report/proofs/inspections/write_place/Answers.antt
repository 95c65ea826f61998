use Rattle.std.proofs.Common.{◌≡◌, ◌++◌, ◌∷◌, [], List, ℕ, OnOk, string_bytes, codes, decimal, ap, ◌∙◌, rules}
use Rattle.std.specs.Fmt.{styled_decimal, styled_text}
use Rattle.std.proofs.lemmas.List.{append_assoc}
use Rattle.std.proofs.lemmas.Result.{on_ok_weaker}
use Rattle.report.specs.Report.{at_left, at_right, role_word}
use Rattle.report.specs.Inspections.{place_text}
use Rattle.report.proofs.Padding.{number_padded, padded_in, role_padded}
use Rattle.report.proofs.inspections.write_place.Goals as goal

abbrev written : List ℕ → List ℕ → List ℕ
written number role = number ++ 32 ∷ (role ++ 32 ∷ [])

spelled : (number role : List ℕ) → written number role ≡ number ++ codes " " ++ role ++ codes " "
spelled number role = search (rules, append_assoc)

pub returns : goal.returns
returns c =
    let slot = c.args.slot in
    let number_text = styled_decimal c.laid_out.result slot in
    let role_text = styled_text c.laid_out-2.result c.role_word-role.result.now in
    let told : OnOk c.write.result (string_bytes c.write.new.self ≡ string_bytes c.args.text.now ++ written number_text role_text) = c.write.ensures.bytes in
    let number : number_text ≡ at_right 2 (decimal slot) = ap (λ s. styled_decimal s slot) c.laid_out.ensures ∙ number_padded slot c.requires in
    let role : role_text ≡ at_left 8 (role_word c.args.members slot) =
    ap (λ s. styled_text s c.role_word-role.result.now) c.laid_out-2.ensures ∙ ap (λ (text : List ℕ). padded_in 8 text) c.role_word-role.ensures
    ∙ role_padded c.args.members slot in
    let line : written number_text role_text ≡ place_text c.args.members slot =
    ap (λ (text : List ℕ). written text role_text) number
    ∙ ap (λ (text : List ℕ). written (at_right 2 (decimal slot)) text) role
    ∙ spelled _ _ in
    on_ok_weaker c.write.result (λ same. same ∙ ap (λ (text : List ℕ). string_bytes c.args.text.now ++ text) line) told
