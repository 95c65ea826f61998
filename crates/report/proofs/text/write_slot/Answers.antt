use Rattle.std.proofs.Common.{◌≡◌, ◌<◌, ◌≤◌, ◌++◌, List, ℕ, OnOk, string_bytes, decimal, ap, ◌∙◌, arith}
use Rattle.std.specs.Fmt.{styled_decimal, styled_text}
use Rattle.std.proofs.lemmas.Result.{on_ok_weaker}
use Rattle.superblock.specs.Tables.{state_at, incarnation_at}
use Rattle.report.specs.Report.{at_left, at_right, role_word, state_word, slot_line}
use Rattle.report.proofs.Padding.{written, spelled, padded_in, number_padded, role_padded, state_padded}
use Rattle.report.proofs.text.write_slot.Goals as goal

pub returns : goal.returns
returns c =
    let status = c.args.status.now in
    let slot = c.args.slot in
    let number_text = styled_decimal c.laid_out.result slot in
    let role_text = styled_text c.laid_out-2.result c.role_word-role.result.now in
    let state_text = styled_text c.laid_out-3.result c.state_word-state.result.now in
    let incarnation_text = decimal (incarnation_at status.incarnations slot) in
    let told : OnOk c.writeln.result (string_bytes c.writeln.new.self ≡ string_bytes c.args.text.now
    ++ written number_text role_text state_text incarnation_text)
    = c.writeln.ensures.bytes in
    let few : status.members ≤ 8 = status.few in
    let within : slot < 10 = omega arith in
    let number : number_text ≡ at_right 2 (decimal slot) = ap (λ s. styled_decimal s slot) c.laid_out.ensures ∙ number_padded slot within in
    let role : role_text ≡ at_left 8 (role_word status.members slot) =
    ap (λ s. styled_text s c.role_word-role.result.now) c.laid_out-2.ensures ∙ ap (λ (text : List ℕ). padded_in 8 text) c.role_word-role.ensures
    ∙ role_padded status.members slot in
    let state : state_text ≡ at_left 10 (state_word (state_at status.states slot)) =
    ap (λ s. styled_text s c.state_word-state.result.now) c.laid_out-3.ensures ∙ ap (λ (text : List ℕ). padded_in 10 text) c.state_word-state.ensures
    ∙ state_padded (state_at status.states slot) in
    let line : written number_text role_text state_text incarnation_text ≡ slot_line status slot =
    ap (λ (text : List ℕ). written text role_text state_text incarnation_text) number
    ∙ ap (λ (text : List ℕ). written (at_right 2 (decimal slot)) text state_text incarnation_text) role
    ∙ ap (λ (text : List ℕ). written (at_right 2 (decimal slot)) (at_left 8 (role_word status.members slot)) text incarnation_text) state
    ∙ spelled _ _ _ _ in
    on_ok_weaker c.writeln.result (λ same. same ∙ ap (λ (text : List ℕ). string_bytes c.args.text.now ++ text) line) told
