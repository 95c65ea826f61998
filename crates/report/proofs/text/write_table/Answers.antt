use Rattle.std.proofs.Common.{◌≡◌, ◌++◌, List, ℕ, OnOk, string_bytes, codes, decimal, ap, ◌∙◌}
use Rattle.std.proofs.lemmas.List.{append_assoc}
use Rattle.std.proofs.lemmas.Result.{on_ok_weaker}
use Rattle.report.proofs.text.write_table.Goals as goal

-- three numbers, each after its word
line_of : (a g b p c l f : List ℕ) → a ++ (g ++ (b ++ (p ++ (c ++ (l ++ f))))) ≡ a ++ g ++ b ++ p ++ c ++ l ++ f
line_of a g b p c l f = simp append_assoc

pub returns : goal.returns
returns c =
    let its = c.args.status.now in
    let told : OnOk c.writeln.result (string_bytes c.writeln.new.self ≡ string_bytes c.args.text.now
    ++ (codes "generation " ++ (decimal its.generation
    ++ (codes " position " ++ (decimal its.position ++ (codes " left " ++ (decimal c.left_of-left.result ++ codes "\n")))))))
    = c.writeln.ensures.bytes in
    on_ok_weaker c.writeln.result (λ same. same ∙ ap (λ (text : List ℕ). string_bytes c.args.text.now ++ text)
    (line_of (codes "generation ") (decimal its.generation) (codes " position ") (decimal its.position) (codes " left ") (decimal c.left_of-left.result)
    (codes "\n")
    ∙ ap (λ (n : ℕ). codes "generation " ++ decimal its.generation ++ codes " position " ++ decimal its.position ++ codes " left " ++ decimal n ++ codes "\n")
    c.left_of-left.ensures)) told
