use Rattle.std.proofs.Common.{◌≡◌, ◌++◌, List, ℕ, OnOk, string_bytes, codes, decimal, ap, ◌∙◌}
use Rattle.std.proofs.lemmas.List.{append_assoc}
use Rattle.std.proofs.lemmas.Result.{on_ok_weaker}
use Rattle.report.specs.Report.{format_text}
use Rattle.report.proofs.text.write_shape.Goals as goal

-- four numbers, each after its word, and what is said of the format
line_of : (a m b c d s e r f g : List ℕ)
    → a ++ (m ++ (b ++ (c ++ (d ++ (s ++ (e ++ (r ++ (f ++ g)))))))) ≡ a ++ m ++ b ++ c ++ d ++ s ++ e ++ r ++ f ++ g
line_of a m b c d s e r f g = simp append_assoc

pub returns : goal.returns
returns c =
    let its = c.args.status.now in
    let told : OnOk c.writeln.result (string_bytes c.writeln.new.self ≡ string_bytes c.args.text.now
    ++ (codes "members " ++ (decimal its.members ++ (codes " chunk "
    ++ (decimal its.chunk ++ (codes " stripes " ++ (decimal its.stripes ++ (codes " rows " ++ (decimal its.rows
    ++ (c.format_word-format.result.now ++ codes "\n"))))))))))
    = c.writeln.ensures.bytes in
    on_ok_weaker c.writeln.result (λ same. same ∙ ap (λ (text : List ℕ). string_bytes c.args.text.now ++ text)
    (line_of (codes "members ") (decimal its.members) (codes " chunk ") (decimal its.chunk) (codes " stripes ") (decimal its.stripes) (codes " rows ")
    (decimal its.rows) c.format_word-format.result.now (codes "\n")
    ∙ ap (λ (word : List ℕ). codes "members " ++ decimal its.members ++ codes " chunk " ++ decimal its.chunk ++ codes " stripes " ++ decimal its.stripes
    ++ codes " rows " ++ decimal its.rows ++ word ++ codes "\n") c.format_word-format.ensures)) told
