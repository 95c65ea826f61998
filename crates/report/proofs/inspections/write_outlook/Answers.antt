use Rattle.std.proofs.Common.{◌≡◌, ◌++◌, List, ℕ, OnOk, string_bytes, codes, decimal, ap, sym, ◌∙◌}
use Rattle.std.proofs.lemmas.List.{append_assoc}
use Rattle.std.proofs.lemmas.Result.{on_ok_weaker}
use Rattle.report.specs.Inspections.{outlook_text}
use Rattle.report.proofs.inspections.write_outlook.Goals as goal

-- two numbers, each after its words
line_of : (a s n r p : List ℕ) → a ++ (s ++ (n ++ (r ++ p))) ≡ a ++ (s ++ n ++ r ++ p)
line_of a s n r p = simp append_assoc

pub returns-in-Rebuilding : goal.returns-in-Rebuilding
returns-in-Rebuilding c =
    let told : OnOk c.write-in-Rebuilding.result (string_bytes c.write-in-Rebuilding.new.self ≡ string_bytes c.args.text.now
    ++ (codes "would assemble: slot " ++ (decimal c.in-Rebuilding.slot ++ (codes " rebuilding at " ++ decimal c.in-Rebuilding.position))))
    = c.write-in-Rebuilding.ensures.bytes in
    on_ok_weaker c.write-in-Rebuilding.result (λ same. same
    ∙ line_of (string_bytes c.args.text.now) (codes "would assemble: slot ") (decimal c.in-Rebuilding.slot) (codes " rebuilding at ")
    (decimal c.in-Rebuilding.position)
    ∙ ap (λ o. string_bytes c.args.text.now ++ outlook_text o) (sym c.in-Rebuilding.is)) told
