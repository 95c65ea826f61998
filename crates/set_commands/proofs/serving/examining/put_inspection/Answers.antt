-- A newline stands after the JSON of an inspection.
use Rattle.std.proofs.Common.{◌∙◌, ap, ℕ, List, [], ◌∷◌, ◌++◌, string_bytes}
use Rattle.std.proofs.lemmas.List.{append_assoc}
use Rattle.set_commands.proofs.Inspected.{json_inspection}
use Rattle.set_commands.proofs.serving.examining.put_inspection.Goals as goal

pub returns-in_ok-push-clause-puts : goal.returns-in_ok-push-clause-puts
unfolding lib.Utf8.encode
returns-in_ok-push-clause-puts c =
    let line = c.deref.result.now in
    record {
      part = line ++ 10 ∷ [];
      appended = c.in_ok-push.ensures.bytes ∙ ap (λ (bytes : List ℕ). bytes ++ 10 ∷ []) c.in_ok-push_str.ensures.bytes
          ∙ append_assoc (string_bytes c.args.text.now) line (10 ∷ []);
      is = json_inspection c.args.examined.now c.args.json _ line c.if-json.true c.in_ok-examined_to_json.ensures.value
          (λ none. c.deref.ensures ∙ c.in_ok-line.ensures.text none);
    }
