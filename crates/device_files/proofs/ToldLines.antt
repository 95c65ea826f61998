-- A line that is written whole, or in part.
use Rattle.std.proofs.Common.{◌≢◌, ◌∙◌, inl, inr, ap, refl, sym, List, ℕ, ◌∷◌, ◌++◌, [], Option, append_assoc}
use Rattle.std.specs.Prelude.{Err, Ok, OnErr, OnOk, Result}
use Rattle.std.specs.Io.KnownBytes.{Appends}
use Rattle.std.proofs.KnownBytes.{Appends-trans}
use Rattle.sector_model.specs.declared.refusal.Refusal.{Refusal}
use Rattle.report.specs.Written.{AppendsPart, WritesText}
use Rattle.device_files.specs.Faults.{IsToldLine}

-- what was written well is the line, and what was not is a beginning of it
pub told_line : {T E : Type 0} (done : Result T E) (line : List ℕ) (old new : Option (List ℕ)) → OnOk done (Appends old new line)
    → OnErr done (AppendsPart old new line)
    → IsToldLine line old new
told_line (Ok value) line old new whole part = inl whole
told_line (Err fault) line old new whole part = inr part

some_more : (rest more : List ℕ) → rest ≢ [] → rest ++ more ≢ []
some_more [] more some = λ none. some refl
some_more (x ∷ rest) more some = λ none. cc

-- a part of a text is one of a longer text
pub part_of_more : (old new : Option (List ℕ)) (text more : List ℕ) → AppendsPart old new text → AppendsPart old new (text ++ more)
part_of_more old new text more is = record {
  part = is.part;
  is_part = record {
    rest = is.is_part.rest ++ more;
    joined = sym (append_assoc is.part is.is_part.rest more) ∙ ap (λ l. l ++ more) is.is_part.joined;
    some = some_more is.is_part.rest more is.is_part.some;
  };
  written = is.written;
}

-- what stands in front was written before
pub part_after : (old mid new : Option (List ℕ)) (front text : List ℕ) → Appends old mid front → AppendsPart mid new text → AppendsPart old new (front ++ text)
part_after old mid new front text before is = record {
  part = front ++ is.part;
  is_part = record {
    rest = is.is_part.rest;
    joined = append_assoc front is.part is.is_part.rest ∙ ap (λ l. front ++ l) is.is_part.joined;
    some = is.is_part.some;
  };
  written = Appends-trans old mid new front is.part before is.written;
}

-- what is written after a text is written of both
pub writes_after : (done : Result (Unit {0}) Refusal) (old mid new : Option (List ℕ)) (front text : List ℕ) → Appends old mid front
    → WritesText mid new text done
    → WritesText old new (front ++ text) done
writes_after (Ok value) old mid new front text before wrote = record { ok = Appends-trans old mid new front text before wrote.ok; part = tt; kind = tt }
writes_after (Err refusal) old mid new front text before wrote =
    record { ok = tt; part = part_after old mid new front text before wrote.part; kind = wrote.kind }
