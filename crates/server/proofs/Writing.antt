-- Texts of a line and what follows it.
use Rattle.std.proofs.Common.{◌≡◌, ℕ, suc, List, [], ◌∷◌, ◌++◌, length, Option, Result, Err, refl, sym, ap, subst, append_assoc}
use Rattle.std.specs.Prelude.{decimal}
use Rattle.std.specs.List.{flat_map}
use Rattle.std.specs.Io.KnownBytes.{Appends}
use Rattle.std.proofs.KnownBytes.{Appends-trans}
use Rattle.std.proofs.lemmas.Result.{on_err_weaker, on_ok_weaker}
use Rattle.sector_model.specs.declared.refusal.Refusal.{Refusal}
use Rattle.sector_model.specs.declared.refusal.Refusal.TheVariants.{WriteFault}
use Rattle.report.specs.Replies.{volume_line}
use Rattle.volume_table.specs.declared.listed.Listed.{Listed}
use Rattle.volume_table.specs.Listing.{told}
use Rattle.report.specs.Written.{AppendsPart, WritesText}
use Rattle.report.proofs.WriteLemmas.{AppendsPart-after, AppendsPart-front}

-- a list tells as many volumes as there are
as_many : (volumes : List Listed) → length (told volumes) ≡ length volumes
as_many [] = refl
as_many (volume ∷ volumes) = ap (λ (n : ℕ). suc n) (as_many volumes)

-- the first piece was written, and then the second or a part of it
writes_after : (old mid new : Option (List ℕ)) (first second : List ℕ) (result : Result (Unit {0}) Refusal) → Appends old mid first
    → WritesText mid new second result → WritesText old new (first ++ second) result
writes_after old mid new first second result done then = record {
  ok = on_ok_weaker result (λ written. Appends-trans old mid new first second done written) then.ok;
  part = on_err_weaker result (λ part. AppendsPart-after old mid new first second done part) then.part;
  kind = then.kind;
}

-- a part of the first piece was
writes_front : (old new : Option (List ℕ)) (first second : List ℕ) (refusal : Refusal) → WritesText old new first (Err refusal)
    → WritesText old new (first ++ second) (Err refusal)
writes_front old new first second refusal it = record { ok = tt; part = AppendsPart-front old new first second it.part; kind = it.kind }

-- a line of a word and a number, and what follows it
line_first : (word digits rest : List ℕ) → (word ++ digits ++ 10 ∷ []) ++ rest ≡ word ++ digits ++ 10 ∷ rest
line_first word digits rest = append_assoc (word ++ digits) (10 ∷ []) rest

-- the line was written, and then the rest or a part of it
pub line_then : (old mid new : Option (List ℕ)) (word digits rest : List ℕ) (result : Result (Unit {0}) Refusal) → Appends old mid (word ++ digits ++ 10 ∷ [])
    → WritesText mid new rest result → WritesText old new (word ++ digits ++ 10 ∷ rest) result
line_then old mid new word digits rest result line then =
    subst (λ (text : List ℕ). WritesText old new text result) (line_first word digits rest)
    (writes_after old mid new (word ++ digits ++ 10 ∷ []) rest result line then)

-- a part of the line was
pub line_cut : (old new : Option (List ℕ)) (word digits rest : List ℕ) (refusal : Refusal) → WritesText old new (word ++ digits ++ 10 ∷ []) (Err refusal)
    → WritesText old new (word ++ digits ++ 10 ∷ rest) (Err refusal)
line_cut old new word digits rest refusal line =
    subst (λ (text : List ℕ). WritesText old new text (Err refusal)) (line_first word digits rest)
    (writes_front old new (word ++ digits ++ 10 ∷ []) rest refusal line)

-- ---- a list of volumes

-- the number of volumes, and their lines
pub volumes_then : (old mid new : Option (List ℕ)) (word : List ℕ) (volumes : List Listed) (result : Result (Unit {0}) Refusal)
    → Appends old mid (word ++ decimal (length volumes) ++ 10 ∷ []) → WritesText mid new (flat_map volume_line (told volumes)) result
    → WritesText old new (word ++ decimal (length (told volumes)) ++ 10 ∷ flat_map volume_line (told volumes)) result
volumes_then old mid new word volumes result line then =
    subst (λ (n : ℕ). WritesText old new (word ++ decimal n ++ 10 ∷ flat_map volume_line (told volumes)) result) (sym (as_many volumes))
    (line_then old mid new word (decimal (length volumes)) (flat_map volume_line (told volumes)) result line then)

pub volumes_cut : (old new : Option (List ℕ)) (word : List ℕ) (volumes : List Listed) (refusal : Refusal)
    → WritesText old new (word ++ decimal (length volumes) ++ 10 ∷ []) (Err refusal)
    → WritesText old new (word ++ decimal (length (told volumes)) ++ 10 ∷ flat_map volume_line (told volumes)) (Err refusal)
volumes_cut old new word volumes refusal line =
    subst (λ (n : ℕ). WritesText old new (word ++ decimal n ++ 10 ∷ flat_map volume_line (told volumes)) (Err refusal)) (sym (as_many volumes))
    (line_cut old new word (decimal (length volumes)) (flat_map volume_line (told volumes)) refusal line)
