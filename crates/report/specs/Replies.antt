-- The texts of replies.
use Rattle.std.specs.Prelude.{ℕ, Bool, ◌==◌, if◌then◌else◌, List, [], ◌∷◌, ◌++◌, take, slice_index, codes, decimal, Option, None, Some}
use Rattle.std.specs.List.{flat_map, list_all}
use Rattle.hex.specs.Hex.{encode_lower}
use Rattle.sector_model.specs.declared.refusal.Refusal.{Refusal}
use Rattle.sector_model.specs.Refusals.{number_of, name_of}
use Rattle.layout_map.specs.declared.format.Format.{Format}
use Rattle.rebuild.specs.Rebuilding.{Complete, Position, Progress, steps_left}
use Rattle.scrub.specs.Scrubbing.{Report}
use Rattle.volume_table.specs.VolumeStep.{Blocks, Done, Progressed, Refused, Reply, Scrubbed, Volumes}

-- all bytes are equal to the first
abbrev pub is_uniform : List ℕ → Bool
is_uniform block = list_all (λ byte. byte == slice_index block 0) block

abbrev pub block_digits : List ℕ → List ℕ
block_digits block = if is_uniform block then encode_lower (take 1 block) ++ codes "*512" else encode_lower block

abbrev pub block_line : List ℕ → List ℕ
block_line block = block_digits block ++ 10 ∷ []

abbrev pub volume_line : List ℕ × ℕ → List ℕ
volume_line volume = volume.0 ++ 32 ∷ decimal volume.1 ++ 10 ∷ []

abbrev pub refusal_line : Refusal → List ℕ
refusal_line refusal = codes "refused " ++ decimal (number_of refusal) ++ 32 ∷ name_of refusal ++ 10 ∷ []

-- what the making of a set answers
abbrev pub made_line : List ℕ
made_line = codes "made" ++ 10 ∷ []

-- a line that names the file of a slot: words before the name, and what stands after it
abbrev pub slot_line : (before : List ℕ) (slot : ℕ) (after : List ℕ) → List ℕ
slot_line before slot after = before ++ codes "dev" ++ decimal slot ++ codes ".img" ++ after ++ 10 ∷ []

-- how many steps are left
abbrev pub left_text : ℕ → List ℕ
left_text steps = codes ", " ++ decimal steps ++ codes " left"

-- how far the rebuild of a member of so many rows is
abbrev pub progress_line : Format → (rows : ℕ) → Progress → List ℕ
progress_line format rows (Position position) =
    codes "position " ++ decimal position ++ codes " of " ++ decimal rows
    ++ left_text (steps_left format position rows) ++ 10 ∷ []
progress_line format rows Complete = codes "complete" ++ 10 ∷ []

-- which row is the first that is not sound, if one is not
abbrev pub first_bad_text : Option ℕ → List ℕ
first_bad_text None = []
first_bad_text (Some first) = codes ", first " ++ decimal first

-- what a scrub found
abbrev pub scrub_line : Report → List ℕ
scrub_line report = decimal report.rows ++ codes " rows, " ++ decimal report.bad ++ codes " bad" ++ first_bad_text report.first_bad ++ 10 ∷ []

-- the text of a reply: lines, each of which ends with a byte 10; no command on volumes is answered as a rebuild or a scrub is
abbrev pub reply_text : Reply → List ℕ
reply_text Done = codes "ok" ++ 10 ∷ []
reply_text (Blocks blocks) = flat_map block_line blocks
reply_text (Volumes volumes) = flat_map volume_line volumes
reply_text (Refused refusal) = refusal_line refusal
reply_text (Progressed progress) = []
reply_text (Scrubbed rows bad first_bad) = []
