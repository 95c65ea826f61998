-- Lines that the program writes itself.
use Rattle.std.specs.Prelude.{◌≡◌, ◌++◌, ◌∷◌, ℕ, Bool, true, false, List, [], codes, decimal}
use Rattle.std.specs.List.{flat_map}
use Rattle.hex.specs.Hex.{encode_lower}
use Rattle.report.specs.Replies.{made_line}
use Rattle.command_line.specs.declared.InvocationFault.{InvocationFault}
use Rattle.command_line.specs.declared.InvocationFault.TheVariants.{BadId, BadShape, BadSize, Usage}

-- what the making of a set is answered with: its id too, where it was drawn
abbrev pub made_text : (drawn : Bool) (id : List ℕ) → List ℕ
made_text false id = made_line
made_text true id = codes "made " ++ encode_lower id ++ 10 ∷ []

-- how many blocks of a set no volume can have
abbrev pub unused_line : ℕ → List ℕ
unused_line blocks = codes "unused " ++ (decimal blocks ++ (codes " blocks" ++ 10 ∷ []))

-- what standard error gets where a folder has several sets, of which none was named
abbrev pub several_line : List (List ℕ) → List ℕ
several_line ids = codes "several sets:" ++ flat_map (λ id. 32 ∷ encode_lower id) ids ++ 10 ∷ []

-- where no id could be drawn
abbrev pub undrawn_line : List ℕ
undrawn_line = codes "cannot draw an id" ++ 10 ∷ []

-- where the id is none
abbrev pub bad_id_line : List ℕ
bad_id_line = codes "bad id" ++ 10 ∷ []

-- where a size is none
abbrev pub bad_size_line : List ℕ
bad_size_line = codes "bad size" ++ 10 ∷ []

-- where the options of `make` don't go together
abbrev pub bad_shape_line : List ℕ
bad_shape_line = codes "make takes --size, or --chunk and --stripes" ++ 10 ∷ []

-- this is the line of words that are none of the program's; what clap says is not told here
abbrev pub IsFaultLine : InvocationFault → List ℕ → Type 0
IsFaultLine (Usage error) line = ⊥
IsFaultLine BadId line = line ≡ bad_id_line
IsFaultLine BadSize line = line ≡ bad_size_line
IsFaultLine BadShape line = line ≡ bad_shape_line
