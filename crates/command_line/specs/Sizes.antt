-- What the texts of sizes spell, in blocks of 512 bytes.
use Rattle.std.specs.Prelude.{◌≡◌, ◌≢◌, ◌⊎◌, ◌≤◌, ◌<◌, ◌*◌, ◌^◌, ◌==◌, ℕ, [], ◌∷◌, ◌++◌, Option, Some, None, codes, decimal, if◌then◌else◌}
use Rattle.clap.specs.Words.{Text}
use Rattle.command_line.specs.declared.Size.{Size}
use Rattle.command_line.specs.declared.Size.TheVariants.{Blocks, Most}

-- how many blocks the unit of this letter is: of `K` (75), `M` (77), `G` (71) and `T` (84), powers of 1,024 bytes; None where it is none
abbrev pub unit_blocks : ℕ → Option ℕ
unit_blocks letter =
    if letter == 75 then Some 2
    else if letter == 77 then Some 2048
    else if letter == 71 then Some 2097152
    else if letter == 84 then Some 2147483648
    else None

-- the text is a number and the letter of a unit, and so many blocks
pub record SpellsUnits (text : Text) (letter blocks : ℕ) : Type 0 where
  pub number : ℕ
  pub unit : ℕ
  pub spelled : text ≡ decimal number ++ letter ∷ []
  pub unit_is : unit_blocks letter ≡ Some unit
  pub blocks_are : blocks ≡ number * unit

-- how much room the volumes of a new set are to have: a number of 1 or more with `M`, `G` or `T`, below 2^64 blocks, or `max`
abbrev pub IsRoom : Text → Size → Type 0
IsRoom text Most = text ≡ codes "max"
IsRoom text (Blocks blocks) = (letter : ℕ) × SpellsUnits text letter blocks × (letter ≢ 75) × (1 ≤ blocks) × (blocks < 2 ^ 64)

-- the text is so many blocks: a number, or one with the letter of a unit
abbrev pub IsAmount : Text → ℕ → Type 0
IsAmount text blocks = (text ≡ decimal blocks) ⊎ ((letter : ℕ) × SpellsUnits text letter blocks)

-- how much a volume is to have, or to get: so many blocks, below 2^32
abbrev pub IsExtent : Text → ℕ → Type 0
IsExtent text blocks = IsAmount text blocks × (blocks < 2 ^ 32)
