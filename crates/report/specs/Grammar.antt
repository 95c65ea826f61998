-- The lines of a script: a relation between the bytes of a line and a command on volumes. A name is any bytes here; whether it is a good one is decided by the
-- command.
use Rattle.std.specs.Prelude.{◌≡◌, ◌≢◌, ◌⊎◌, ℕ, ◌+◌, ◌-◌, ◌*◌, ◌<◌, ◌^◌, List, [], ◌∷◌, ◌++◌, length, replicate, slice_index, fold, All, codes, Ok}
use Rattle.std.specs.Char.{IsAsciiDigit}
use Rattle.std.specs.List.{flat_map}
use Rattle.hex.specs.Hex.{decode_of}
use Rattle.volume_table.specs.Volumes.{Block}
use Rattle.volume_table.specs.VolumeStep.{Command, Create, Extend, Names, Read, Remove, Rename, Upgrade, Write}
use Rattle.report.specs.declared.lines.TheConstants.{LONGEST_LINE}

-- a field: one or more bytes, none of them a space
pub record IsField (field : List ℕ) : Type 0 where
  pub some : field ≢ []
  pub no_space : All (λ byte. byte ≢ 32) field

-- the number that decimal digits spell
abbrev pub value_of : List ℕ → ℕ
value_of digits = fold (λ value digit. value * 10 + (digit - 48)) 0 digits

-- decimal digits without a leading zero, at most 4,294,967,295
pub record IsNumber (field : List ℕ) (n : ℕ) : Type 0 where
  pub some : field ≢ []
  pub digits : All IsAsciiDigit field
  pub no_zero : (field ≡ 48 ∷ []) ⊎ (slice_index field 0 ≢ 48)
  pub value : value_of field ≡ n
  pub small : n < 2 ^ 32

-- two hexadecimal digits, and that the byte stands 512 times
pub record IsRepeated (field : List ℕ) (block : Block) : Type 0 where
  pub digits : List ℕ
  pub byte : ℕ
  pub spelled : field ≡ digits ++ codes "*512"
  pub decoded : decode_of digits ≡ Ok (byte ∷ [])
  pub filled : block ≡ replicate 512 byte

-- 1,024 hexadecimal digits, or the short form of a block whose bytes are all equal
abbrev pub IsBlock : List ℕ → Block → Type 0
IsBlock field block = (decode_of field ≡ Ok block × (length block ≡ 512)) ⊎ IsRepeated field block

-- each field is its block
abbrev pub AreBlocks : List (List ℕ) → List Block → Type 0
AreBlocks [] [] = Unit {0}
AreBlocks (field ∷ fields) (block ∷ blocks) = IsBlock field block × AreBlocks fields blocks
AreBlocks [] (block ∷ blocks) = ⊥
AreBlocks (field ∷ fields) [] = ⊥

-- each of these fields with a space before it
abbrev pub spaced : List (List ℕ) → List ℕ
spaced fields = flat_map (λ field. 32 ∷ field) fields

-- this word, and then a name and how many blocks
pub record IsSized (keyword line name : List ℕ) (count : ℕ) : Type 0 where
  pub count_field : List ℕ
  pub is_name : IsField name
  pub is_count : IsNumber count_field count
  pub spelled : line ≡ keyword ++ spaced (name ∷ count_field ∷ [])

pub record IsRemove (line name : List ℕ) : Type 0 where
  pub is_name : IsField name
  pub spelled : line ≡ codes "remove" ++ spaced (name ∷ [])

pub record IsRename (line old new : List ℕ) : Type 0 where
  pub is_old : IsField old
  pub is_new : IsField new
  pub spelled : line ≡ codes "rename" ++ spaced (old ∷ new ∷ [])

pub record IsRead (line name : List ℕ) (at count : ℕ) : Type 0 where
  pub at_field : List ℕ
  pub count_field : List ℕ
  pub is_name : IsField name
  pub is_at : IsNumber at_field at
  pub is_count : IsNumber count_field count
  pub spelled : line ≡ codes "read" ++ spaced (name ∷ at_field ∷ count_field ∷ [])

pub record IsWrite (line name : List ℕ) (at : ℕ) (blocks : List Block) : Type 0 where
  pub at_field : List ℕ
  pub block_fields : List (List ℕ)
  pub is_name : IsField name
  pub is_at : IsNumber at_field at
  pub are_blocks : AreBlocks block_fields blocks
  pub spelled : line ≡ codes "write" ++ spaced (name ∷ at_field ∷ block_fields)

-- the bytes of a line, without its end, are this command; no line asks for an upgrade
abbrev pub Says : List ℕ → Command → Type 0
Says line Names = line ≡ codes "list"
Says line (Create name count) = IsSized (codes "create") line name count
Says line (Extend name count) = IsSized (codes "extend") line name count
Says line (Remove name) = IsRemove line name
Says line (Read name at count) = IsRead line name at count
Says line (Write name at blocks) = IsWrite line name at blocks
Says line (Rename old new) = IsRename line old new
Says line Upgrade = ⊥

-- a line that is too long, or that is no command
abbrev pub IsBadLine : List ℕ → Type 0
IsBadLine line = (LONGEST_LINE < length line) ⊎ ((command : Command) → Says line command → ⊥)
