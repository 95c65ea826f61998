-- The fields of a line, split at each space, and what they spell.
use Rattle.std.specs.Prelude.{◌≡◌, ◌≢◌, ℕ, List, [], ◌∷◌, ◌==◌, Option, Some, None}
use Rattle.std.specs.List.{slice_split}
use Rattle.std.specs.Borrow.{Bor}
use Rattle.volume_table.specs.Volumes.{Block}
use Rattle.report.specs.Grammar.{AreBlocks, IsNumber}
use Rattle.report.specs.declared.parse.fields.Fields.{Fields}

-- the parts between the spaces of a line, at least one; a part is empty where two spaces meet
abbrev pub fields_of : List ℕ → List (List ℕ)
fields_of line = slice_split (λ byte. byte == 32) line

-- the fields of what is left of a line, if anything is
abbrev pub fields_of_rest : Option (Bor (List ℕ)) → List (List ℕ)
fields_of_rest None = []
fields_of_rest (Some rest) = fields_of rest.now

-- the fields that are still to be read
abbrev pub fields_left : Fields → List (List ℕ)
fields_left fields = fields_of_rest fields.rest

-- these fields begin with the name of a volume
pub record BeginsWithName (fields : List (List ℕ)) (name : List ℕ) (after : List (List ℕ)) : Type 0 where
  pub spelled : fields ≡ name ∷ after
  pub is_name : name ≢ []

-- these fields begin with the name of a volume and a number
pub record BeginsWithNumber (fields : List (List ℕ)) (name : List ℕ) (n : ℕ) (after : List (List ℕ)) : Type 0 where
  pub number_field : List ℕ
  pub spelled : fields ≡ name ∷ number_field ∷ after
  pub is_name : name ≢ []
  pub is_number : IsNumber number_field n

-- these fields are a number alone
pub record IsOneNumber (fields : List (List ℕ)) (n : ℕ) : Type 0 where
  pub number_field : List ℕ
  pub spelled : fields ≡ number_field ∷ []
  pub is_number : IsNumber number_field n

-- these fields begin with the names of two volumes
pub record BeginsWithNames (fields : List (List ℕ)) (first second : List ℕ) (after : List (List ℕ)) : Type 0 where
  pub place : BeginsWithName fields first (second ∷ after)
  pub is_name : second ≢ []

-- these fields are not the name of a volume and a number alone
abbrev pub AreUnsized : List (List ℕ) → Type 0
AreUnsized fields = (name : List ℕ) → (count : ℕ) → BeginsWithNumber fields name count [] → ⊥

-- what follows the word `read`
pub record AreReadFields (fields : List (List ℕ)) (name : List ℕ) (at count : ℕ) : Type 0 where
  pub count_field : List ℕ
  pub place : BeginsWithNumber fields name at (count_field ∷ [])
  pub is_count : IsNumber count_field count

-- what follows the word `write`
pub record AreWriteFields (fields : List (List ℕ)) (name : List ℕ) (at : ℕ) (blocks : List Block) : Type 0 where
  pub block_fields : List (List ℕ)
  pub place : BeginsWithNumber fields name at block_fields
  pub are_blocks : AreBlocks block_fields blocks
