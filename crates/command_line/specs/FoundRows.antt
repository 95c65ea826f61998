-- What clap finds in words that it takes.
use Rattle.std.specs.Prelude.{◌≡◌, ◌≢◌, ◌⊎◌, ℕ, Bool, pos, List, Option, Some, None, IsSome, IsSomeAnd, codes}
use Rattle.clap.specs.Words.{Row, Text, first_of, one_of}
use Rattle.clap.specs.Lexer.{without_minus}
use Rattle.clap.specs.Values.{IsSignedIn, IsUnsignedIn, bool_text}

-- FOLDER has a value
abbrev pub HasFolder : List Row → Type 0
HasFolder rows = IsSome (first_of (codes "folder") rows)

-- FOLDER and `--id` have values
pub record HasSet (rows : List Row) : Type 0 where
  pub folder : IsSome (first_of (codes "folder") rows)
  pub id : IsSome (first_of (codes "id") rows)

-- the option of this name has a value, which is a number from 0 to `most`
abbrev pub HasNumberTo : List Row → Text → ℕ → Type 0
HasNumberTo rows name most = (text : Text) × (first_of name rows ≡ Some text) × (one_of name rows ≡ Some (without_minus text))
    × IsSignedIn (pos 0) (pos most) text

-- the option of this name has a value, which is a number from 0 to `most`, or it is left out
abbrev pub HasNumberToOrNone : List Row → Text → ℕ → Type 0
HasNumberToOrNone rows name most = ((first_of name rows ≡ None) × (one_of name rows ≡ None)) ⊎ HasNumberTo rows name most

-- the argument of this name has a value
abbrev pub HasWord : List Row → Text → Type 0
HasWord rows name = IsSome (first_of name rows)

-- the flag of this name has a value
abbrev pub HasFlagValue : List Row → Text → Type 0
HasFlagValue rows name = (is_given : Bool) × (first_of name rows ≡ Some (bool_text is_given)) × (one_of name rows ≡ Some (bool_text is_given))

-- the option of this name has a value, which is a number of 64 bits from 1, or it is left out
abbrev pub HasCountOrNone : List Row → Text → Type 0
HasCountOrNone rows name = ((first_of name rows ≡ None) × (one_of name rows ≡ None))
    ⊎ ((text : Text) × (first_of name rows ≡ Some text) × (one_of name rows ≡ Some text) × IsUnsignedIn 1 18446744073709551615 text)

-- the flags `--json` and `--check` have a value each
abbrev pub HasFlags : List Row → Type 0
HasFlags rows = HasFlagValue rows (codes "json") × HasFlagValue rows (codes "check")

-- the options of `make` beside the id: the members are given
pub record HasMakeValues (rows : List Row) : Type 0 where
  pub members : HasNumberTo rows (codes "members") 255
  pub chunk : HasNumberToOrNone rows (codes "chunk") 65535
  pub stripes : HasNumberToOrNone rows (codes "stripes") 4294967295
  pub over : HasFlagValue rows (codes "over")
  pub reserve : HasFlagValue rows (codes "reserve")

-- the rows of a subcommand of this name have all its values beside FOLDER and the id
pub data HasValues (name : Text) (rows : List Row) : Type 0 where
  of_run : name ≡ codes "run" → HasValues name rows
  of_serve : name ≡ codes "serve" → HasValues name rows
  of_make : name ≡ codes "make" → HasMakeValues rows → HasValues name rows
  of_status : name ≡ codes "status" → HasFlags rows → HasValues name rows
  of_fail : name ≡ codes "fail" → HasNumberTo rows (codes "slot") 255 → HasValues name rows
  of_replace : name ≡ codes "replace" → HasNumberTo rows (codes "slot") 255 → HasValues name rows
  of_rebuild : name ≡ codes "rebuild" → HasCountOrNone rows (codes "steps") → HasValues name rows
  of_scrub : name ≡ codes "scrub" → HasValues name rows
  of_upgrade : name ≡ codes "upgrade" → HasValues name rows
  of_examine : name ≡ codes "examine" → HasFlags rows → HasValues name rows
  of_create : name ≡ codes "create" → HasWord rows (codes "name") → HasWord rows (codes "size") → HasValues name rows
  of_extend : name ≡ codes "extend" → HasWord rows (codes "name") → HasWord rows (codes "size") → HasValues name rows
  of_remove : name ≡ codes "remove" → HasWord rows (codes "name") → HasValues name rows
  of_rename : name ≡ codes "rename" → HasWord rows (codes "name") → HasWord rows (codes "new") → HasValues name rows
  of_list : name ≡ codes "list" → HasValues name rows

-- the rows of a subcommand of this name have all its values
pub record IsComplete (name : Text) (rows : List Row) : Type 0 where
  pub folder : HasFolder rows
  pub set : name ≢ codes "examine" → HasSet rows
  pub others : HasValues name rows

-- a subcommand was entered, and its rows have all its values
abbrev pub HasEntered : Option (Text × List Row) → Type 0
HasEntered entered = IsSomeAnd entered (λ e. IsComplete e.0 e.1)
