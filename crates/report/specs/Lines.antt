-- Reading a script a line at a time.
use Rattle.std.specs.Prelude.{◌+◌, ◌≡◌, ◌≢◌, ◌⊎◌, ℕ, List, [], ◌∷◌, ◌++◌, take, All, Option, Some}
use Rattle.std.specs.Io.KnownBytes.{Consumes}
use Rattle.report.specs.Script.{lines_of}
use Rattle.report.specs.declared.lines.Met.{Met}
use Rattle.report.specs.declared.lines.Met.TheVariants.{Nothing, LineEnd, ScriptEnd}
use Rattle.report.specs.declared.lines.TheConstants.{LONGEST_LINE}

-- the first line of a script, without its end, and what follows that end
pub record IsNextLine (script line rest : List ℕ) : Type 0 where
  pub unbroken : All (λ byte. byte ≢ 10) line
  -- the line ends at a byte 10, or is what a script without one is
  pub ended : (script ≡ line ++ 10 ∷ rest) ⊎ ((script ≡ line) × (line ≢ []) × (rest ≡ []))
  pub lines : lines_of script ≡ line ∷ lines_of rest

-- a line was read whole, with the byte 10 that ends it, and these are its first 65,536 bytes
pub record ReadsWhole (old new : Option (List ℕ)) (kept : List ℕ) : Type 0 where
  pub line : List ℕ
  pub unbroken : All (λ byte. byte ≢ 10) line
  pub consumed : Consumes old new (line ++ 10 ∷ [])
  pub first : kept ≡ take (LONGEST_LINE + 1) line

-- all of a script was read, in which no line ends, and these are its first 65,536 bytes
pub record ReadsUnended (script : List ℕ) (remaining : Option (List ℕ)) (kept : List ℕ) : Type 0 where
  pub some : script ≢ []
  pub unbroken : All (λ byte. byte ≢ 10) script
  pub left : remaining ≡ Some []
  pub first : kept ≡ take (LONGEST_LINE + 1) script

-- the next line of a script was read, of which these bytes are the first 65,536
pub record GivesLine (script : List ℕ) (remaining : Option (List ℕ)) (kept : List ℕ) : Type 0 where
  pub line : List ℕ
  pub rest : List ℕ
  pub next : IsNextLine script line rest
  pub left : remaining ≡ Some rest
  pub first : kept ≡ take (LONGEST_LINE + 1) line

-- a script has no byte, so no line
pub record HasNoLine (script : List ℕ) (remaining : Option (List ℕ)) : Type 0 where
  pub none : script ≡ []
  pub left : remaining ≡ Some []

-- a part of a script was read in which no line ends
pub record StopsInLine (script : List ℕ) (remaining : Option (List ℕ)) : Type 0 where
  pub read : List ℕ
  pub rest : List ℕ
  pub split : script ≡ read ++ rest
  pub unbroken : All (λ byte. byte ≢ 10) read
  pub left : remaining ≡ Some rest

-- the bytes that end what was read
abbrev pub end_of : Met → List ℕ
end_of Nothing = []
end_of LineEnd = 10 ∷ []
end_of ScriptEnd = []

-- a part of a line was read, and then its end if it was met; the line so far has these first 65,536 bytes
pub record ReadsPart (old new : Option (List ℕ)) (met : Met) (line kept : List ℕ) : Type 0 where
  pub part : List ℕ
  pub unbroken : All (λ byte. byte ≢ 10) part
  pub consumed : Consumes old new (part ++ end_of met)
  pub first : kept ≡ take (LONGEST_LINE + 1) (line ++ part)
