-- The names of volumes, as lists of bytes.
use Rattle.std.specs.Prelude.{ℕ, Bool, false, ◌&&◌, nat_lt, List, [], ◌∷◌, length}
use Rattle.std.specs.List.{list_all}
use Rattle.std.specs.declared.cmp.Ordering.{Ordering}
use Rattle.std.specs.Ordering.{nat_cmp, is_eq}
use Rattle.std.specs.Cmp.Lexicographic.{slice_cmp}
use Rattle.extents.specs.Names.{is_letter, is_name_byte}
use Rattle.extents.specs.Versions.{most_name_bytes}

-- rising byte order
abbrev pub name_order : List ℕ → List ℕ → Ordering
name_order first second = slice_cmp nat_cmp first second

-- the bytes of both names are equal
abbrev pub is_same_name : List ℕ → List ℕ → Bool
is_same_name first second = is_eq (name_order first second)

-- bytes that may stand in a name, the first of them a letter: 1 to 24 in version 1 of the table, and 1 to 63 in version 2
abbrev pub is_good_name : (version : ℕ) → List ℕ → Bool
is_good_name version [] = false
is_good_name version (first ∷ rest) = is_letter first && list_all is_name_byte rest && nat_lt (length rest) (most_name_bytes version)
