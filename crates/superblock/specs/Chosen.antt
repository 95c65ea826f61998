-- Which of several superblocks decides.
use Rattle.std.specs.Prelude.{◌≡◌, ℕ, ◌<◌, ◌≤◌, List, Option, Some, None, slice_index_or}
use Rattle.superblock.specs.declared.table.Superblock.{Superblock}

-- the superblock that was found at a place of a list, if there is one
abbrev pub found_at : List (Option Superblock) → ℕ → Option Superblock
found_at found place = slice_index_or found place None

-- one with the greatest generation of all, and of several such the first
pub record IsFirstGreatest (found : List (Option Superblock)) (best : Superblock) : Type 0 where
  pub place : ℕ
  pub there : found_at found place ≡ Some best
  pub greatest : (other : ℕ) (superblock : Superblock) → found_at found other ≡ Some superblock
      → superblock.table.generation ≤ best.table.generation
  pub first : (other : ℕ) (superblock : Superblock) → other < place → found_at found other ≡ Some superblock
      → superblock.table.generation < best.table.generation
