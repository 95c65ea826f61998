-- Sectors of a file that were read, and the superblocks that they spell.
use Rattle.std.proofs.Common.{◌≡◌, ◌∙◌, ◌⊎◌, ◌+◌, ◌*◌, ◌<◌, ◌≤◌, ℕ, List, arith, drop, inl, inr, length, sym, take}
use Rattle.std.proofs.lemmas.List.{ext_get_or, get_or-drop, get_or-take, length-drop, length-take-le}
use Rattle.sector_model.specs.DeviceFiles.{AreAt}
use Rattle.superblock.specs.declared.table.Superblock.{Superblock}
use Rattle.superblock.specs.Spelling.{superblock_sector}
use Rattle.device_files.specs.BankFiles.{contents_of}
use Rattle.device_files.specs.Superblocks.{HasSector, HasSuperblock}

-- a sector that was read is the one that stands there
pub sector_read : (bytes left sector : List ℕ) (place n : ℕ) → length sector ≡ n → place + n ≤ length bytes → AreAt (contents_of bytes left).byte place n sector
    → sector ≡ take n (drop place bytes)
sector_read bytes left sector place n long within at =
    let rest : n ≤ length (drop place bytes) = omega (arith, within, length-drop place bytes) in
    let part : length (take n (drop place bytes)) ≡ n = length-take-le n (drop place bytes) rest in
    ext_get_or 0 sector (take n (drop place bytes)) (long ∙ sym part)
    (λ i under. let below : i < n = omega (arith, under, long) in
    at.each i below ∙ sym (get_or-take n (drop place bytes) i 0 below ∙ get_or-drop place bytes i 0))

-- a sector that spells none has none
pub none_spelled : (bytes : List ℕ) (number : ℕ) (sector : List ℕ) → HasSector bytes number sector
    → ((superblock : Superblock) → sector ≡ superblock_sector superblock → ⊥) → (id : List ℕ) → ¬ HasSuperblock bytes number id
none_spelled bytes number sector here none id has = none has.superblock (sym here.stands ∙ has.spelled.stands)

-- nor does one that the file does not reach
pub none_reached : (P T : Type 0) (bytes : List ℕ) (number : ℕ) → P ⊎ (T → length bytes < 512 * number + 512)
    → P ⊎ (T → (id : List ℕ) → ¬ HasSuperblock bytes number id)
none_reached P T bytes number (inl failed) = inl failed
none_reached P T bytes number (inr short) = inr (λ tells id has. absurd (omega (arith, short tells, has.spelled.within)))
