-- Parts of a write of blocks.
use Rattle.std.proofs.Common.{◌≡◌, ℕ, ◌+◌, ◌-◌, ◌<◌, ◌≤◌, List, [], ◌∷◌, ◌++◌, drop, length, take, refl, sym, ◌∙◌, ap, subst, arith, Option}
use Rattle.std.specs.Prelude.{min}
use Rattle.std.proofs.Props.{props}
use Rattle.std.proofs.lemmas.List.{drop-take, length-drop, length-take, take-append-drop, take-take}
use Rattle.std.proofs.Math.Logic.{∥∥₁_elim}
use Rattle.extents.specs.declared.record.Record.{Record}
use Rattle.volume_table.specs.Admission.{HasBlocksAt, IsWithinVolume}
use Rattle.volume_table.specs.VolumeStep.{Command, Write}
use Rattle.volume_table.specs.Volumes.{Block}
use Rattle.volume_table.specs.declared.event.TheConstants.{MOST_BLOCKS_AT_ONCE}
use Rattle.server.specs.Serving.{AreParts, no_part, then_part}

pub no_parts_yet : (name : List ℕ) (at : ℕ) → AreParts name at (at + 0) [] []
no_parts_yet name at = subst (λ (end : ℕ). AreParts name at end [] []) (omega (arith)) (no_part {at = at})

-- a part of blocks that the volume has
pub part_within : (records : List (Option Record)) (name : List ℕ) (number at count staged part : ℕ) → ∥ HasBlocksAt records name number at count ∥₁
    → staged + part ≤ count → 1 ≤ part → part ≤ MOST_BLOCKS_AT_ONCE → ∥ IsWithinVolume records name number (at + staged) part ∥₁
part_within records name number at count staged part has fits least most = ∥∥₁_elim has (hlevel props) (λ it. ∣ record {
  of_table = it.of_table;
  entry = it.entry;
  used = it.used;
  named = it.named;
  fits = omega (arith, it.fits, fits);
  least = least;
  most = most;
} ∣₁)

-- one part more
pub part_more : (name : List ℕ) (at staged : ℕ) (blocks part all : List Block) (parts : List Command) → AreParts name at (at + staged) blocks parts
    → 1 ≤ length part → length part ≤ MOST_BLOCKS_AT_ONCE → all ≡ blocks ++ part
    → AreParts name at (at + (staged + length part)) all (parts ++ Write name (at + staged) part ∷ [])
part_more name at staged blocks part all parts are least most joined =
    subst (λ (end : ℕ). AreParts name at end all (parts ++ Write name (at + staged) part ∷ [])) (omega (arith))
    (subst (λ (l : List Block). AreParts name at (at + staged + length part) l (parts ++ Write name (at + staged) part ∷ [])) (sym joined)
    (then_part are part least most))

-- ---- a part of a list: what follows its first `staged` blocks, up to `end`

abbrev pub part_of : (blocks : List Block) (staged end : ℕ) → List Block
part_of blocks staged end = take (end - staged) (drop staged blocks)

pub part_length : (blocks : List Block) (staged end : ℕ) → staged < length blocks → end ≡ min (staged + 32) (length blocks)
    → length (part_of blocks staged end) ≡ end - staged
part_length blocks staged end below is = omega (arith, length-take (end - staged) (drop staged blocks), length-drop staged blocks, is, below)

pub part_joined : (blocks : List Block) (staged end : ℕ) → staged < length blocks → end ≡ min (staged + 32) (length blocks)
    → take (staged + length (part_of blocks staged end)) blocks ≡ take staged blocks ++ part_of blocks staged end
part_joined blocks staged end below is =
    let count : ℕ = length (part_of blocks staged end) in
    let front : List Block = take (staged + count) blocks in
    sym (take-append-drop staged front)
    ∙ ap (λ (l : List Block). l ++ drop staged front) (take-take staged (staged + count) blocks (omega (arith)))
    ∙ ap (λ (l : List Block). take staged blocks ++ l) (drop-take staged count blocks)
    ∙ ap (λ (n : ℕ). take staged blocks ++ take n (drop staged blocks)) (part_length blocks staged end below is)

-- the part is of the volume, by another table that is the same
pub part_is_within : (records others : List (Option Record)) (name : List ℕ) (number at : ℕ) (blocks : List Block) (staged end : ℕ) → others ≡ records
    → ∥ HasBlocksAt records name number at (length blocks) ∥₁ → staged < length blocks → end ≡ min (staged + 32) (length blocks)
    → ∥ IsWithinVolume others name number (at + staged) (length (part_of blocks staged end)) ∥₁
part_is_within records others name number at blocks staged end same has below is =
    subst (λ (r : List (Option Record)). ∥ IsWithinVolume r name number (at + staged) (length (part_of blocks staged end)) ∥₁) (sym same)
    (part_within records name number at (length blocks) staged (length (part_of blocks staged end)) has
    (omega (arith, part_length blocks staged end below is, is, below))
    (omega (arith, part_length blocks staged end below is, is, below))
    (omega (arith, part_length blocks staged end below is, is, below)))
