-- Facts on the blocks that are kept of a write.
use Rattle.std.proofs.Common.{◌≡◌, ℕ, ◌+◌, ◌<◌, ◌≤◌, List, [], ◌∷◌, ◌++◌, length, set, refl, sym, ap, ◌∙◌, append_assoc, arith, length-append, length-set}
use Rattle.std.proofs.lemmas.List.{append-nil, take-append-le, take_all, take_more_set}
use Rattle.volume_table.specs.Volumes.{Block}
use Rattle.report.specs.Grammar.{AreBlocks, IsBlock}
use Rattle.report.specs.Kept.{AreKept}
use Rattle.report.specs.declared.parse.TheConstants.{KEPT_BLOCKS}

-- of all fields these are left, and those before them are blocks, which are kept
pub record KeptSoFar (all left : List (List ℕ)) (kept : ℕ) (buffer : List Block) : Type 0 where
  pub read : List (List ℕ)
  pub blocks : List Block
  pub parts : all ≡ read ++ left
  pub are_blocks : AreBlocks read blocks
  pub are_kept : AreKept blocks kept buffer
  pub room : length buffer ≡ KEPT_BLOCKS

AreBlocks-push : (fields : List (List ℕ)) (blocks : List Block) (field : List ℕ) (block : Block)
    → AreBlocks fields blocks → IsBlock field block → AreBlocks (fields ++ field ∷ []) (blocks ++ block ∷ [])
AreBlocks-push [] [] field block h is = (is, tt)
AreBlocks-push (first ∷ fields) (b ∷ blocks) field block h is = (h.0, AreBlocks-push fields blocks field block h.1 is)
AreBlocks-push [] (b ∷ blocks) field block h is = absurd h
AreBlocks-push (first ∷ fields) [] field block h is = absurd h

-- a field in the middle is a block
block_amid : (read : List (List ℕ)) (field : List ℕ) (left : List (List ℕ)) (blocks : List Block)
    → AreBlocks (read ++ field ∷ left) blocks → (block : Block) × IsBlock field block
block_amid [] field left [] h = absurd h
block_amid [] field left (block ∷ blocks) h = (block, h.0)
block_amid (first ∷ read) field left [] h = absurd h
block_amid (first ∷ read) field left (block ∷ blocks) h = block_amid read field left blocks h.1

-- nothing is read
pub KeptSoFar-none : (all : List (List ℕ)) (buffer : List Block) → length buffer ≡ KEPT_BLOCKS → KeptSoFar all all 0 buffer
KeptSoFar-none all buffer room = record {
  read = [];
  blocks = [];
  parts = refl;
  are_blocks = tt;
  are_kept = record { count = refl; first = refl };
  room = room;
}

-- one block more is kept
pub KeptSoFar-more : (all : List (List ℕ)) (field : List ℕ) (left : List (List ℕ)) (kept : ℕ) (buffer : List Block) (block : Block)
    → KeptSoFar all (field ∷ left) kept buffer → kept < KEPT_BLOCKS → IsBlock field block
    → KeptSoFar all left (kept + 1) (set buffer kept block)
KeptSoFar-more all field left kept buffer block h few is =
    let len_buffer = h.room in
    let inside : kept < length buffer = omega arith in
    let count = h.are_kept.count in
    let len : length h.blocks ≡ kept = omega arith in
    let more = length-append h.blocks (block ∷ []) in
    record {
      read = h.read ++ field ∷ [];
      blocks = h.blocks ++ block ∷ [];
      parts = h.parts ∙ sym (append_assoc h.read (field ∷ []) left);
      are_blocks = AreBlocks-push h.read h.blocks field block h.are_blocks is;
      are_kept = record {
        count = omega arith;
        first =
            take_more_set buffer kept block inside
            ∙ ap (λ (front : List Block). front ++ block ∷ []) (h.are_kept.first ∙ take_all KEPT_BLOCKS h.blocks (omega arith))
            ∙ sym (take_all KEPT_BLOCKS (h.blocks ++ block ∷ []) (omega arith));
      };
      room = omega (arith, length-set buffer kept block);
    }

-- one block more is read, and not kept
pub KeptSoFar-past : (all : List (List ℕ)) (field : List ℕ) (left : List (List ℕ)) (kept : ℕ) (buffer : List Block) (block : Block)
    → KeptSoFar all (field ∷ left) kept buffer → KEPT_BLOCKS ≤ kept → IsBlock field block → KeptSoFar all left kept buffer
KeptSoFar-past all field left kept buffer block h many is =
    let count = h.are_kept.count in
    let more = length-append h.blocks (block ∷ []) in
    let len : KEPT_BLOCKS ≤ length h.blocks = omega arith in
    record {
      read = h.read ++ field ∷ [];
      blocks = h.blocks ++ block ∷ [];
      parts = h.parts ∙ sym (append_assoc h.read (field ∷ []) left);
      are_blocks = AreBlocks-push h.read h.blocks field block h.are_blocks is;
      are_kept = record {
        count = omega arith;
        first = h.are_kept.first ∙ sym (rw take-append-le refl);
      };
      room = h.room;
    }

-- a field that is no block
pub KeptSoFar-not : (all : List (List ℕ)) (field : List ℕ) (left : List (List ℕ)) (kept : ℕ) (buffer : List Block)
    → KeptSoFar all (field ∷ left) kept buffer → ((block : Block) → IsBlock field block → ⊥)
    → (blocks : List Block) → AreBlocks all blocks → ⊥
KeptSoFar-not all field left kept buffer h other blocks are =
    let found = block_amid h.read field left blocks (rw h.parts at are) in
    other found.0 found.1

-- every field is read
pub KeptSoFar-all : (all : List (List ℕ)) (kept : ℕ) (buffer : List Block) → KeptSoFar all [] kept buffer
    → (blocks : List Block) × AreBlocks all blocks × AreKept blocks kept buffer
KeptSoFar-all all kept buffer h =
    let whole : all ≡ h.read = h.parts ∙ append-nil h.read in
    (h.blocks, rw whole h.are_blocks, h.are_kept)
