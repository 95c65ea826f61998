-- Counts within their limits, and lines that no blocks follow.
use Rattle.std.proofs.Common.{◌≡◌, ◌≢◌, ◌⊎◌, inl, inr, ℕ, ◌+◌, ◌<◌, ◌≤◌, List, [], ◌∷◌, ◌++◌, length, take, All, refl, sym, subst, arith, Result, Ok, Err}
use Rattle.std.proofs.Common.{Option, Some, None}
use Rattle.sector_model.specs.declared.refusal.Refusal.{Refusal}
use Rattle.sector_model.specs.declared.refusal.Refusal.TheVariants.{BadCount, BadLine}
use Rattle.report.specs.declared.lines.TheConstants.{LONGEST_LINE}
use Rattle.requests.specs.Demands.{Demand, Demands, FailSlot, OnVolumes, ReadBlocks, RebuildSteps, ReplaceSlot, ScrubRows, Status, Together, WriteBlocks}
use Rattle.requests.specs.Demands.{ZeroBlocks}
use Rattle.scrub.specs.Scrubbing.{Report}
use Rattle.set_commands.specs.Run.{Streams}
use Rattle.volume_table.specs.Stands.{StoreView}
use Rattle.server.proofs.Reading.{bad_whole, kept_whole, line_of}
use Rattle.server.specs.Answers.{IsAnswered}
use Rattle.server.specs.Ends.{IsBadRequest, IsOutside, NoneWaits, StopsReady}
use Rattle.server.specs.Serving.{IsRequest, blocks_after}

pub inside : (most count : ℕ) → ¬ IsOutside most count → (1 ≤ count) × (count ≤ most)
inside most count not = (least (cases count), limit (le_or most count))
  where
    cases : (n : ℕ) → (n ≡ 0) ⊎ (1 ≤ n)
    cases n = grind arith

    le_or : (most n : ℕ) → (n ≤ most) ⊎ (most < n)
    le_or most n = grind arith

    least : (count ≡ 0) ⊎ (1 ≤ count) → 1 ≤ count
    least (inl none) = absurd (not (inl none))
    least (inr some) = some

    limit : (count ≤ most) ⊎ (most < count) → count ≤ most
    limit (inl few) = few
    limit (inr many) = absurd (not (inr many))

pub plain_request : (bytes kept : List ℕ) (demand : Demand) → kept ≡ take (LONGEST_LINE + 1) bytes → length kept ≤ LONGEST_LINE
    → All (λ byte. byte ≢ 10) bytes → Demands kept demand → blocks_after demand ≡ 0 → IsRequest (line_of bytes []) demand
plain_request bytes kept demand first short unbroken demands none =
    let same : kept ≡ bytes = kept_whole bytes kept first short in
    record {
      unbroken = unbroken;
      short = subst (λ (l : List ℕ). length l ≤ LONGEST_LINE) same short;
      demands = subst (λ (l : List ℕ). Demands l demand) same demands;
      as_many = sym none;
      whole = λ k d within. absurd (omega (arith, within));
    }

-- a line that ends the server, where nothing waits
pub bad_ready : (honest : Type 0) (start : StoreView) (was : Streams) (store : StoreView) (is : Streams) (so_far : Report) (bytes kept : List ℕ)
    (refusal : Refusal) → kept ≡ take (LONGEST_LINE + 1) bytes → All (λ byte. byte ≢ 10) bytes → IsBadRequest 0 kept refusal
    → NoneWaits honest start was [] 0 (bytes ++ 10 ∷ []) store is so_far → StopsReady honest start was store is refusal
bad_ready honest start was store is so_far bytes kept BadLine first unbroken bad ready =
    record { left = 0; line = bytes; unbroken = unbroken; bad = bad_whole 0 bytes kept BadLine first bad; come = (so_far, ready) }
bad_ready honest start was store is so_far bytes kept BadCount first unbroken bad ready =
    record { left = 0; line = bytes; unbroken = unbroken; bad = bad_whole 0 bytes kept BadCount first bad; come = (so_far, ready) }
bad_ready honest start was store is so_far bytes kept refusal first unbroken bad ready = absurd bad

-- a write, of which the line was kept whole
pub write_said : (bytes kept : List ℕ) (demand : Demand) (name : List ℕ) (at count : ℕ) → kept ≡ take (LONGEST_LINE + 1) bytes → length kept ≤ LONGEST_LINE
    → Demands kept demand → demand ≡ WriteBlocks name at count → (length bytes ≤ LONGEST_LINE) × Demands bytes (WriteBlocks name at count)
write_said bytes kept demand name at count first short demands is =
    let same : kept ≡ bytes = kept_whole bytes kept first short in (
      subst (λ (l : List ℕ). length l ≤ LONGEST_LINE) same short,
      subst (λ (d : Demand). Demands bytes d) is (subst (λ (l : List ℕ). Demands l demand) same demands),
    )

-- no blocks follow a line that is answered at once
pub answered_alone : (store : StoreView) (demand : Demand) → IsAnswered store demand → blocks_after demand ≡ 0
answered_alone store (WriteBlocks name at count) answered = absurd answered
answered_alone store (ReadBlocks name at count) answered = refl
answered_alone store (ZeroBlocks name at count) answered = refl
answered_alone store (Together lines) answered = refl
answered_alone store (OnVolumes command) answered = refl
answered_alone store Status answered = refl
answered_alone store (FailSlot slot) answered = refl
answered_alone store (ReplaceSlot slot) answered = refl
answered_alone store (RebuildSteps steps) answered = refl
answered_alone store (ScrubRows rows) answered = refl

-- a request that is said by what it demands
pub said_as : (bytes : List ℕ) (demand other : Demand) → demand ≡ other → IsRequest (line_of bytes []) demand → IsRequest (line_of bytes []) other
said_as bytes demand other is request = subst (λ (d : Demand). IsRequest (line_of bytes []) d) is request
