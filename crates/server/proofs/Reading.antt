-- What was read of the input, and where it stops.
use Rattle.std.proofs.Common.{◌≡◌, ◌≢◌, ◌⊎◌, inl, inr, ℕ, ◌+◌, ◌<◌, ◌≤◌, List, [], ◌∷◌, ◌++◌, append_assoc, append-nil, length, take, All, refl, sym, ◌∙◌, ap}
use Rattle.std.proofs.Common.{subst, arith, Bool, true, false, Option, Some, None, Result, Ok, Err}
use Rattle.std.specs.Prelude.{IfErr, IfSome, OnSome}
use Rattle.std.specs.List.{flat_map}
use Rattle.std.proofs.lemmas.List.{take_all, length-take}
use Rattle.std.specs.Io.KnownBytes.{Consumes, IsAtEnd}
use Rattle.sector_model.specs.declared.refusal.Refusal.{Refusal}
use Rattle.sector_model.specs.declared.refusal.Refusal.TheVariants.{BadCount, BadLine, ReadFault}
use Rattle.report.specs.Lines.{HasNoLine, ReadsUnended, ReadsWhole, StopsInLine}
use Rattle.report.specs.declared.lines.TheConstants.{LONGEST_LINE}
use Rattle.requests.specs.Demands.{Demand, Demands, DemandsNothing, WriteBlocks}
use Rattle.requests.specs.Inputs.{EndsBefore, StopsBefore, bytes_of}
use Rattle.batch.specs.Places.{Given}
use Rattle.report.specs.declared.lines.LineRead.{LineRead}
use Rattle.scrub.specs.Scrubbing.{Report}
use Rattle.set_commands.specs.Run.{Streams, streams}
use Rattle.volume_table.specs.Stands.{StoreView}
use Rattle.volume_table.specs.Volumes.{Block, IsBlock}
use Rattle.server.specs.Answers.{Told}
use Rattle.server.proofs.Coming.{come_read}
use Rattle.server.specs.Ends.{HasCome, IsBadRequest, IsForGood, MeetsBadRequest, MeetsNoRequest, ServerState, Stops, state_of}
use Rattle.server.specs.Serving.{IsRequest, Line, spelled}

-- bytes that were read
abbrev pub ReadsSome : (old new : Option (List ℕ)) → Type 0
ReadsSome old new = (read : List ℕ) × Consumes old new read

pub reads_stopped : (old new : Option (List ℕ)) → IfSome old (λ script. StopsInLine script new) → ReadsSome old new
reads_stopped None new stops = ([], tt)
reads_stopped (Some script) new stops = (stops.read, subst (λ (n : Option (List ℕ)). Consumes (Some script) n stops.read) (sym stops.left) stops.split)

pub reads_unended : (old new : Option (List ℕ)) (kept : List ℕ) → IfSome old (λ script. ReadsUnended script new kept) → ReadsSome old new
reads_unended None new kept ends = ([], tt)
reads_unended (Some script) new kept ends =
    (script, subst (λ (n : Option (List ℕ)). Consumes (Some script) n script) (sym ends.left) (sym (append-nil script)))

pub reads_nothing : (old new : Option (List ℕ)) → IfSome old (λ script. HasNoLine script new) → Consumes old new []
reads_nothing None new none = tt
reads_nothing (Some script) new none = subst (λ (n : Option (List ℕ)). Consumes (Some script) n []) (sym none.left) none.none

-- and where the input was known, it is at its end
pub reads_all : (was old new : Option (List ℕ)) (bytes : List ℕ) → Consumes was old bytes → IfSome old (λ script. HasNoLine script new)
    → OnSome was (IsAtEnd new)
reads_all None old new bytes read none = tt
reads_all (Some input) None new bytes read none = absurd read
reads_all (Some input) (Some script) new bytes read none = subst IsAtEnd (sym none.left) refl

-- a line that is not too long was kept whole
pub kept_whole : (line kept : List ℕ) → kept ≡ take (LONGEST_LINE + 1) line → length kept ≤ LONGEST_LINE → kept ≡ line
kept_whole line kept first short =
    first ∙ take_all (LONGEST_LINE + 1) line (omega (arith, ap length first, length-take (LONGEST_LINE + 1) line, short))

-- it was none of the grammar, as what was kept of it is
pub bad_whole : (left : ℕ) (line kept : List ℕ) (refusal : Refusal) → kept ≡ take (LONGEST_LINE + 1) line → IsBadRequest left kept refusal
    → IsBadRequest left line refusal
bad_whole left line kept BadLine first (inl long) = inl (omega (arith, ap length first, length-take (LONGEST_LINE + 1) line, long))
bad_whole left line kept BadLine first (inr short) =
    subst (λ (l : List ℕ). IsBadRequest left l BadLine) (kept_whole line kept first short.0) (inr short)
bad_whole left line kept BadCount first bad = subst (λ (l : List ℕ). IsBadRequest left l BadCount) (kept_whole line kept first bad.0) bad
bad_whole left line kept refusal first bad = absurd bad

-- a write with its blocks
abbrev pub line_of : (bytes : List ℕ) (blocks : List Block) → Line
line_of bytes blocks = record { bytes = bytes; blocks = blocks }

pub spelled_whole : (bytes : List ℕ) (blocks : List Block) → (bytes ++ 10 ∷ []) ++ bytes_of blocks ≡ spelled (line_of bytes blocks)
spelled_whole bytes blocks = append_assoc bytes (10 ∷ []) (bytes_of blocks)

pub write_request : (bytes kept : List ℕ) (blocks : List Block) (name : List ℕ) (at count : ℕ) → kept ≡ take (LONGEST_LINE + 1) bytes
    → length kept ≤ LONGEST_LINE → All (λ byte. byte ≢ 10) bytes → Demands kept (WriteBlocks name at count) → length blocks ≡ count → All IsBlock blocks
    → IsRequest (line_of bytes blocks) (WriteBlocks name at count)
write_request bytes kept blocks name at count first short unbroken demands as_many whole =
    let same : kept ≡ bytes = kept_whole bytes kept first short in
    record {
      unbroken = unbroken;
      short = subst (λ (l : List ℕ). length l ≤ LONGEST_LINE) same short;
      demands = subst (λ (l : List ℕ). Demands l (WriteBlocks name at count)) same demands;
      as_many = as_many;
      whole = whole;
    }

-- a line that no blocks follow
pub plain_spelled : (bytes : List ℕ) → bytes ++ 10 ∷ [] ≡ spelled (line_of bytes [])
plain_spelled bytes = refl

-- ---- what a line, or what follows it, came to

abbrev pub has_read : LineRead → Result LineRead Refusal
has_read met = Ok met

abbrev pub were_read : Bool → Result Bool Refusal
were_read all = Ok all

module _ (honest : Type 0) (start : StoreView) (was : Streams) (left : ℕ) (store : StoreView) (contents : Option (List ℕ)) (waits : Given)
    (replies : List Told) (so_far : Report) where
  abbrev At : Option (List ℕ) → ServerState
  At remaining = state_of store (streams remaining contents) waits replies so_far

  -- the reader failed, or the input ended
  pub unread : (ahead : List ℕ) (remaining remaining' : Option (List ℕ)) (refusal : Refusal) → refusal ≡ ReadFault → ReadsSome remaining remaining'
      → HasCome honest start was [] left ahead (At remaining) → Stops honest start was refusal (At remaining')
  unread ahead remaining remaining' refusal is more come = subst (λ (r : Refusal). Stops honest start was r (At remaining')) (sym is) record {
    left = left;
    ahead = ahead ++ more.0;
    come = come_read honest start was [] left ahead more.0 store remaining remaining' contents waits replies so_far more.1 come;
  }

  -- a line is none of the grammar
  pub bad_stops : (remaining remaining' : Option (List ℕ)) (kept : List ℕ) (refusal : Refusal) → ReadsWhole remaining remaining' kept
      → IsBadRequest left kept refusal → HasCome honest start was [] left [] (At remaining) → Stops honest start was refusal (At remaining')
  bad_stops remaining remaining' kept BadLine whole bad come = record {
    left = left;
    line = whole.line;
    unbroken = whole.unbroken;
    bad = bad_whole left whole.line kept BadLine whole.first bad;
    come = come_read honest start was [] left [] (whole.line ++ 10 ∷ []) store remaining remaining' contents waits replies so_far whole.consumed come;
  }
  bad_stops remaining remaining' kept BadCount whole bad come = record {
    left = left;
    line = whole.line;
    unbroken = whole.unbroken;
    bad = bad_whole left whole.line kept BadCount whole.first bad;
    come = come_read honest start was [] left [] (whole.line ++ 10 ∷ []) store remaining remaining' contents waits replies so_far whole.consumed come;
  }
  bad_stops remaining remaining' kept refusal whole bad come = absurd bad

  -- a line was read whole
  pub come_line : (remaining remaining' : Option (List ℕ)) (kept : List ℕ) (whole : ReadsWhole remaining remaining' kept)
      → HasCome honest start was [] left [] (At remaining) → HasCome honest start was [] left (whole.line ++ 10 ∷ []) (At remaining')
  come_line remaining remaining' kept whole come =
      come_read honest start was [] left [] (whole.line ++ 10 ∷ []) store remaining remaining' contents waits replies so_far whole.consumed come

  -- and then its blocks
  pub come_blocks : (bytes : List ℕ) (blocks : List Block) (remaining remaining' : Option (List ℕ)) → Consumes remaining remaining' (bytes_of blocks)
      → HasCome honest start was [] left (bytes ++ 10 ∷ []) (At remaining) → HasCome honest start was [] left (spelled (line_of bytes blocks)) (At remaining')
  come_blocks bytes blocks remaining remaining' read come =
      subst (λ (ahead : List ℕ). HasCome honest start was [] left ahead (At remaining')) (spelled_whole bytes blocks)
      (come_read honest start was [] left (bytes ++ 10 ∷ []) (bytes_of blocks) store remaining remaining' contents waits replies so_far read come)

-- what stopped for good did not go on
pub not_for_good : (Going : Type 0) (result : Result (Unit {0}) Refusal) → IfErr result IsForGood → IfErr result (λ refusal. ¬ IsForGood refusal → Going)
not_for_good Going (Ok done) good = tt
not_for_good Going (Err refusal) good = λ no. absurd (no good)

-- so many lines are to come, said otherwise
pub come_left : (honest : Type 0) (start : StoreView) (was : Streams) (left other : ℕ) (is : ServerState) → left ≡ other
    → HasCome honest start was [] left [] is → HasCome honest start was [] other [] is
come_left honest start was left other is same come = subst (λ (n : ℕ). HasCome honest start was [] n [] is) same come
