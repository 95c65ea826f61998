-- The one spelling of runs as 464 bytes, numbers with their lowest byte first. Their count stands beside it.
use Rattle.std.specs.Prelude.{ℕ, ◌+◌, ◌-◌, ◌*◌, List, [], ◌∷◌, ◌++◌, drop, length, replicate, slice_index}
use Rattle.std.specs.List.{flat_map}
use Rattle.byteorder.specs.Endian.{little_bytes, little_number}
use Rattle.entry_runs.specs.declared.run.Run.{Run}
use Rattle.entry_runs.specs.declared.sizes.TheConstants.{RUN_BYTES, RUNS_BYTES}

-- a run: its first row in 5 bytes, its length in 2, its mask in 1
unfoldable pub run_bytes : Run → List ℕ
run_bytes run = little_bytes 5 run.first ++ little_bytes 2 run.length ++ run.mask ∷ []

-- 58 runs of 8 bytes: those of the list, and zeros for the rest
unfoldable pub runs_bytes : List Run → List ℕ
runs_bytes runs = flat_map run_bytes runs ++ replicate (RUNS_BYTES - RUN_BYTES * length runs) 0

-- the run of this number whose fields stand in the bytes
abbrev pub run_in : List ℕ → (number : ℕ) → Run
run_in bytes number =
    let at = RUN_BYTES * number in
    record { first = little_number 4 (drop at bytes); length = little_number 2 (drop (at + 5) bytes); mask = slice_index bytes (at + 7) }
