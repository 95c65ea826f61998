-- Each byte so far may stand in a name.
use Rattle.std.proofs.Common.{◌≡◌, ℕ, ◌<◌, true, get_or}
use Rattle.extents.specs.Names.{is_name_byte}
use Rattle.extents.proofs.name.is_good.Given as goal

abbrev pub invariant-loop-byte : goal.invariant-loop-byte
invariant-loop-byte l = (k : ℕ) → k < l.byte-index → is_name_byte (get_or l.bytes k 0) ≡ true
