-- The XOR of the others that were read so far, of which no device went down.
use Rattle.std.proofs.Common.{◌≡◌, ℕ, map}
use Rattle.sector_model.specs.Bank.{IsLater}
use Rattle.sector_model.specs.History.{is_down}
use Rattle.sector_model.specs.Readable.{readable}
use Rattle.sector_model.specs.Reads.{HasRead}
use Rattle.parity.specs.Xor.{xor_of_all}
use Rattle.degraded.specs.LiveView.{slots_of}
use Rattle.degraded.specs.ReadMember.{rows_of}
use Rattle.degraded.specs.RowValue.{others}
use Rattle.degraded.proofs.Values.{known}
use Rattle.degraded.proofs.reading.xor_others.Given as goal

abbrev pub invariant-loop-other : goal.invariant-loop-other
invariant-loop-other g l = record {
  panel : IsLater (g.B.Bank.panel l.initial.bank) (g.B.Bank.panel l.bank);
  honest : g.B.Bank.honest l.initial.bank → g.B.Bank.honest l.bank;
  still : g.B.Bank.honest l.bank → g.B.Bank.honest l.initial.bank;
  read : g.B.Bank.honest l.initial.bank → HasRead (g.B.Bank.history l.initial.bank) (g.B.Bank.history l.bank);
  stays : g.B.Bank.honest l.initial.bank → (device : ℕ) → is_down (g.B.Bank.history l.bank) device ≡ is_down (g.B.Bank.history l.initial.bank) device;
  sum : g.B.Bank.honest l.initial.bank
      → l.to ≡ xor_of_all (map (λ other. known (rows_of (slots_of l.live) (readable (g.B.Bank.history l.initial.bank))) l.row other) (others l.other l.member));
}
