use Rattle.std.proofs.Common.{◌≡◌, ℕ, true, length, refl, sym, ◌∙◌, ap, arith, map}
use Rattle.std.specs.Prelude.{Ok}
use Rattle.std.proofs.lemmas.Result.{err_from_is_err_and}
use Rattle.sector_model.specs.History.{Bytes}
use Rattle.sector_model.specs.Readable.{readable}
use Rattle.sector_model.proofs.Panels.{later_same, later_both}
use Rattle.sector_model.proofs.Reading.{read_none, read_both}
use Rattle.parity.specs.Xor.{xor_of, xor_of_all}
use Rattle.parity.proofs.Laws.{zero_sector-replicate}
use Rattle.degraded.specs.LiveView.{slots_of}
use Rattle.degraded.specs.ReadMember.{is_read, rows_of}
use Rattle.degraded.specs.RowValue.{others}
use Rattle.degraded.proofs.Members.{can_read_later, ended_reading, known_read, other_read, reads_member}
use Rattle.degraded.proofs.Sums.{xor_others-more, xor_others-same}
use Rattle.degraded.proofs.Values.{known, value-neither}
use Rattle.degraded.proofs.reading.xor_others.Goals as goal
use Rattle.degraded.proofs.reading.xor_others.Goals.{then-other-member+in_ok-read_own, else-other-member}

pub loop-other-init : goal.loop-other-init
loop-other-init g c = record {
  panel = later_same _;
  honest = λ honest. honest;
  still = λ honest. honest;
  read = λ honest. read_none _;
  stays = λ honest device. refl;
  sum = λ honest. c.fill.ensures.after (λ y same. cc) ∙ zero_sector-replicate (length c.args.to.now) c.told-to;
}

pub read_own-requires-clause-can : goal.read_own-requires-clause-can
read_own-requires-clause-can g c = can_read_later c.loop-other.invariant.panel c.requires.can

pub read_own-requires-clause-own : goal.read_own-requires-clause-own
read_own-requires-clause-own g c =
    other_read (slots_of c.args.live.now) c.args.row c.args.member c.loop-other.other c.requires.can.one_out c.requires.member c.loop-other-test.true
    c.if-other-member.true c.requires.out

pub loop-other-preserved : goal.loop-other-preserved
loop-other-preserved g c =
    let now = c.loop-other in
    let slots = slots_of c.args.live.now in
    let row = c.args.row in
    let member = c.args.member in
    let first = g.B.Bank.history c.args.bank.now in
    let what = λ (other : ℕ). known (rows_of slots (readable first)) row other in
    elim c.if-other-member.branch [
      | then-other-member+in_ok-read_own w ↦
          let is : is_read slots row now.other ≡ true =
          other_read slots row member now.other c.requires.can.one_out c.requires.member c.loop-other-test.true w.if-other-member.true c.requires.out in
          rw (w.bank-is, w.to-is) record {
            panel = later_both _ _ _ now.invariant.panel w.read_own.ensures.reads.later;
            honest = λ honest. w.read_own.ensures.honest.0 (now.invariant.honest honest);
            still = λ honest. now.invariant.still (w.read_own.ensures.honest.1 honest);
            read = λ honest. read_both (now.invariant.read honest) (w.read_own.ensures.reads.reads (now.invariant.honest honest));
            stays = λ honest device. w.in_ok-read_own.ensures.reads.stays (now.invariant.honest honest) device (λ is. cc) ∙ now.invariant.stays honest device;
            sum = λ honest.
                w.xor_into.ensures
                ∙ ap (xor_of now.to) (known_read slots row now.other w.read_own.new.to (now.invariant.read honest) (now.invariant.stays honest now.other) is
                (w.in_ok-read_own.ensures.reads.gives (now.invariant.honest honest) (refl {a = Ok tt})))
                ∙ ap (λ (s : Bytes). xor_of s (what now.other)) (now.invariant.sum honest)
                ∙ sym (xor_others-more what member now.other w.if-other-member.true);
          }
      | else-other-member w ↦ rw (w.bank-is, w.to-is) record {
        panel = now.invariant.panel;
        honest = now.invariant.honest;
        still = now.invariant.still;
        read = now.invariant.read;
        stays = now.invariant.stays;
        sum = λ honest. now.invariant.sum honest ∙ sym (xor_others-same what member now.other w.if-other-member.false);
      }
    ]

pub returns-in_err-read_own-clause-reads : goal.returns-in_err-read_own-clause-reads
returns-in_err-read_own-clause-reads g c =
    let now = c.loop-other in
    let p = err_from_is_err_and c.from_residual.result c.from_residual.ensures.1 in
    rw (p.1, p.2) (ended_reading (g.B.Bank.honest c.args.bank.now) (g.B.Bank.honest now.bank) (slots_of c.args.live.now) c.args.member now.other c.args.row
    (g.B.Bank.panel c.args.bank.now) (g.B.Bank.panel now.bank) (g.B.Bank.panel c.read_own.new.bank)
    (g.B.Bank.history c.args.bank.now) (g.B.Bank.history now.bank) (g.B.Bank.history c.read_own.new.bank) now.to c.read_own.new.to _
    now.invariant.honest now.invariant.panel now.invariant.read now.invariant.stays c.in_err-read_own.ensures.reads)

pub returns-clause-reads : goal.returns-clause-reads
returns-clause-reads g c =
    let slots = slots_of c.args.live.now in
    let now = c.loop-other in
    let rows = rows_of slots (readable (g.B.Bank.history c.args.bank.now)) in
    reads_member (g.B.Bank.honest c.args.bank.now) slots c.args.member c.args.row (g.B.Bank.panel c.args.bank.now) (g.B.Bank.panel now.bank)
    (g.B.Bank.history c.args.bank.now) (g.B.Bank.history now.bank) now.to (Ok tt) now.invariant.panel now.invariant.read
    (λ honest. now.invariant.sum honest
    ∙ ap (λ (n : ℕ). xor_of_all (map (λ other. known rows c.args.row other) (others n c.args.member))) (omega arith)
    ∙ sym (value-neither rows c.args.row c.args.member refl c.requires.out))
    (λ honest device other. now.invariant.stays honest device) tt
