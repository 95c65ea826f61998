use Rattle.std.proofs.Common.{◌≡◌, ◌<◌, inl, inr, length, ℕ, List, [], ◌∷◌, ◌++◌, take, sym, ◌∙◌, ap, arith}
use Rattle.std.proofs.lemmas.Bool.{cases_eq}
use Rattle.std.proofs.lemmas.List.{get_or-set_other, get_or-set_same, length-set, length-take-le, take_more}
use Rattle.std.proofs.Math.Seq.{take-length}
use Rattle.layout_map.specs.declared.sizes.TheConstants.{ENTRY_ROWS}
use Rattle.stripe_journal.specs.Entries.{numbers_of}
use Rattle.stripe_journal.proofs.EntryForms.{lists_rows}
use Rattle.stripe_journal.proofs.EntryRows.{mask_byte}
use Rattle.stripe_journal.proofs.Masks.{none_in_zeros}
use Rattle.stripe_journal.proofs.entry.Entry.listed.Goals as goal

pub loop-i-init : goal.loop-i-init
loop-i-init c = record {
  most = omega arith;
  rows = c.new-numbers.ensures;
  long = omega arith;
  bytes = λ k. omega (arith, none_in_zeros 32 k);
  masks = λ k within. absurd (omega (arith, within));
  rest = λ k past. none_in_zeros 32 k;
}

pub push-requires : goal.push-requires
push-requires c =
    let rows = numbers_of c.args.self.now in
    let long : length c.loop-i.numbers.items ≡ c.loop-i.i = ap length c.loop-i.invariant.rows ∙ length-take-le c.loop-i.i rows c.loop-i.invariant.most in
    (omega arith, omega (arith, long, c.loop-i-test.true, c.len-i-end.ensures, c.requires.few))

pub loop-i-preserved : goal.loop-i-preserved
loop-i-preserved c =
    let now = c.loop-i in
    let rows = numbers_of c.args.self.now in
    let within : now.i < length rows = omega (arith, c.loop-i-test.true, c.len-i-end.ensures) in
    let short : now.i < length now.masks = omega (arith, within, c.requires.few, now.invariant.long) in
    let mask = c.listed-row.result.mask in
    let byte : mask < 256 = omega (arith, c.listed-row.ensures.mask, mask_byte c.args.self.now now.i) in
    record {
      most = omega (arith, within);
      rows = c.push.ensures.items ∙ ap (λ (list : List ℕ). list ++ c.listed-row.result.row ∷ []) now.invariant.rows
          ∙ ap (λ (row : ℕ). take now.i rows ++ row ∷ []) c.listed-row.ensures.row ∙ sym (take_more rows now.i 0 within);
      long = length-set now.masks now.i mask ∙ now.invariant.long;
      bytes = λ k. elim (cases_eq k now.i) [
        | inl same ↦ rw same (omega (arith, get_or-set_same now.masks now.i mask 0 short, byte))
        | inr apart ↦ omega (arith, get_or-set_other now.masks now.i k mask 0 apart, now.invariant.bytes k)
      ];
      masks = λ k inside. elim (cases_eq k now.i) [
        | inl same ↦ rw same (get_or-set_same now.masks now.i mask 0 short ∙ c.listed-row.ensures.mask)
        | inr apart ↦ get_or-set_other now.masks now.i k mask 0 apart ∙ now.invariant.masks k (omega (arith, inside, apart))
      ];
      rest = λ k past. get_or-set_other now.masks now.i k mask 0 (λ same. absurd (omega (arith, same, past)))
          ∙ now.invariant.rest k (omega (arith, past));
    }

pub returns : goal.returns
returns c =
    let entry = c.args.self.now in
    let rows = numbers_of entry in
    let now = c.loop-i in
    let all : now.i ≡ length rows = omega (arith, now.invariant.most, c.loop-i-test.false, c.len-i-end.ensures) in
    lists_rows entry now.numbers now.masks c.requires (now.invariant.rows ∙ ap (λ (n : ℕ). take n rows) all ∙ take-length rows) now.invariant.long
    now.invariant.bytes (λ k below. now.invariant.masks k (omega (arith, below, all))) (λ k past. now.invariant.rest k (omega (arith, past, all)))
