use Rattle.std.proofs.Common.{◌≡◌, ◌≤◌, ◌<◌, ℕ, List, length, replicate, ap, ◌∙◌, subst, sym, arith}
use Rattle.std.specs.Prelude.{count_ones}
use Rattle.std.proofs.lemmas.List.{get_or-replicate}
use Rattle.layout_map.specs.declared.sizes.TheConstants.{ENTRY_ROWS}
use Rattle.stripe_journal.specs.Entries.{row_mask}
use Rattle.stripe_journal.specs.Forms.{mask_at}
use Rattle.stripe_journal.proofs.EntryForms.{has_whole_rows, whole_ones}
use Rattle.stripe_journal.proofs.entry.Entry.set.Goals as goal

pub set_listed-requires-clause-two : goal.set_listed-requires-clause-two
set_listed-requires-clause-two c = λ i within.
    let few = c.args.seal.now.formed.whole c.in-Whole.rows c.in-Whole.is in
    let mask = c.whole_mask.result in
    let ones = whole_ones mask c.args.members (omega (arith, c.whole_mask.type_inv)) c.requires.most c.whole_mask.ensures in
    subst (λ (m : ℕ). 2 ≤ count_ones m) (sym (get_or-replicate ENTRY_ROWS i mask 0 (omega (arith, within, few, ap length c.as_slice.ensures.value))))
    (omega (arith, ones, c.requires.least))

pub returns-in-Whole : goal.returns-in-Whole
returns-in-Whole c =
    let few = c.args.seal.now.formed.whole c.in-Whole.rows c.in-Whole.is in
    let mask = c.whole_mask.result in
    let ones = whole_ones mask c.args.members (omega (arith, c.whole_mask.type_inv)) c.requires.most c.whole_mask.ensures in
    let masks : (i : ℕ) → i < length c.in-Whole.rows.items → row_mask c.set_listed.new.self i ≡ mask = λ i below.
    c.set_listed.ensures.masks i (omega (arith, below, ap length c.as_slice.ensures.value))
    ∙ get_or-replicate ENTRY_ROWS i mask 0 (omega (arith, below, few)) in
    rw c.in-Whole.is (has_whole_rows c.args.members c.set_listed.new.self c.in-Whole.rows mask c.requires.most
    (c.set_listed.ensures.numbers ∙ c.as_slice.ensures.value) masks c.whole_mask.ensures (omega (arith, ones, c.requires.least)))
