use Rattle.std.proofs.Common.{◌≡◌, ◌∙◌, ap, sym, Some, None, arith}
use Rattle.stripe_journal.proofs.Seals.{same_seal}
use Rattle.stripe_journal.proofs.Spellings.{entry_back, fields_of, form_back}
use Rattle.stripe_journal.proofs.codec.read_seal.Goals.{then-number-eq0-via-then-number-eq0, then-number-eq0-via-else-number-eq0+then-number-gt-GREATEST_COUNT}
use Rattle.stripe_journal.proofs.codec.read_seal.Goals as goal

pub returns-in_err-form : goal.returns-in_err-form
returns-in_err-form c = λ s is.
    let back = form_back s.id s.number s.form c.args.from.now s.formed c.told-from is in
    let found = c.read_form.ensures.exact s.form s.formed s.allowed.rows back.digit (c.read_u32-count.ensures ∙ back.count)
    (c.copy_from_slice.ensures.after ∙ back.held) in
    let none : None ≡ Some s.form = sym c.in_err-form.was ∙ found in
    absurd (cc)

pub returns-then-number-eq0 : goal.returns-then-number-eq0
returns-then-number-eq0 c = λ s is.
    let number = c.read_u64-number.ensures ∙ entry_back s.id s.number s.form c.args.from.now s.allowed.number_most s.formed c.told-from is in
    absurd (elim c.then-number-eq0.branch [
      | then-number-eq0-via-then-number-eq0 w ↦ omega (arith, number, w.if-number-eq0.true, s.allowed.number_least)
      | then-number-eq0-via-else-number-eq0+then-number-gt-GREATEST_COUNT w ↦ omega (arith, number, w.if-number-gt-GREATEST_COUNT.true, s.allowed.number_most)
    ])

pub returns : goal.returns
returns c = λ s is.
    let fields = fields_of s.id s.number s.form c.args.from.now c.told-from s.formed is in
    let number = c.read_u64-number.ensures ∙ entry_back s.id s.number s.form c.args.from.now s.allowed.number_most s.formed c.told-from is in
    let back = form_back s.id s.number s.form c.args.from.now s.formed c.told-from is in
    let found = c.read_form.ensures.exact s.form s.formed s.allowed.rows back.digit (c.read_u32-count.ensures ∙ back.count)
    (c.copy_from_slice.ensures.after ∙ back.held) in
    ap Some (same_seal _ s (c.copy_from_slice-2.ensures.after ∙ fields.id_is) number (cc (c.in_ok-form.was, found)))
