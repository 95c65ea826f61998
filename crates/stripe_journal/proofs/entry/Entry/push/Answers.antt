use Rattle.std.proofs.Common.{◌≡◌, ◌<◌, true, ℕ, List, [], length, get_or, sym, ap, ◌∙◌, arith}
use Rattle.std.specs.Vec.{with_items}
use Rattle.std.proofs.lemmas.List.{with_items_is}
use Rattle.sector_model.specs.History.{Bytes}
use Rattle.entry_runs.specs.Body.{bits_below}
use Rattle.entry_runs.specs.Built.{runs_in}
use Rattle.layout_map.specs.declared.sizes.TheConstants.{MOST_MEMBERS}
use Rattle.stripe_journal.specs.declared.form.Form.TheVariants.{Held}
use Rattle.stripe_journal.specs.Entries.{masks_of, numbers_of}
use Rattle.stripe_journal.specs.Forms.{mask_at, rank}
use Rattle.entry_runs.specs.WrittenOut.{masks_of_runs, rows_of_runs}
use Rattle.stripe_journal.proofs.Entries.{pushed_kept, pushed_zeros}
use Rattle.stripe_journal.proofs.EntryRows.{pushed_mask, pushed_masks}
use Rattle.stripe_journal.proofs.entry.Entry.push.Goals as goal

pub returns-clause-mask : goal.returns-clause-mask
returns-clause-mask c =
    pushed_mask (runs_in c.args.self.now.runs) (runs_in c.push.new.self) c.args.mask (c.push.ensures.masks (c.push.ensures.few c.requires.few))

pub returns-clause-masks : goal.returns-clause-masks
returns-clause-masks c =
    pushed_masks (runs_in c.args.self.now.runs) (runs_in c.push.new.self) c.args.mask (c.push.ensures.masks (c.push.ensures.few c.requires.few))

pub put_zeros-requires : goal.put_zeros-requires
put_zeros-requires c =
    let old = c.args.self.now in
    let new = runs_in c.push.new.self in
    let its : mask_at (masks_of_runs new) c.len-i.result ≡ c.args.mask = ap (mask_at (masks_of_runs new)) c.len-i.ensures
    ∙ pushed_mask (runs_in old.runs) new c.args.mask (c.push.ensures.masks (c.push.ensures.few c.requires.few)) in
    omega (
      arith,
      c.place-start.ensures.most,
      ap (λ (mask : ℕ). bits_below mask MOST_MEMBERS) its,
      c.bits_below-count.ensures.bits,
      ap length c.deref_mut.ensures.value,
      old.whole,
      old.sectors.ok.0,
    )

pub returns-clause-others : goal.returns-clause-others
returns-clause-others c = λ i member below within.
    let old = c.args.self.now in
    let new = runs_in c.push.new.self in
    let put = c.put_zeros.new.sectors in
    let first : c.place-start.result ≡ rank MOST_MEMBERS (Held (record { items = rows_of_runs new }) (masks_of_runs new)) (length (numbers_of old)) 0 =
    c.place-start.ensures.place
    ∙ ap (λ (n : ℕ). rank MOST_MEMBERS (Held (record { items = rows_of_runs new }) (masks_of_runs new)) n 0) c.len-i.ensures in
    let items : (with_items old.sectors put).items ≡ put =
    with_items_is old.sectors put (omega (arith, c.put_zeros.ensures.long, ap length c.deref_mut.ensures.value, old.sectors.ok.0)) in
    pushed_kept (record { items = numbers_of old }) (record { items = rows_of_runs new }) (masks_of old) (masks_of_runs new) old.sectors.items
    (with_items old.sectors put).items (length (numbers_of old))
    (pushed_masks (runs_in old.runs) new c.args.mask (c.push.ensures.masks (c.push.ensures.few c.requires.few)))
    i member below within
    (λ k inside. ap (λ (l : List Bytes). get_or l k []) items
    ∙ c.put_zeros.ensures.others k (omega (arith, first, inside))
    ∙ ap (λ (l : List Bytes). get_or l k []) c.deref_mut.ensures.value)

pub returns-clause-zeros : goal.returns-clause-zeros
returns-clause-zeros c = λ member within held.
    let old = c.args.self.now in
    let new = runs_in c.push.new.self in
    let put = c.put_zeros.new.sectors in
    let first : c.place-start.result ≡ rank MOST_MEMBERS (Held (record { items = rows_of_runs new }) (masks_of_runs new)) (length (numbers_of old)) 0 =
    c.place-start.ensures.place
    ∙ ap (λ (n : ℕ). rank MOST_MEMBERS (Held (record { items = rows_of_runs new }) (masks_of_runs new)) n 0) c.len-i.ensures in
    let more = c.push.ensures.masks (c.push.ensures.few c.requires.few) in
    let items : (with_items old.sectors put).items ≡ put =
    with_items_is old.sectors put (omega (arith, c.put_zeros.ensures.long, ap length c.deref_mut.ensures.value, old.sectors.ok.0)) in
    pushed_zeros (record { items = numbers_of old }) (record { items = rows_of_runs new }) (masks_of old) (masks_of_runs new) old.sectors.items
    (with_items old.sectors put).items (length (numbers_of old)) (pushed_masks (runs_in old.runs) new c.args.mask more)
    member c.args.mask (pushed_mask (runs_in old.runs) new c.args.mask more) within held
    (λ k from below. ap (λ (l : List Bytes). get_or l k []) items
    ∙ c.put_zeros.ensures.zeros k (omega (arith, first, from))
    (omega (arith, first, below, c.bits_below-count.ensures.bits)))
