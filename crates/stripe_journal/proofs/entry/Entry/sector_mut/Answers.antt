use Rattle.std.proofs.Common.{◌≡◌, ℕ, [], get_or, refl, sym, ap, ◌∙◌, arith}
use Rattle.std.proofs.lemmas.List.{get_or_default}
use Rattle.stripe_journal.proofs.Entries.{held_there, sector_lent}
use Rattle.stripe_journal.proofs.EntryRows.{place_within}
use Rattle.stripe_journal.proofs.entry.Entry.sector_mut.Goals as goal

pub index_mut-requires : goal.index_mut-requires
index_mut-requires c =
    let entry = c.args.self.now in
    omega (arith, c.place-place.ensures.place, entry.whole, place_within entry c.args.i c.args.member c.requires.row c.requires.member c.requires.held)

pub returns : goal.returns
returns c =
    let entry = c.args.self.now in
    let place = c.place-place.ensures.place in
    let within = place_within entry c.args.i c.args.member c.requires.row c.requires.member c.requires.held in
    let there : c.index_mut.result.now ≡ get_or entry.sectors.items c.place-place.result [] =
    c.index_mut.ensures.value ∙ get_or_default entry.sectors.items c.place-place.result c.index_mut.result.now []
    (omega (arith, place, within, entry.whole, entry.sectors.ok.0)) in (
      (refl, λ w. sector_lent entry c.args.i c.args.member c.place-place.result w _ place),
      record {
        lends = tt;
        value = there ∙ ap (λ (n : ℕ). get_or entry.sectors.items n []) place ∙ sym (held_there entry c.args.i c.args.member c.requires.held);
      },
    )
