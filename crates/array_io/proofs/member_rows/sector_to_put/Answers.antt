use Rattle.std.proofs.Common.{◌≡◌, ℕ, Bool, true, false, List, Option, Some, None, refl, ap, sym, ◌∙◌, arith}
use Rattle.std.specs.Prelude.{◌&&◌, IfSome}
use Rattle.sector_model.specs.History.{Bytes}
use Rattle.superblock.specs.Tables.{state_at}
use Rattle.stripe_journal.specs.Entries.{holds_sector, mask_holds, numbers_of, row_mask, sector_of_mask, sector_of_row}
use Rattle.stripe_journal.specs.Seals.{row_at}
use Rattle.stripe_journal.proofs.Entries.{row_held_member}
use Rattle.array_io.specs.Believed.Settled.{trusts}
use Rattle.array_io.proofs.member_rows.sector_to_put.Goals as goal

-- what holds of a value, where there is one, and what follows of it
some_more : {A : Type 0} {P Q : A → Type 0} (option : Option A) → IfSome option P → ((value : A) → P value → Q value) → IfSome option Q
some_more (Some value) is more = more value is
some_more None is more = is

both : (held counts : Bool) → held ≡ true → counts ≡ true → (held && counts) ≡ true
both true true is also = refl
both true false is also = absurd (cc)
both false counts is also = absurd (cc)

pub returns-then-counts_on-clause-some : goal.returns-then-counts_on-clause-some
returns-then-counts_on-clause-some c =
    let entry = c.args.entry.now in
    let table = c.args.table.now in
    let row : c.from.result ≡ row_at (numbers_of entry) c.args.i = c.from.ensures ∙ c.row.ensures in
    let counts : trusts (state_at table.states c.args.member) (row_at (numbers_of entry) c.args.i) table.position ≡ true =
    ap (λ (r : ℕ). trusts (state_at table.states c.args.member) r table.position) (sym row) ∙ sym c.counts_on.ensures ∙ c.if-counts_on.true in
    some_more c.held.result c.held.ensures.some (λ sector is.
    let held : holds_sector entry c.args.i c.args.member ≡ true = ap (λ (mask : ℕ). mask_holds mask c.args.member) (sym c.view.ensures.mask) ∙ is.0 in (
      both (holds_sector entry c.args.i c.args.member) _ held counts,
      is.1 ∙ ap (λ (mask : ℕ). sector_of_mask mask (sector_of_row mask c.view.result.sectors.now c.args.member)) c.view.ensures.mask
          ∙ ap (λ (values : List Bytes). sector_of_mask (row_mask entry c.args.i) (sector_of_row (row_mask entry c.args.i) values c.args.member))
          c.view.ensures.sectors
          ∙ row_held_member entry c.args.i c.args.member (omega (arith, c.requires.member, table.geometry.limits.members_most)) held,
    ))
