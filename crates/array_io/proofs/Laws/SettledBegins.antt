-- The run that begins with a set that was just made is settled on zeros.
use Rattle.std.proofs.Common.{◌≡◌, inl, inr, ℕ, ◌+◌, ◌<◌, [], ◌∷◌, Option, None, refl, sym, ◌∙◌, ap, subst, arith}
use Rattle.std.proofs.lemmas.Bool.{cases_eq}
use Rattle.sector_model.specs.History.{Began, Slots}
use Rattle.sector_model.proofs.Readable.{began_left, none_pending_began, readable_began}
use Rattle.superblock.specs.declared.state.State.{State}
use Rattle.superblock.specs.declared.table.Table.{Table}
use Rattle.superblock.specs.Cases.{MayStand, with_slot}
use Rattle.superblock.specs.Counted.{Content, IsChosen, IsLive}
use Rattle.superblock.specs.Losses.{InEachImage}
use Rattle.stripe_journal.specs.declared.seal.Seal.{Seal}
use Rattle.stripe_journal.specs.LastEntry.{IsLastSealed, number_of}
use Rattle.degraded.specs.RowValue.{AreSound, logical_list}
use Rattle.degraded.proofs.Values.{value-own}
use Rattle.array_io.specs.Laws.Core.{IsKnown}
use Rattle.array_io.specs.Believed.Fresh.{IsFresh, zeros_of}
use Rattle.array_io.specs.Laws.RunLaw.{FreshSetHolds, SettledBegins}
use Rattle.array_io.specs.Believed.Holds.{Holds, row_count}
use Rattle.array_io.specs.Believed.Settled.{HaveNumber, IsLostSlot, rows_by, trusts}
use Rattle.array_io.proofs.Images.Choice.{chosen_with}
use Rattle.array_io.proofs.Images.Counting.{none_is_out, stale_is_out}
use Rattle.array_io.proofs.Laws.Fresh.{AreOwn, fresh_chosen, fresh_chosen_without, fresh_live, no_device, no_last_seal, zeros_listed, zeros_sound}
use Rattle.array_io.proofs.Laws.FromCore.{none_known, stale_known}
use Rattle.array_io.proofs.Images.Put.{put_elsewhere, put_there}
use Rattle.array_io.proofs.Images.Spellings.{Spellings}

-- the rows as the array reads them are the members' own sectors, and zero
pub own_rows : (devices : ℕ) (table : Table) (image : Slots) → IsFresh devices table image → AreOwn table image (rows_by table image)
own_rows devices table image fresh = record {
  width = refl;
  zero_values = λ row member below within.
      let of_set : member < table.geometry.members + 2 = omega (arith, within) in
      value-own (rows_by table image) row member refl
      (ap (λ (s : State). trusts s row table.position) (fresh.in_sync member of_set))
      ∙ fresh.cleared_rows member row within below;
}

-- what may stand in a slot of a set with none lost is not live, and says nothing that the table doesn't know
pub record IsNothing (devices : ℕ) (table : Table) (slot : ℕ) (content : Content) : Type 0 where
  pub known : IsKnown devices table slot content
  pub out : ¬ IsLive devices table slot content

pub stands_for_nothing : Spellings → (devices : ℕ) (table : Table) (slot : ℕ) (content : Content) → MayStand devices table None slot content
    → IsNothing devices table slot content
stands_for_nothing spellings devices table slot content (inl none) = subst (λ (c : Content). IsNothing devices table slot c) (sym none)
    record { known = none_known spellings devices table slot; out = none_is_out spellings devices table slot }
stands_for_nothing spellings devices table slot content (inr (inl stale)) =
    record { known = stale_known devices table slot content stale; out = stale_is_out devices table slot content stale }
stands_for_nothing spellings devices table slot content (inr (inr away)) = absurd (no_device away.disk away.listed)

-- each image that a crash may leave when the run begins is the one that it began with
each_began : (devices : ℕ) (table : Table) (image : Slots) (P : Slots → Type 0) → P image
    → ((slot : ℕ) (content : Content) → MayStand devices table None slot content → P (with_slot image slot content))
    → InEachImage devices table (Began image) None P
each_began devices table image P whole weakened = record {
  whole = λ left may. subst P (sym (began_left image left may)) whole;
  weakened = λ left slot content may out stands. subst (λ (i : Slots). P (with_slot i slot content)) (sym (began_left image left may))
      (weakened slot content stands);
}

pub no_number : (last : Option Seal) → last ≡ None → number_of last ≡ 0
no_number last none = ap number_of none

-- a live journal of an image with something in one slot that is not live is one of the image, with the same in it
pub number_with : Spellings → (devices : ℕ) (table : Table) (image : Slots) → IsFresh devices table image → (slot : ℕ) (content : Content)
    → ¬ IsLive devices table slot content → HaveNumber devices table 0 (with_slot image slot content)
number_with spellings devices table image fresh slot content out journal last live is = elim (cases_eq journal slot) [
  | inl same ↦ absurd (out (subst (IsLive devices table slot) (put_there image slot content)
      (subst (λ (k : ℕ). IsLive devices table k (with_slot image slot content k)) same live.live)))
  | inr apart ↦ let stays = put_elsewhere image slot content journal apart in
      no_number last (no_last_seal spellings devices table image fresh journal last
      record { beyond_members = live.beyond_members; of_set = live.of_set; live = subst (IsLive devices table journal) stays live.live }
      (subst (λ (c : Content). IsLastSealed table.id table.geometry c last) stays is))
]

pub none_lost : (devices : ℕ) (table : Table) (image : Slots) → IsFresh devices table image → IsLostSlot table None
none_lost devices table image fresh = record {
  none = λ complete. refl;
  out = λ slot is. absurd (is.out (fresh.in_sync slot is.of_set));
}

-- the law
pub settled_begins : Spellings → FreshSetHolds → SettledBegins
settled_begins spellings fresh_set_holds devices table image fresh = record {
  nothing_pending = none_pending_began image;
  holds = λ left may. subst (λ (i : Slots). Holds table devices record { image = i; lost = None } (zeros_of table.geometry ∷ []))
      (sym (began_left image left may)) (fresh_set_holds devices table image fresh);
  there = λ slot of_set not_missing. subst (λ (i : Slots). IsLive devices table slot (i slot)) (sym (readable_began image))
      (fresh_live spellings devices table image fresh slot of_set);
  listed = subst (λ (i : Slots). logical_list table.geometry (rows_by table i) ≡ zeros_of table.geometry) (sym (readable_began image))
      (zeros_listed table image (rows_by table image) (own_rows devices table image fresh));
  sound = subst (λ (i : Slots). AreSound (rows_by table i) (row_count table)) (sym (readable_began image))
      (zeros_sound table image (rows_by table image) (own_rows devices table image fresh));
  chosen = each_began devices table image (λ i. IsChosen table.id devices i table) (fresh_chosen spellings devices table image fresh)
      (λ slot content stands. chosen_with spellings devices table image slot content (fresh_chosen_without spellings devices table image fresh slot)
      (stands_for_nothing spellings devices table slot content stands).known);
  numbered = each_began devices table image (HaveNumber devices table 0)
      (λ journal last live is. no_number last (no_last_seal spellings devices table image fresh journal last live is))
      (λ slot content stands. number_with spellings devices table image fresh slot content
      (stands_for_nothing spellings devices table slot content stands).out);
  none_back = tt;
  lost_slot = none_lost devices table image fresh;
}
