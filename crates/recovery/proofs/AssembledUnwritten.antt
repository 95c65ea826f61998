-- For what assembling is refused before it writes.
use Rattle.std.proofs.Common.{◌≡◌, inl, inr, ℕ, ◌%◌, ◌<◌, ◌≤◌, Bool, true, false, List, refl, sym, ◌∙◌, ap, subst, arith}
use Rattle.std.proofs.Math.Path.{fun_ext}
use Rattle.sector_model.specs.declared.refusal.Refusal.{Refusal}
use Rattle.sector_model.specs.declared.refusal.Refusal.TheVariants.{NoSet, TwoLost, Worn}
use Rattle.sector_model.specs.declared.calls.TheConstants.{GREATEST_COUNT}
use Rattle.sector_model.specs.History.{History, Slots, disk_of, is_down, sector_of}
use Rattle.sector_model.specs.Readable.{readable}
use Rattle.sector_model.specs.Reads.{HasRead}
use Rattle.sector_model.proofs.Readable.{readable_down}
use Rattle.layout_map.specs.declared.sizes.TheConstants.{SUPERBLOCK_PLACES}
use Rattle.superblock.specs.declared.table.Superblock.{Superblock}
use Rattle.superblock.specs.declared.table.Table.{Table}
use Rattle.superblock.specs.Cases.{HasNone}
use Rattle.superblock.specs.Counted.{Counts, IsChosen, IsInFull}
use Rattle.superblock.specs.NextTables.{slots_of}
use Rattle.array_io.specs.Steps.CallSteps.{StaysDown}
use Rattle.array_io.proofs.Images.Spellings.{Spellings}
use Rattle.recovery.specs.Making.{BankView, IsCarried, Opened, Outcome, Returned, bank_after}
use Rattle.array_io.specs.Believed.Views.{ArrayView}
use Rattle.recovery.specs.Unwritten.{HasTwoLost, IsRefusedFor, NoDeviceFailedIn, RefusesUnwritten}
use Rattle.recovery.proofs.AssembledAnswer.{not_both}
use Rattle.recovery.proofs.AssembledCause.{carried_then}
use Rattle.recovery.proofs.AssembledReads.{IsRead, read_last, readable_read}
use Rattle.recovery.proofs.AssembledSince.{IsOneOut}

between : (a b : ℕ) → a ≤ b → b ≤ a → a ≡ b
between a b most least = omega (arith, most, least)

-- an image chooses one table at most
pub chosen_once : Spellings → (id : List ℕ) (devices : ℕ) (image : Slots) (one other : Table) → IsChosen id devices image one → IsChosen id devices image other
    → one ≡ other
chosen_once spellings id devices image one other a b = sym a.carried ∙ ap (λ (s : Superblock). s.table) same ∙ b.carried
  where
    as_new : a.best.table.generation ≡ b.best.table.generation
    as_new = between a.best.table.generation b.best.table.generation
        (subst (λ (t : Table). a.best.table.generation ≤ t.generation) (sym b.carried) (b.greatest a.slot a.place a.best a.counted))
        (subst (λ (t : Table). b.best.table.generation ≤ t.generation) (sym a.carried) (a.greatest b.slot b.place b.best b.counted))

    same_slot : a.slot ≡ b.slot
    same_slot = between a.slot b.slot
        (a.first b.slot b.place b.best b.counted (sym as_new ∙ ap (λ (t : Table). t.generation) a.carried))
        (b.first a.slot a.place a.best a.counted (as_new ∙ ap (λ (t : Table). t.generation) b.carried))

    same_place : a.place ≡ b.place
    same_place = sym a.counted.own_place ∙ ap (λ (n : ℕ). n % SUPERBLOCK_PLACES) as_new ∙ b.counted.own_place

    same : a.best ≡ b.best
    same = spellings.one_superblock a.best b.best
        (sym a.counted.stands
        ∙ ap (λ (k : ℕ). sector_of (disk_of (image k)) a.place) same_slot
        ∙ ap (λ (k : ℕ). sector_of (disk_of (image b.slot)) k) same_place
        ∙ b.counted.stands)

-- where devices were read and none failed, they have what they had
pub readable_stays : (old mid : History) → IsRead old mid → NoDeviceFailedIn old mid → readable mid ≡ readable old
readable_stays old mid is stay = fun_ext (λ d. by_state d (is_down mid d) refl)
  where
    by_state : (d : ℕ) (b : Bool) → is_down mid d ≡ b → readable mid d ≡ readable old d
    by_state d true down = readable_down mid d down ∙ sym (readable_down old d (stay d down))
    by_state d false up = readable_read old mid is d up

-- a table that reads choose is carried by a superblock that counted before
pub not_none : Spellings → (id : List ℕ) (devices : ℕ) (old mid : History) (table : Table) → HasRead old mid → IsChosen id devices (readable mid) table
    → ((slot : ℕ) → HasNone id devices slot (readable old slot)) → ⊥
not_none spellings id devices old mid table read chosen none =
    let it : IsCarried id devices (readable old) table = carried_then spellings id devices old mid table (read_last read) chosen in
    none it.slot it.place it.superblock it.counted

-- nothing was written, and no further call can be counted
pub worn_unwritten : (reason : Refusal) (old bank : BankView) → GREATEST_COUNT ≤ bank.panel.calls → HasRead old.history bank.history
    → IsRefusedFor reason old (Returned bank Worn)
worn_unwritten reason old bank calls read = record { bank = bank; refusal = Worn; is = refl; why = inr (refl, calls); reads = read }

-- nothing was written, and this is the reason
pub refused_unwritten : (reason : Refusal) (old bank : BankView) → HasRead old.history bank.history → IsRefusedFor reason old (Returned bank reason)
refused_unwritten reason old bank read = record { bank = bank; refusal = reason; is = refl; why = inl refl; reads = read }

-- no superblock counted in what reads gave at the end
pub none_unwritten : (honest : Type 0) (id : List ℕ) (old bank : BankView) → (honest → HasRead old.history bank.history)
    → (honest → (slot : ℕ) → HasNone id old.panel.devices slot (readable bank.history slot)) → RefusesUnwritten honest id old (Returned bank NoSet)
none_unwritten honest id old bank read none = record {
  two_lost = λ fair two stay. absurd (
      none fair two.chosen.slot two.chosen.place two.chosen.best
      (subst (λ (image : Slots). Counts id old.panel.devices two.chosen.slot (image two.chosen.slot) two.chosen.place two.chosen.best)
      (sym (readable_stays old.history bank.history (read_last (read fair)) stay)) two.chosen.counted));
  none = λ fair is. refused_unwritten NoSet old bank (read fair);
}

-- two slots were out when it began, by the table that was surveyed
pub two_unwritten : Spellings → (honest : Type 0) (id : List ℕ) (old bank : BankView) (table : Table) → (honest → HasRead old.history bank.history)
    → (honest → IsChosen id old.panel.devices (readable bank.history) table) → RefusesUnwritten honest id old (Returned bank TwoLost)
two_unwritten spellings honest id old bank table read chosen = record {
  two_lost = λ fair two stay. refused_unwritten TwoLost old bank (read fair);
  none = λ fair none. absurd (not_none spellings id old.panel.devices old.history bank.history table (read fair) (chosen fair) none);
}

-- no further call could be counted before it wrote
pub worn_first : (honest : Type 0) (id : List ℕ) (old bank : BankView) → GREATEST_COUNT ≤ bank.panel.calls → (honest → HasRead old.history bank.history)
    → RefusesUnwritten honest id old (Returned bank Worn)
worn_first honest id old bank calls read = record {
  two_lost = λ fair two stay. worn_unwritten TwoLost old bank calls (read fair);
  none = λ fair none. worn_unwritten NoSet old bank calls (read fair);
}

-- By the survey one slot is out at most, and what was down stays so: neither of the two reasons was there.
pub one_is_out : Spellings → (honest : Type 0) (id : List ℕ) (old : BankView) (mid : History) (table : Table) (outcome : Outcome)
    → (honest → HasRead old.history mid)
    → (honest → IsChosen id old.panel.devices (readable mid) table) → (honest → IsOneOut old.panel.devices table mid)
    → (honest → StaysDown mid (bank_after outcome).history) → RefusesUnwritten honest id old outcome
one_is_out spellings honest id old mid table outcome read chosen one stays = record {
  two_lost = λ fair two stay. absurd (not_two fair two (λ device down. stay device (stays fair device down)));
  none = λ fair none. absurd (not_none spellings id old.panel.devices old.history mid table (read fair) (chosen fair) none);
}
  where
    not_two : honest → HasTwoLost honest id old → NoDeviceFailedIn old.history mid → ⊥
    not_two fair two stay =
        two.lost.0 (one fair two.first two.second (within two.first two.lost.1.of_set) (within two.second two.lost.2.of_set)
        (out two.first (two.lost.1.out fair))
        (out two.second (two.lost.2.out fair)))
      where
        stood : readable mid ≡ readable old.history
        stood = readable_stays old.history mid (read_last (read fair)) stay

        same : two.table ≡ table
        same = chosen_once spellings id old.panel.devices (readable mid) two.table table
            (subst (λ (image : Slots). IsChosen id old.panel.devices image two.table) (sym stood) two.chosen) (chosen fair)

        within : (slot : ℕ) → slot < slots_of two.table → slot < slots_of table
        within slot = subst (λ (t : Table). slot < slots_of t) same

        out : (slot : ℕ) → ¬ IsInFull old.panel.devices two.table slot (readable old.history slot) → ¬ IsInFull old.panel.devices table slot (readable mid slot)
        out slot not_full = subst (λ (image : Slots). ¬ IsInFull old.panel.devices table slot (image slot)) (sym stood)
            (subst (λ (t : Table). ¬ IsInFull old.panel.devices t slot (readable old.history slot)) same not_full)

-- what an end later comes to: an array that stood is none that was refused
pub unwritten_later : (honest : Type 0) (id : List ℕ) (old : BankView) (mid : ArrayView) (outcome : Outcome) → RefusesUnwritten honest id old (Opened mid)
    → (honest → StaysDown mid.history (bank_after outcome).history) → RefusesUnwritten honest id old outcome
unwritten_later honest id old mid outcome is stays = record {
  two_lost = λ fair two stay. let refused = is.two_lost fair two (λ device down. stay device (stays fair device down)) in absurd
      (not_both mid refused.bank refused.refusal refused.is);
  none = λ fair none. let refused = is.none fair none in absurd (not_both mid refused.bank refused.refusal refused.is);
}
