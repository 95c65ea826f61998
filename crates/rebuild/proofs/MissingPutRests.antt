-- An array is settled again, on the same list, when the device of a missing slot was written and nothing is pending.
use Rattle.std.proofs.Common.{◌≡◌, ◌≢◌, inl, inr, ℕ, ◌+◌, ◌<◌, Bool, true, false, cond, List, Some}
use Rattle.std.proofs.Common.{[], ◌∷◌, None, refl, sym, ◌∙◌, ap, subst}
use Rattle.sector_model.specs.History.{Bytes, History, disk_of, is_down, sector_of, seen}
use Rattle.sector_model.specs.Readable.{NothingPending, readable}
use Rattle.layout_map.specs.declared.sizes.TheConstants.{FIRST_ROW}
use Rattle.superblock.specs.declared.table.Table.{Table}
use Rattle.superblock.specs.Cases.{IsLostAfter, Lost, with_slot}
use Rattle.superblock.specs.Counted.{Content, IsLive}
use Rattle.superblock.specs.Losses.{OthersAreUp}
use Rattle.superblock.specs.NextTables.{slots_of}
use Rattle.superblock.specs.Tables.{state_at}
use Rattle.degraded.proofs.Values.{AgreeInRow, logical_list-same, sound-same, value-agree}
use Rattle.array_io.specs.Believed.Holds.{row_count}
use Rattle.array_io.specs.Believed.Settled.{IsSettled, rows_by, trusts}
use Rattle.array_io.proofs.Laws.Beginning.{lost_at_rest}
use Rattle.array_io.proofs.Laws.Fresh.{in_sync_not_missing}
use Rattle.array_io.proofs.Images.LossBefore.{holds_by_table}
use Rattle.array_io.proofs.Images.Spellings.{Spellings}
use Rattle.rebuild.proofs.MissingPut.{IsMissingPut, RestsWithout, missing_by, missing_number}

-- The other devices are up or down as they were.
abbrev pub OthersStay : (slot : ℕ) (old h : History) → Type 0
OthersStay slot old h = (device : ℕ) → device ≢ slot → is_down h device ≡ is_down old device

module _ (spellings : Spellings) (devices : ℕ) (table : Table) (number slot : ℕ) (old : History) (one : Lost)
    (V : List Bytes)
    (rests : RestsWithout devices table number slot old one V) (h : History)
    (is : IsMissingPut (slots_of table) slot old h) (stay : OthersStay slot old h) where
  -- what reads give of another device is what they gave
  same_read : (d : ℕ) → d ≢ slot → readable old d ≡ readable h d
  same_read d apart =
      ap (λ (b : Bool). cond b None (Some (seen old d))) (sym (stay d apart))
      ∙ ap (λ (l : List Bytes). cond (is_down h d) None (Some l)) (sym (is.others_seen d apart))

  others_up : OthersAreUp (slots_of table) h slot
  others_up other within apart =
      stay other apart
      ∙ (lost_at_rest spellings devices table number old (Some one) V rests.settled).2 other within
      (λ same. apart (same ∙ rests.is_lost))

  -- a member whose own sectors count is another
  trusted_apart : (row member : ℕ) → trusts (state_at table.states member) row table.position ≡ true → member ≢ slot
  trusted_apart row member trusted same =
      differ (sym (ap (λ (k : ℕ). trusts (state_at table.states k) row table.position) same
      ∙ ap (λ s. trusts s row table.position) rests.missing) ∙ trusted)
    where
      differ : false ≡ true → ⊥
      differ e = cc

  agree : (row : ℕ) → AgreeInRow row (rows_by table (readable h)) (rows_by table (readable old))
  agree row = record {
    width = refl;
    entries = λ member within. refl;
    trusts = λ member within. refl;
    owns = λ member within none trusted. ap (λ (c : Content). sector_of (disk_of c) (FIRST_ROW + row))
        (sym (same_read member (trusted_apart row member trusted)));
  }

  pub missing_settled : NothingPending h → IsSettled devices table number h (Some one) V
  missing_settled pending = record {
    nothing_pending = pending;
    holds = λ image may. holds_by_table table devices table (V ∷ []) (record { image = image; lost = Some one })
        (missing_by spellings devices table number slot old one V rests h is others_up image may);
    there = λ d of_set counted. subst (IsLive devices table d)
        (same_read d (λ same. counted (ap (state_at table.states) same ∙ rests.missing)))
        (rests.settled.there d of_set counted);
    listed = logical_list-same table.geometry (rows_by table (readable h)) (rows_by table (readable old))
        (λ row member below within. value-agree row member (rows_by table (readable h)) (rows_by table (readable old))
        (agree row) within) ∙ rests.settled.listed;
    sound = sound-same (row_count table) (rows_by table (readable h)) (rows_by table (readable old)) refl
        (λ row member below within. value-agree row member (rows_by table (readable h)) (rows_by table (readable old))
        (agree row) within) rests.settled.sound;
    chosen = record {
      whole = λ image may.
          (missing_by spellings devices table number slot old one V rests h is others_up image may).whole.chosen;
      weakened = λ image d content may out stands.
          ((missing_by spellings devices table number slot old one V rests h is others_up image may).weakened
          d content out stands).chosen;
    };
    numbered = record {
      whole = λ image may.
          missing_number spellings devices table number slot old one V rests h is others_up image may image (inl refl);
      weakened = λ image d content may out stands.
          missing_number spellings devices table number slot old one V rests h is others_up image may
          (with_slot image d content)
          (inr record { slot = d; content = content; out = out; stands = stands; is = refl });
    };
    none_back = rests.settled.none_back;
    lost_slot = rests.settled.lost_slot;
  }

  -- and the same slot is lost
  pub missing_is_lost : IsLostAfter (Some one) table (Some one)
  missing_is_lost = inr (
    record {
      of_set = subst (λ (k : ℕ). k < slots_of table) (sym rests.is_lost) rests.of_set;
      out = λ in_sync. in_sync_not_missing (sym in_sync ∙ ap (state_at table.states) rests.is_lost ∙ rests.missing);
    },
    refl,
  )
