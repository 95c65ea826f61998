-- The rules on devices alone allow no more than the rules by the table.
use Rattle.std.proofs.Common.{inl, inr, ℕ, List, Some, sym, subst}
use Rattle.sector_model.specs.History.{Bytes, Slots}
use Rattle.superblock.specs.declared.table.Table.{Table}
use Rattle.superblock.specs.Cases.{Case}
use Rattle.superblock.specs.Counted.{Content, IsStale}
use Rattle.superblock.specs.NextTables.{slots_of}
use Rattle.array_io.specs.Believed.DeviceRules.{HasAnother, IsReplacement, IsSameInSet, MayBeFound, Replaced}
use Rattle.array_io.specs.Laws.Law.{AreReplacedStale, AStartIsOneOf}
use Rattle.array_io.specs.Laws.Starts.{BeginsWith, DiffersBeyond, IsFound}

-- a replacement is stale
replacement_stale : (devices : ℕ) (table : Table) (replaced : List Replaced) (slot : ℕ) (content : Content) → AreReplacedStale devices table replaced
    → IsReplacement table.id devices replaced slot content → IsStale devices table slot content
replacement_stale devices table replaced slot content all (inl nothing) = record {
  older = λ place superblock counts. absurd (nothing place superblock counts);
  earlier = λ place superblock counts. absurd (nothing place superblock counts);
}
replacement_stale devices table replaced slot content all (inr was) =
    subst (λ (c : Content). IsStale devices table slot c) (sym was.holds)
    (subst (λ (s : ℕ). IsStale devices table s (Some was.device.disk)) was.own_slot (all was.device was.listed))

is_found : (devices : ℕ) (table : Table) (replaced : List Replaced) (slot : ℕ) (known : List (List Bytes)) (content : Content) (rest : List (List Bytes))
    → AreReplacedStale devices table replaced → MayBeFound table.id devices replaced slot known content rest → IsFound devices table slot known content rest
is_found devices table replaced slot known content rest all (inl none) = inl none
is_found devices table replaced slot known content rest all (inr (inl back)) = inr (inl back)
is_found devices table replaced slot known content rest all (inr (inr (new, same))) =
    inr (inr (replacement_stale devices table replaced slot content all new, same))

begins_with : (devices : ℕ) (table : Table) (replaced : List Replaced) (old new : Case) → AreReplacedStale devices table replaced
    → HasAnother table.id devices (slots_of table) replaced old new → BeginsWith devices table old new
begins_with devices table replaced old new all has = record {
  slot = has.slot;
  of_set = has.of_set;
  content = has.content;
  may_be_out = has.may_be_out;
  image = has.image;
  away = has.away;
  lost = has.lost;
  found = is_found devices table replaced has.slot _ has.content has.away all has.found;
}

differs_beyond : (devices : ℕ) (table : Table) (old new : Slots) → IsSameInSet table.id devices (slots_of table) old new → DiffersBeyond devices table old new
differs_beyond devices table old new same = record { of_set = same.of_set; beyond = same.beyond }

-- the law
pub a_start_is_one_of : AStartIsOneOf
a_start_is_one_of devices table replaced old new all may = record {
  image = may.image;
  differs = differs_beyond devices table old.image may.image may.same;
  begins = elim may.begins [
    | inl same ↦ inl same
    | inr another ↦ inr (begins_with devices table replaced (record { image = may.image; lost = old.lost }) new all another)
  ];
}
