-- What an inspection found is so of the bank as the inspection leaves it, and comes true.
use Rattle.std.proofs.Common.{◌≡◌, inl, inr, ℕ, ◌<◌, ◌≤◌, Bool, true, false, List, Some, None, refl, sym, ◌∙◌, subst, subst₂}
use Rattle.std.specs.Prelude.{slice_index_or}
use Rattle.sector_model.specs.History.{Slots}
use Rattle.sector_model.specs.Readable.{readable}
use Rattle.superblock.specs.declared.table.Table.{Table}
use Rattle.superblock.specs.Cases.{HasNone}
use Rattle.superblock.specs.Counted.{HasIncarnation, IsChosen, IsInFull, IsLive, least_sectors}
use Rattle.superblock.specs.NextTables.{slots_of}
use Rattle.recovery.specs.declared.examination.Examined.{Examined}
use Rattle.recovery.specs.declared.examination.ExaminedSlot.{ExaminedSlot}
use Rattle.recovery.specs.declared.examination.Outlook.{Outlook}
use Rattle.recovery.specs.declared.examination.Outlook.TheVariants as outlook
use Rattle.recovery.specs.declared.examination.Presence.{Presence}
use Rattle.recovery.specs.declared.examination.Presence.TheVariants as presence
use Rattle.recovery.specs.declared.examination.Standing.{Standing}
use Rattle.recovery.specs.declared.examination.Standing.TheVariants as standing
use Rattle.recovery.specs.declared.survey.Out.{Out}
use Rattle.recovery.specs.declared.survey.Out.TheVariants as out
use Rattle.recovery.specs.Examining.{AreExaminedSlots, HasExamined, IsAbsent, IsOlder, IsOfIncarnation, IsOutlook, IsPresence, IsStanding, unexamined}
use Rattle.recovery.specs.Foreseeing.{IsInspectionOf, Foresees}
use Rattle.recovery.specs.Making.{BankView}
use Rattle.recovery.specs.Surveying.{HasGeneration, IsGone, IsNotFull, IsOutOf, IsOwn, IsOwnGeneration, IsThere}
use Rattle.recovery.specs.Unwritten.{NoDeviceFailedIn}
use Rattle.recovery.proofs.AssembledReads.{read_last}
use Rattle.recovery.proofs.AssembledUnwritten.{readable_stays}
use Rattle.recovery.proofs.ExaminedSet.{lasts_by, outlook_still, slots_by}
use Rattle.recovery.proofs.Finding.{Honest}
use Rattle.recovery.proofs.Foreseen.{assembles_as_foreseen}

-- Two views of a bank that show the same devices: as many of them, each up or down, as long as before, and with what it had.
pub record ShowsSame (old new : BankView) : Type 0 where
  pub devices : new.panel.devices ≡ old.panel.devices
  pub down : (slot : ℕ) → new.panel.down slot ≡ old.panel.down slot
  pub sectors : (slot : ℕ) → new.panel.sectors slot ≡ old.panel.sectors slot
  pub image : readable new.history ≡ readable old.history

-- What an inspection finds of the one is so of the other.
module _ (honest : Type 0) (old new : BankView) (table : Table) (same : ShowsSame old new) where
  -- what is said of a number of devices, and of what reads give
  shown : (P : ℕ → Slots → Type 0) → P old.panel.devices (readable old.history) → P new.panel.devices (readable new.history)
  shown P is = subst₂ P (sym same.devices) (sym same.image) is

  presence_shown : (slot : ℕ) (what : Presence) → IsPresence old table slot what → IsPresence new table slot what
  presence_shown slot presence.Absent down = same.down slot ∙ down
  presence_shown slot presence.TooShort (up, short) = (
    same.down slot
        ∙ up,
    subst (λ (n : ℕ). n < least_sectors table.geometry slot) (sym (same.sectors slot)) short,
  )
  presence_shown slot presence.There (up, long) = (same.down slot ∙ up, subst (λ (n : ℕ). least_sectors table.geometry slot ≤ n) (sym (same.sectors slot)) long)

  absent_shown : (slot : ℕ) → IsAbsent old table slot → IsAbsent new table slot
  absent_shown slot (inl absent) = inl (presence_shown slot presence.Absent absent)
  absent_shown slot (inr short) = inr (presence_shown slot presence.TooShort short)

  there_shown : (slot : ℕ) → IsThere honest old table slot → IsThere honest new table slot
  there_shown slot is = record {
    up = same.down slot ∙ is.up;
    long_enough = subst (λ (n : ℕ). least_sectors table.geometry slot ≤ n) (sym (same.sectors slot)) is.long_enough;
    live = λ fair. shown (λ n image. IsLive n table slot (image slot)) (is.live fair);
  }

  gone_shown : (slot : ℕ) → IsGone honest old table slot → IsGone honest new table slot
  gone_shown slot is = record {
    of_set = is.of_set;
    counted = is.counted;
    dead = λ fair. shown (λ n image. ¬ IsLive n table slot (image slot)) (is.dead fair);
  }

  not_full_shown : (slot : ℕ) → IsNotFull honest old table slot → IsNotFull honest new table slot
  not_full_shown slot is = record { of_set = is.of_set; out = λ fair. shown (λ n image. ¬ IsInFull n table slot (image slot)) (is.out fair) }

  older_shown : (slot : ℕ) → IsOlder old table slot → IsOlder new table slot
  older_shown slot is = record {
    generation = is.generation;
    has = shown (λ n image. HasGeneration table.id n slot (image slot) is.generation) is.has;
    below = is.below;
    own = is.own;
    has_own = shown (λ n image. HasIncarnation table.id n slot (image slot) is.own) is.has_own;
    other = is.other;
  }

  incarnation_shown : (slot own : ℕ) → IsOfIncarnation old table slot own → IsOfIncarnation new table slot own
  incarnation_shown slot own is = record {
    has = shown (λ n image. HasIncarnation table.id n slot (image slot) own) is.has;
    generation = shown (λ n image. HasGeneration table.id n slot (image slot) table.generation) is.generation;
  }

  standing_shown : (slot : ℕ) (what : Standing) → IsStanding honest old table slot what → IsStanding honest new table slot what
  standing_shown slot standing.Live (state, there) = (state, there_shown slot there)
  standing_shown slot (standing.Rebuilding position) (state, here, there) = (state, here, there_shown slot there)
  standing_shown slot standing.CalledMissing missing = missing
  standing_shown slot standing.NotThere (gone, absent) = (gone_shown slot gone, absent_shown slot absent)
  standing_shown slot standing.NoSuperblock (gone, there, is) =
      (gone_shown slot gone, presence_shown slot presence.There there, λ fair. shown (λ n image. HasNone table.id n slot (image slot)) (is fair))
  standing_shown slot standing.OlderGeneration (gone, there, is) =
      (gone_shown slot gone, presence_shown slot presence.There there, λ fair. older_shown slot (is fair))
  standing_shown slot standing.LowerIncarnation (gone, there, is) =
      (gone_shown slot gone, presence_shown slot presence.There there, λ fair. let it = is fair in (it.0, incarnation_shown slot it.0 it.1, it.2))
  standing_shown slot standing.HigherIncarnation (gone, there, is) =
      (gone_shown slot gone, presence_shown slot presence.There there, λ fair. let it = is fair in (it.0, incarnation_shown slot it.0 it.1, it.2))

  slots_shown : (slots : List ExaminedSlot) → AreExaminedSlots honest old table slots → AreExaminedSlots honest new table slots
  slots_shown slots are slot within = let is = are slot within in record {
    presence = presence_shown slot _ is.presence;
    generation = λ fair. shown (λ n image. IsOwnGeneration table.id n slot (image slot) (slice_index_or slots slot unexamined).generation) (is.generation fair);
    incarnation = λ fair. shown (λ n image. IsOwn table.id n slot (image slot) (slice_index_or slots slot unexamined).incarnation) (is.incarnation fair);
    standing = standing_shown slot _ is.standing;
  }

  out_shown : (what : Out) → IsOutOf honest old table what → IsOutOf honest new table what
  out_shown out.Nobody is = λ slot within counted. there_shown slot (is slot within counted)
  out_shown (out.One slot) (gone, others) =
      (gone_shown slot gone, λ other within apart. ((others other within apart).0, there_shown other (others other within apart).1))
  out_shown (out.Two first second) (apart, one, two) = (apart, not_full_shown first one, not_full_shown second two)

  outlook_shown : (what : Outlook) → IsOutlook honest old table what → IsOutlook honest new table what
  outlook_shown outlook.TwoLost (first, second, is) = (first, second, out_shown (out.Two first second) is)
  outlook_shown (outlook.WouldMark slot) is = out_shown (out.One slot) is
  outlook_shown outlook.Complete (by, is) = (by, out_shown out.Nobody is)
  outlook_shown (outlook.Missing slot) (by, is) = (by, out_shown out.Nobody is)
  outlook_shown (outlook.Rebuilding slot position) (by, is) = (by, out_shown out.Nobody is)

-- An inspection of a bank found this, and no device failed in it.
module _ (honest still : Type 0) (id : List ℕ) (old new : BankView) (examined : Examined) (fair : honest) (goes_on : still) (is_old : Honest old)
    (is_new : Honest new)
    (stay : NoDeviceFailedIn old.history new.history) (has : HasExamined honest id old new examined) where
  abbrev read : BankView
  read = has.read

  -- what is up when the superblocks were read is up still
  panel_stays : (slot : ℕ) → new.panel.down slot ≡ true → read.panel.down slot ≡ true
  panel_stays slot down = has.from.down slot (is_old.down slot ∙ stay slot (sym (is_new.down slot) ∙ down))

  same_down : (slot : ℕ) → new.panel.down slot ≡ read.panel.down slot
  same_down slot = by_state (new.panel.down slot) (read.panel.down slot) refl refl
    where
      by_state : (now then : Bool) → new.panel.down slot ≡ now → read.panel.down slot ≡ then → now ≡ then
      by_state true then is is' = sym (panel_stays slot is) ∙ is'
      by_state false true is is' = sym is ∙ has.until.down slot is'
      by_state false false is is' = refl

  same_shown : ShowsSame read new
  same_shown = record {
    devices = has.until.devices;
    down = same_down;
    sectors = has.until.sectors;
    image = readable_stays read.history new.history (read_last (has.reads_until fair))
        (λ slot down. (read_last (has.reads_from fair)).stays_down slot (stay slot down));
  }

  pub is_so_now : IsInspectionOf still id new examined
  is_so_now = record {
    of_id = has.of_id;
    has_slots = subst (λ (n : ℕ). slots_of examined.table ≤ n) (sym has.until.devices) has.has_slots;
    chosen = shown honest read new examined.table same_shown (λ n image. IsChosen id n image examined.table) (has.chosen fair);
    slots = slots_by still honest (λ s. fair) new examined.table examined.slots
        (slots_shown honest read new examined.table same_shown examined.slots has.slots);
    outlook = outlook_still still honest (λ s. fair) new examined.table examined.outlook
        (outlook_shown honest read new examined.table same_shown examined.outlook has.outlook);
    last = lasts_by still honest (λ s. fair) new examined.table examined.last has.last;
  }

pub foresees : (honest still : Type 0) (old new : BankView) → (honest → Honest old) → (still → Honest new) → Foresees honest still old new
foresees honest still old new is_old is_new id None fair goes_on inspections stay = λ outcome unwritten. unwritten.none goes_on (inspections.none fair refl)
foresees honest still old new is_old is_new id (Some examined) fair goes_on inspections stay = (
  now,
  λ outcome assembles unwritten none_failed.
      assembles_as_foreseen still new id outcome goes_on assembles unwritten examined.table now.chosen examined.outlook now.outlook none_failed,
)
  where
    now : IsInspectionOf still id new examined
    now = is_so_now honest still id old new examined fair goes_on (is_old fair) (is_new goes_on) stay (inspections.found examined refl)
