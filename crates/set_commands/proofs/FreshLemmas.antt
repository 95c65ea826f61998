-- A set that was just made in memory, and a script over it.
use Rattle.std.proofs.Common.{◌≡◌, ◌≢◌, ◌⊎◌, inl, inr, ℕ, ◌+◌, ◌≤◌, List, [], ◌∷◌, length, map, replicate, Option, Some, None, Result, Ok, Err, is_none, refl}
use Rattle.std.proofs.Common.{sym, ap, subst, subst₂, ◌∙◌, arith}
use Rattle.std.specs.Prelude.{IfErr, OnOk, cond, is_ok}
use Rattle.std.proofs.Props.{props}
use Rattle.std.proofs.Math.Logic.{∥∥₁_elim, ∥∥₁_map}
use Rattle.std.proofs.lemmas.Bool.{true≢false}
use Rattle.sector_model.specs.declared.refusal.Refusal.{Refusal}
use Rattle.sector_model.specs.declared.refusal.Refusal.TheVariants.{BadGeometry, BadTable, Memory, NotUsable, ReadFault, TwoLost, Worn, WriteFault}
use Rattle.sector_model.specs.Bank.{Panel}
use Rattle.sector_model.specs.History.{Began, Bytes, History, SlotMayHold, Slots, disk_of, sector_of}
use Rattle.sector_model.specs.Memory.{Disk, sectors_in, slots_of}
use Rattle.sector_model.proofs.Copies.{slots_past}
use Rattle.layout_map.specs.declared.format.Format.{Format}
use Rattle.layout_map.specs.declared.format.Format.TheVariants.{One}
use Rattle.layout_map.specs.declared.geometry.Geometry.{Geometry}
use Rattle.layout_map.specs.Placement.{extent_blocks, extents_of, first_extent}
use Rattle.superblock.specs.Cases.{HasNone}
use Rattle.superblock.specs.Counted.{Content}
use Rattle.superblock.specs.Spelling.{superblock_sector}
use Rattle.superblock.proofs.Spelled.{length-superblock_sector}
use Rattle.array_io.specs.Believed.Fresh.{zeros_of}
use Rattle.array_io.specs.Believed.Views.{ArrayView, EndsIt, RestsOn}
use Rattle.recovery.specs.Making as recovery
use Rattle.recovery.specs.Making.{BankView, IsNoMake, IsQuietBeyond, Makes, bank_view}
use Rattle.volume_table.specs.Opening.{IsNoOpening, Opened, Opens, Returned}
use Rattle.volume_table.specs.Shows.{Shows}
use Rattle.volume_table.specs.Volumes.{no_volumes}
use Rattle.volume_table.specs.Stands.{IsSettledAfter, StoreView}
use Rattle.volume_table.proofs.FreshLemmas.{fresh_set_shows_none}
use Rattle.set_commands.specs.Fresh.{HasNoVolumes, IsFreshEnd, IsFreshRefusal, IsMadeFresh, RunsFresh, fresh_devices, fresh_extents, fresh_id, zero_device}
use Rattle.set_commands.specs.Run.{HasRun, IsScriptRefusal, Streams}
use Rattle.set_commands.specs.ScriptLaw.{EndsSettled, Runs}
use Rattle.set_commands.specs.Serving.{IsEarly, IsEnd}
use Rattle.set_commands.proofs.ScriptLaws.{script_keeps_volumes}
use Rattle.extents.specs.declared.extent_layout.ExtentLayout.{ExtentLayout}
use Rattle.extents.specs.SetExtents.{extents_in}
use Rattle.extents.proofs.Same.{same_layout}

-- so many sectors of zeros
abbrev pub zeros : ℕ → List Bytes
zeros count = replicate count (replicate 512 0)

-- ---- a bank in memory has nothing after its slots

-- no superblock counts where there is no device
counts_nowhere : (id : List ℕ) (devices slot : ℕ) (content : Content) → content ≡ None → HasNone id devices slot content
counts_nowhere id devices slot content none place superblock counts =
    let long : length (superblock_sector superblock) ≡ 512 = length-superblock_sector superblock in
    omega (arith, ap length (sym counts.stands), nothing place, long)
  where
    nothing : (place : ℕ) → length (sector_of (disk_of content) place) ≡ 0
    nothing place = ap (λ (c : Content). length (sector_of (disk_of c) place)) none

-- a slot that began without a device has none
stays_empty : (start : Slots) (slot : ℕ) (content : Content) → start slot ≡ None → SlotMayHold (Began start) slot content → content ≡ None
stays_empty start slot None none may = refl
stays_empty start slot (Some disk) none may = absurd (may.0 none)

pub quiet_beyond : (id : List ℕ) (panel : Panel) (history : History) (slots : List (Option Disk)) → history ≡ Began (slots_of slots) → length slots ≤ 5
    → IsQuietBeyond id 5 (bank_view panel history)
quiet_beyond id panel history slots began five = subst (λ (h : History). IsQuietBeyond id 5 (bank_view panel h)) (sym began) record {
  one_value = λ device at first second beyond up. absurd (true≢false (sym (ap is_none (slots_past slots device (omega (arith, five, beyond)))) ∙ up));
  nothing = λ image slot may beyond. counts_nowhere id panel.devices slot (image slot)
      (stays_empty (slots_of slots) slot (image slot) (slots_past slots slot (omega (arith, five, beyond))) (may slot));
}

-- what stands in five slots, by their devices
pub fresh_slots : (a b c d e : Disk) (slots : List (Option Disk)) → slots ≡ Some a ∷ Some b ∷ Some c ∷ Some d ∷ Some e ∷ [] → a.items ≡ zeros 264
    → b.items ≡ zeros 264 → c.items ≡ zeros 264
    → d.items ≡ zeros 520 → e.items ≡ zeros 520 → map sectors_in slots ≡ fresh_devices
fresh_slots a b c d e slots is first second third fourth fifth =
    ap (map sectors_in) is
    ∙ ap (λ (l : List Bytes). Some l ∷ Some b.items ∷ Some c.items ∷ Some d.items ∷ Some e.items ∷ []) first
    ∙ ap (λ (l : List Bytes). zero_device 264 ∷ Some l ∷ Some c.items ∷ Some d.items ∷ Some e.items ∷ []) second
    ∙ ap (λ (l : List Bytes). zero_device 264 ∷ zero_device 264 ∷ Some l ∷ Some d.items ∷ Some e.items ∷ []) third
    ∙ ap (λ (l : List Bytes). zero_device 264 ∷ zero_device 264 ∷ zero_device 264 ∷ Some l ∷ Some e.items ∷ []) fourth
    ∙ ap (λ (l : List Bytes). zero_device 264 ∷ zero_device 264 ∷ zero_device 264 ∷ zero_device 520 ∷ Some l ∷ []) fifth

-- ---- the set is made

pub made_fresh : (id : List ℕ) (geometry : Geometry) (bank : BankView) (array : ArrayView) → id ≡ fresh_id → geometry.format ≡ One → geometry.members ≡ 3
    → geometry.chunk ≡ 8
    → geometry.stripes ≡ 32
    → IsQuietBeyond id 5 bank → Makes (Unit {0}) id geometry bank (recovery.Opened array) → IsMadeFresh array
made_fresh id geometry bank array is_id one members chunk stripes quiet makes = record {
  of_id = (makes.first array refl).of_id ∙ is_id;
  of_format_one = ap (λ (g : Geometry). g.format) same ∙ one;
  members = ap (λ (g : Geometry). g.members) same ∙ members;
  chunk = ap (λ (g : Geometry). g.chunk) same ∙ chunk;
  stripes = ap (λ (g : Geometry). g.stripes) same ∙ stripes;
  rests = subst (λ (g : Geometry). RestsOn array None (zeros_of g)) (sym same)
      (makes.rests tt (subst (λ (slots : ℕ). IsQuietBeyond id slots bank) (five geometry.members members) quiet) array refl);
}
  where
    same : array.table.geometry ≡ geometry
    same = (makes.first array refl).of_geometry

    five : (members : ℕ) → members ≡ 3 → 5 ≡ members + 2
    five members is = omega (arith, is)

-- the bank has enough slots, so that it is refused for two reasons alone
make_refused_for : (geometry : Geometry) (panel : Panel) (refusal : Refusal) → geometry.members ≡ 3 → panel.devices ≡ 5
    → IsNoMake geometry panel refusal → IsFreshRefusal refusal
make_refused_for geometry panel BadGeometry members five few = absurd (omega (arith, members, five, few))
make_refused_for geometry panel NotUsable members five why = inr (inl refl)
make_refused_for geometry panel Worn members five why = inr (inr tt)
make_refused_for geometry panel refusal members five why = absurd why

pub make_refused : (id : List ℕ) (geometry : Geometry) (bank back : BankView) (refusal : Refusal) → geometry.members ≡ 3
    → bank.panel.devices ≡ 5
    → Makes (Unit {0}) id geometry bank (recovery.Returned back refusal) → IsFreshRefusal refusal
make_refused id geometry bank back refusal members five makes =
    make_refused_for geometry back.panel refusal members (makes.later.devices ∙ five) (makes.cause back refusal refl)

-- ---- its store is opened

-- the number of extents of these sizes
count_is : (format : Format) (members chunk stripes : ℕ) → format ≡ One → members ≡ 3 → chunk ≡ 8 → stripes ≡ 32
    → extents_of format members chunk stripes ≡ 7
count_is format members chunk stripes one three eight more =
    ap (λ (f : Format). extents_of f members chunk stripes) one ∙ ap (λ (n : ℕ). extents_of One n chunk stripes) three
    ∙ ap (λ (n : ℕ). extents_of One 3 n stripes) eight ∙ ap (λ (n : ℕ). extents_of One 3 8 n) more

-- and where they lie
extents_are : (geometry : Geometry) → geometry.format ≡ One → geometry.members ≡ 3 → geometry.chunk ≡ 8 → geometry.stripes ≡ 32
    → extents_in geometry ≡ fresh_extents
unfolding extents_in
extents_are geometry one three eight more =
    same_layout (extents_in geometry) fresh_extents one (ap (λ (f : Format). first_extent f geometry.members geometry.chunk) one)
    (ap (λ (f : Format). extent_blocks f geometry.members geometry.chunk geometry.stripes) one)
    (count_is geometry.format geometry.members geometry.chunk geometry.stripes one three eight more)

-- it shows no volume
fresh_shows : (array : ArrayView) → IsMadeFresh array → ∥ Shows (extents_in array.table.geometry) (zeros_of array.table.geometry) (no_volumes One) ∥₁
fresh_shows array fresh =
    subst (λ (format : Format). ∥ Shows (extents_in array.table.geometry) (zeros_of array.table.geometry) (no_volumes format) ∥₁) fresh.of_format_one
    (fresh_set_shows_none array.table.geometry)

pub opened_fresh : (array : ArrayView) (store : StoreView) → IsMadeFresh array → Opens (Unit {0}) array (Opened store) → ∥ HasNoVolumes store ∥₁
opened_fresh array store fresh opens = ∥∥₁_map (fresh_shows array fresh) by_shown
  where
    by_shown : Shows (extents_in array.table.geometry) (zeros_of array.table.geometry) (no_volumes One) → HasNoVolumes store
    by_shown shows =
        let after : IsSettledAfter None store (no_volumes One) =
        opens.settled tt None (zeros_of array.table.geometry) (no_volumes One) fresh.rests shows store refl in record {
          of_id = (opens.goes_on store refl).not_older.same_id ∙ fresh.of_id;
          lost = after.lost;
          settled = after.settled;
          extents = ap extents_in (opens.goes_on store refl).not_older.same_geometry
              ∙ extents_are array.table.geometry fresh.of_format_one fresh.members fresh.chunk fresh.stripes;
        }

-- its zeros are a table, of no volume
open_refused_for : (array : ArrayView) (bank : BankView) (refusal : Refusal) → IsMadeFresh array → IsNoOpening (Unit {0}) array bank refusal
    → IsFreshRefusal refusal
open_refused_for array bank BadTable fresh why =
    absurd (∥∥₁_elim (fresh_shows array fresh) (hlevel props)
    (λ shows. why.0 tt None (zeros_of array.table.geometry) (no_volumes One) fresh.rests shows))
open_refused_for array bank TwoLost fresh why = inr (inr tt)
open_refused_for array bank Worn fresh why = inr (inr tt)
open_refused_for array bank refusal fresh why = absurd why

pub open_refused : (array : ArrayView) (bank : BankView) (refusal : Refusal) → IsMadeFresh array → Opens (Unit {0}) array (Returned bank refusal)
    → IsFreshRefusal refusal
open_refused array bank refusal fresh opens = open_refused_for array bank refusal fresh (opens.cause bank refusal refl)

-- ---- a script over it

pub runs_fresh : (script : List ℕ) (first last : StoreView) (was is : Streams) → was.remaining ≡ Some script → HasRun (Unit {0}) first last was is
    → ∥ HasNoVolumes first ∥₁
    → ∥ RunsFresh script was.contents is.contents ∥₁
runs_fresh script first last was is told ran none = ∥∥₁_map none by_none
  where
    by_none : HasNoVolumes first → RunsFresh script was.contents is.contents
    by_none none =
        let ends : EndsSettled ran.lines ran.replies first last (no_volumes One) =
        (script_keeps_volumes ran.lines ran.replies first last ran.serves none.lost (no_volumes One) none.settled).1 in record {
          replies = ran.replies;
          after = ends.after;
          runs = subst₂ (λ (extents : ExtentLayout) (lines : List (List ℕ)). Runs extents lines (no_volumes One) ran.replies ends.after) none.extents
              (sym (ran.read script told).all) ends.runs;
          written = ran.written;
        }

-- a script that ran to its end was read to its end
pub read_whole : (honest : Type 0) (first last : StoreView) (was is : Streams) → HasRun honest first last was is → was.remaining ≢ None → is.remaining ≡ Some []
read_whole honest first last was is ran some = by_told was.remaining refl
  where
    by_told : (remaining : Option (List ℕ)) → was.remaining ≡ remaining → is.remaining ≡ Some []
    by_told None none = absurd (some none)
    by_told (Some script) told = (ran.read script told).remains

-- ---- what it is refused with

pub fresh_end : (refusal : Refusal) → IsFreshRefusal refusal → IsFreshEnd refusal
fresh_end refusal (inl memory) = inl (inl memory)
fresh_end refusal (inr (inl unusable)) = inr unusable
fresh_end refusal (inr (inr ends)) = inl (inr (inr (inr ends)))

-- that is what serving is refused with, or that a device was not usable
pub end_of_fresh : (refusal : Refusal) → IsFreshEnd refusal → IsEnd refusal ⊎ (refusal ≡ NotUsable)
end_of_fresh refusal (inl (inl memory)) = inl (inl (inl memory))
end_of_fresh refusal (inl (inr (inl fault))) = inl (inr (inl fault))
end_of_fresh refusal (inl (inr (inr (inl fault)))) = inl (inr (inr (inl fault)))
end_of_fresh refusal (inl (inr (inr (inr ends)))) = inl (inr (inr (inr ends)))
end_of_fresh refusal (inr unusable) = inr unusable

-- what is found before the script is read
abbrev IsBefore : Refusal → Type 0
IsBefore refusal = IsEarly refusal ⊎ (refusal ≡ NotUsable)

not_read_fault : IsBefore ReadFault → ⊥
not_read_fault (inl (inl is)) = cc
not_read_fault (inl (inr (inl is))) = cc
not_read_fault (inl (inr (inr is))) = cc
not_read_fault (inr is) = cc

not_write_fault : IsBefore WriteFault → ⊥
not_write_fault (inl (inl is)) = cc
not_write_fault (inl (inr (inl is))) = cc
not_write_fault (inl (inr (inr is))) = cc
not_write_fault (inr is) = cc

not_an_end : (refusal : Refusal) → IsBefore refusal → EndsIt refusal → ⊥
not_an_end refusal (inl (inl is)) ends = subst EndsIt is ends
not_an_end refusal (inl (inr (inl is))) ends = subst EndsIt is ends
not_an_end refusal (inl (inr (inr is))) ends = subst EndsIt is ends
not_an_end refusal (inr is) ends = subst EndsIt is ends

-- of these a script that began finds only that there is no memory
early_is_memory : (refusal : Refusal) → IsScriptRefusal refusal → IsBefore refusal → refusal ≡ Memory
early_is_memory refusal (inl memory) early = memory
early_is_memory refusal (inr (inl fault)) early = absurd (not_read_fault (subst IsBefore fault early))
early_is_memory refusal (inr (inr (inl fault))) early = absurd (not_write_fault (subst IsBefore fault early))
early_is_memory refusal (inr (inr (inr ends))) early = absurd (not_an_end refusal early ends)

pub unchanged_if_early : (result : Result (Unit {0}) Refusal) (Same : Type 0) → IfErr result IsScriptRefusal → (result ≡ Err Memory → Same)
    → IfErr result (λ refusal. IsBefore refusal → Same)
unchanged_if_early (Ok done) Same err same = tt
unchanged_if_early (Err refusal) Same err same = λ early. same (ap (λ (r : Refusal). Err r) (early_is_memory refusal err early))

-- status 0 is that of what was done
pub done_by_status : (P : Type 0) (result : Result (Unit {0}) Refusal) (status : ℕ) → status ≡ cond (is_ok result) 0 1 → status ≡ 0 → OnOk result P → P
done_by_status P (Ok x) status is is_zero done = done
done_by_status P (Err e) status is is_zero done = absurd (omega (arith, is, is_zero))
