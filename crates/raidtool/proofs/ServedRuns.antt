-- Requests that are served in one run or several, from what their calls do.
use Rattle.std.proofs.Common.{◌≡◌, ◌≢◌, ◌≤◌, ◌+◌, ◌^◌, inl, inr, ap, refl, sym, subst, ℕ, List, [], Option, Some, None, Result, Ok, Err}
use Rattle.std.specs.Prelude.{IfErr, IsTrue, OnOk, OnSome}
use Rattle.std.specs.Io.KnownBytes.{Appends, Consumes, IsAtEnd}
use Rattle.sector_model.specs.declared.refusal.Refusal.{Refusal}
use Rattle.sector_model.specs.declared.refusal.Refusal.TheVariants.{Memory, ReadFault}
use Rattle.recovery.specs.Making.{BankView}
use Rattle.device_files.specs.declared.FolderFault.{FolderFault}
use Rattle.device_files.specs.declared.FolderFault.TheVariants.{Refused}
use Rattle.device_files.specs.declared.growing.Growing.{Ghosts}
use Rattle.device_files.specs.declared.slot_files.OpenFault.{OpenFault}
use Rattle.device_files.specs.BankFiles.{AreAllSafe}
use Rattle.device_files.specs.DeviceFiles.{IsReopened, file_in}
use Rattle.set_commands.specs.Run.{Streams, streams}
use Rattle.set_commands.specs.Serving.{IsEnd}
use Rattle.server.specs.Ends.{HasServed}
use Rattle.server.specs.OnBanks.{ReplacesAndServes, ServesReplaced, ServesSet, TellsLast, last_cut, last_told, none_opened, not_opened, opened}
use Rattle.server.specs.OnBanks.{set_opened, then_served, then_stopped}
use Rattle.volume_table.specs.Stands.{StoreView}
use Rattle.server.specs.declared.ending.Ending.{Ending}
use Rattle.server.specs.declared.ending.Ending.TheVariants.{Input, Replace}
use Rattle.server.proofs.Opened.{last_ends}
use Rattle.raidtool.specs.Begun.{BeginsOver}
use Rattle.raidtool.specs.ServedRuns.{IsLastOf, ServesAgain, ServesFirst, ServesOnward, ServesReady, ServesRuns, input_ended, no_bank, no_memory, on_bank}
use Rattle.raidtool.specs.ServedRuns.{on_first, then_again, too_many, was_refused}

module _ {F : Type 0} (growing : Ghosts F) (left : F → List ℕ) (id : List ℕ) where
  pub first_run : (files : List (Option F)) (bank : BankView) (was is : Streams) (result : Result Ending Refusal) → BeginsOver growing left files bank.history
      → ServesSet (IsTrue growing.tells) id bank was is result → ServesFirst growing left id files was is result
  first_run files bank was is result begins serves = on_first bank begins serves

  pub first_none : (files : List (Option F)) (was : Streams) (refusal : Refusal) → refusal ≡ Memory → ServesFirst growing left id files was was (Err refusal)
  first_none files was refusal memory = subst (λ (r : Refusal). ServesFirst growing left id files was was (Err r)) (sym memory) no_memory

  module _ (slot : ℕ) where
    pub ready_run : (files : List (Option F)) (bank : BankView) (was is : Streams) (result : Result Ending Refusal)
        → BeginsOver growing left files bank.history
        → ServesReplaced (IsTrue growing.tells) id slot bank was is result → ServesReady growing left id slot files was is result
    ready_run files bank was is result begins serves = on_bank bank begins serves

    pub ready_none : (files : List (Option F)) (remaining was contents : Option (List ℕ)) (refusal : Refusal) (result : Result Ending Refusal)
        → refusal ≡ Memory → TellsLast was contents refusal result
        → ServesReady growing left id slot files (streams remaining was) (streams remaining contents) result
    ready_none files remaining was contents refusal result memory told =
        no_bank (subst (λ (r : Refusal). TellsLast was contents r result) memory told)

    module _ (Opens : (slot : ℕ) → Result (Option F) OpenFault → Type 0) where
      pub again_over : (files : List (Option F)) (was is : Streams) (result : Result Ending Refusal) → AreAllSafe growing.is_safe files
          → IsReopened growing.tells growing.told (Opens slot) (file_in files slot) → ServesReady growing left id slot files was is result
          → ServesAgain growing left Opens id slot was is result
      again_over files was is result safe reopened ready = record { files = files; safe = safe; reopened = reopened; ready = ready }

      pub again_none : (remaining was contents : Option (List ℕ)) (refusal : Refusal) (result : Result Ending Refusal)
          → refusal ≡ Memory → TellsLast was contents refusal result
          → ServesAgain growing left Opens id slot (streams remaining was) (streams remaining contents) result
      again_none remaining was contents refusal result memory told = record {
        files = [];
        safe = λ other under. tt;
        reopened = tt;
        ready = ready_none [] remaining was contents refusal result memory told;
      }

  module _ (Opens : (slot : ℕ) → Result (Option F) OpenFault → Type 0) where
    -- what follows a run
    pub last_onward : (runs : ℕ) (was : Streams) (ending : Result Ending Refusal) (result : Result (Unit {0}) Refusal)
        → ((slot : ℕ) → ending ≡ Ok (Replace slot) → 2 ^ 64 ≤ runs + 1)
        → IsLastOf ending result → ServesOnward growing left Opens id runs was was ending result
    last_onward runs was (Ok Input) result many is = subst (λ r. ServesOnward growing left Opens id runs was was (Ok Input) r) (sym is) input_ended
    last_onward runs was (Ok (Replace slot)) result many is =
        subst (λ r. ServesOnward growing left Opens id runs was was (Ok (Replace slot)) r) (sym is) (too_many slot (many slot refl))
    last_onward runs was (Err refusal) result many is =
        subst (λ r. ServesOnward growing left Opens id runs was was (Err refusal) r) (sym is) (was_refused refusal)

    pub all_runs : (files : List (Option F)) (was between is : Streams) (ending : Result Ending Refusal) (result : Result (Unit {0}) Refusal)
        → ServesFirst growing left id files was between ending → ServesOnward growing left Opens id 0 between is ending result
        → ServesRuns growing left Opens id files was is result
    all_runs files was between is ending result first onward = record { between = between; ending = ending; first = first; onward = onward }

-- what all runs are refused with
pub last_end : (ending : Result Ending Refusal) (result : Result (Unit {0}) Refusal) → IfErr ending IsEnd → IsLastOf ending result → IfErr result IsEnd
last_end (Ok Input) result ends is = subst (λ r. IfErr r IsEnd) (sym is) tt
last_end (Ok (Replace slot)) result ends is = subst (λ r. IfErr r IsEnd) (sym is) (inr (inl refl))
last_end (Err refusal) result ends is = subst (λ r. IfErr r IsEnd) (sym is) ends

pub memory_ends : (refusal : Refusal) → refusal ≡ Memory → IsEnd refusal
memory_ends refusal memory = inl (inl memory)

-- ---- what is read

still_known : (old new : Option (List ℕ)) (bytes : List ℕ) → Consumes old new bytes → old ≢ None → new ≢ None
still_known None new bytes consumes some = absurd (some refl)
still_known (Some xs) None bytes consumes some = absurd consumes
still_known (Some xs) (Some ys) bytes consumes some = λ none. cc

at_end : (old new : Option (List ℕ)) (bytes : List ℕ) → Consumes old new bytes → OnSome old (IsAtEnd new) → old ≢ None → new ≡ Some []
at_end None new bytes consumes ended some = absurd (some refl)
at_end (Some xs) None bytes consumes ended some = absurd consumes
at_end (Some xs) (Some ys) bytes consumes ended some = ap Some ended

-- what is left to be read after a run: nothing where the input ended, and something known, be it nothing, where there is another run
abbrev IsLeft : Result Ending Refusal → Option (List ℕ) → Type 0
IsLeft (Ok Input) remaining = remaining ≡ Some []
IsLeft (Ok (Replace slot)) remaining = remaining ≢ None
IsLeft (Err refusal) remaining = Unit {0}

served_reads : (honest : Type 0) (old new : StoreView) (was is : Streams) (result : Result Ending Refusal) → was.remaining ≢ None
    → HasServed honest old new was is result → IsLeft result is.remaining
served_reads honest old new was is (Ok Input) some served = at_end was.remaining is.remaining _ served.come.read served.read some
served_reads honest old new was is (Ok (Replace slot)) some served = still_known was.remaining is.remaining _ served.come.read some
served_reads honest old new was is (Err refusal) some served = tt

set_reads : (honest : Type 0) (id : List ℕ) (bank : BankView) (was is : Streams) (result : Result Ending Refusal) → was.remaining ≢ None
    → ServesSet honest id bank was is result → IsLeft result is.remaining
set_reads honest id bank was is result some (not_opened refusal why) = tt
set_reads honest id bank was is result some (opened serves) = served_reads honest serves.first serves.last was is result some serves.comes

last_reads : (was is : Option (List ℕ)) (refusal : Refusal) (result : Result Ending Refusal) (remaining : Option (List ℕ)) → TellsLast was is refusal result
    → IsLeft result remaining
last_reads was is refusal result remaining (last_told written) = tt
last_reads was is refusal result remaining (last_cut part) = tt

after_reads : (honest : Type 0) (slot : ℕ) (old new : StoreView) (was is : Streams) (result : Result Ending Refusal) → was.remaining ≢ None
    → ReplacesAndServes honest slot old was new is result → IsLeft result is.remaining
after_reads honest slot old new was is result some (then_served mid between told served) =
    served_reads honest mid new (streams was.remaining between) is result some served
after_reads honest slot old new was is result some (then_stopped refusal told) = tt

replaced_reads : (honest : Type 0) (id : List ℕ) (slot : ℕ) (bank : BankView) (was is : Streams) (result : Result Ending Refusal) → was.remaining ≢ None
    → ServesReplaced honest id slot bank was is result → IsLeft result is.remaining
replaced_reads honest id slot bank was is result some (none_opened {contents = contents} refusal why told) =
    last_reads was.contents contents refusal result was.remaining told
replaced_reads honest id slot bank was is result some (set_opened serves) =
    after_reads honest slot serves.first serves.last was is result some serves.comes

module _ {F : Type 0} (growing : Ghosts F) (left : F → List ℕ) (id : List ℕ) where
  first_reads : (files : List (Option F)) (was is : Streams) (result : Result Ending Refusal) → was.remaining ≢ None
      → ServesFirst growing left id files was is result → IsLeft result is.remaining
  first_reads files was is result some no_memory = tt
  first_reads files was is result some (on_first bank begins serves) = set_reads (IsTrue growing.tells) id bank was is result some serves

  ready_reads : (slot : ℕ) (files : List (Option F)) (was is : Streams) (result : Result Ending Refusal) → was.remaining ≢ None
      → ServesReady growing left id slot files was is result → IsLeft result is.remaining
  ready_reads slot files was is result some (no_bank {contents = contents} told) = last_reads was.contents contents Memory result was.remaining told
  ready_reads slot files was is result some (on_bank bank begins serves) =
      replaced_reads (IsTrue growing.tells) id slot bank was is result some serves

  module _ (Opens : (slot : ℕ) → Result (Option F) OpenFault → Type 0) where
    onward_reads : (runs : ℕ) (was is : Streams) (ending : Result Ending Refusal) (result : Result (Unit {0}) Refusal) → IsLeft ending was.remaining
        → ServesOnward growing left Opens id runs was is ending result → OnOk result (is.remaining ≡ Some [])
    onward_reads runs was is ending result is_left input_ended = is_left
    onward_reads runs was is ending result is_left (was_refused refusal) = tt
    onward_reads runs was is ending result is_left (then_again slot between next again rest) =
        onward_reads (runs + 1) between is next result (ready_reads slot again.files was between next is_left again.ready) rest
    onward_reads runs was is ending result is_left (too_many slot many) = tt

    pub runs_read : (files : List (Option F)) (was is : Streams) (result : Result (Unit {0}) Refusal) → was.remaining ≢ None
        → ServesRuns growing left Opens id files was is result → OnOk result (is.remaining ≡ Some [])
    runs_read files was is result some runs =
        onward_reads 0 runs.between is runs.ending result (first_reads files was runs.between runs.ending some runs.first) runs.onward

    -- one more run
    pub one_more : (runs : ℕ) (slot : ℕ) (was between is : Streams) (ending : Result Ending Refusal) (result : Result (Unit {0}) Refusal)
        → ServesAgain growing left Opens id slot was between ending → ServesOnward growing left Opens id (runs + 1) between is ending result
        → ServesOnward growing left Opens id runs was is (Ok (Replace slot)) result
    one_more runs slot was between is ending result again rest = then_again slot between ending again rest
