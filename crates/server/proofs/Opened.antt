-- The set on a bank is served, from what its calls do.
use Rattle.std.proofs.Common.{◌≡◌, inl, inr, ℕ, List, refl, sym, ◌∙◌, subst, Option, None, Result, Ok, Err}
use Rattle.std.specs.Prelude.{IfErr, OnOk}
use Rattle.std.specs.Io.KnownBytes.{Appends}
use Rattle.sector_model.specs.declared.refusal.Refusal.{Refusal}
use Rattle.sector_model.specs.declared.refusal.Refusal.TheVariants.{Memory, ReadFault, TwoLost, Worn, WriteFault}
use Rattle.array_io.specs.Believed.Views.{EndsIt}
use Rattle.recovery.specs.Making.{BankView}
use Rattle.report.specs.Replies.{refusal_line}
use Rattle.report.specs.Written.{AppendsPart}
use Rattle.set_commands.specs.Run.{Streams, streams}
use Rattle.set_commands.specs.Serving.{IsEnd, IsNotOpened, IsOpened}
use Rattle.volume_table.proofs.RunChains.{applies_for}
use Rattle.volume_table.specs.Stands.{StoreView}
use Rattle.volume_table.specs.StoreFunctions.{Answer, ReplacesDevice}
use Rattle.server.specs.Answers.{EndsServing, Told, TellsDone, TellsRefusal, done_told, told_text}
use Rattle.server.specs.Ends.{HasServed}
use Rattle.server.specs.OnBanks.{ReplacesAndServes, ServesReplaced, ServesSet, TellsLast, TellsReplaced, ended, goes_on, last_cut, last_told, none_opened}
use Rattle.server.specs.OnBanks.{opened, set_opened, then_served, then_stopped, untold}
use Rattle.server.specs.declared.ending.Ending.{Ending}

-- ---- what serving is refused with

served_is_end : (honest : Type 0) (old new : StoreView) (was is : Streams) (refusal : Refusal) → HasServed honest old new was is (Err refusal) → IsEnd refusal
served_is_end honest old new was is Memory served = inl (inl refl)
served_is_end honest old new was is ReadFault served = inr (inl refl)
served_is_end honest old new was is WriteFault served = inr (inr (inl refl))
served_is_end honest old new was is TwoLost served = inr (inr (inr tt))
served_is_end honest old new was is Worn served = inr (inr (inr tt))
served_is_end honest old new was is refusal served = absurd served

pub served_ends : (honest : Type 0) (old new : StoreView) (was is : Streams) (result : Result Ending Refusal) → HasServed honest old new was is result
    → IfErr result IsEnd
served_ends honest old new was is (Ok ending) served = tt
served_ends honest old new was is (Err refusal) served = served_is_end honest old new was is refusal served

told_end : (honest : Type 0) (slot : ℕ) (old new : StoreView) (was is : Option (List ℕ)) (refusal : Refusal)
    → TellsReplaced honest slot old new was is (Err refusal) → IsEnd refusal
told_end honest slot old new was is refusal (ended same replaces ends written) = inr (inr (inr ends))
told_end honest slot old new was is refusal (untold answer replaces part) = inr (inr (inl refl))

pub replaced_ends : (honest : Type 0) (slot : ℕ) (old new : StoreView) (was is : Streams) (result : Result Ending Refusal)
    → ReplacesAndServes honest slot old was new is result → IfErr result IsEnd
replaced_ends honest slot old new was is result (then_served mid between told served) = served_ends honest mid new (streams was.remaining between) is result served
replaced_ends honest slot old new was is result (then_stopped {contents = contents} refusal told) =
    told_end honest slot old new was.contents contents refusal told

pub last_ends : (was is : Option (List ℕ)) (refusal : Refusal) (result : Result Ending Refusal) → IsEnd refusal → TellsLast was is refusal result
    → IfErr result IsEnd
last_ends was is refusal result end (last_told written) = end
last_ends was is refusal result end (last_cut part) = inr (inr (inl refl))

-- ---- a set that was opened

pub served_set : (honest : Type 0) (id : List ℕ) (bank : BankView) (first last : StoreView) (was is : Streams) (result : Result Ending Refusal)
    → IsOpened honest id bank first → HasServed honest first last was is result → ServesSet honest id bank was is result
served_set honest id bank first last was is result is_opened served =
    opened (record { first = first; last = last; opened = is_opened; comes = served })

pub served_replaced : (honest : Type 0) (id : List ℕ) (slot : ℕ) (bank : BankView) (first last : StoreView) (was is : Streams) (result : Result Ending Refusal)
    → IsOpened honest id bank first → ReplacesAndServes honest slot first was last is result → ServesReplaced honest id slot bank was is result
served_replaced honest id slot bank first last was is result is_opened served =
    set_opened (record { first = first; last = last; opened = is_opened; comes = served })

pub none_served : (honest : Type 0) (id : List ℕ) (slot : ℕ) (bank : BankView) (was : Streams) (contents : Option (List ℕ)) (refusal : Refusal)
    (result : Result Ending Refusal) → IsNotOpened honest id bank refusal → TellsLast was.contents contents refusal result
    → ServesReplaced honest id slot bank was (streams was.remaining contents) result
none_served honest id slot bank was contents refusal result why told = none_opened refusal why told

-- ---- a slot that is given a device

after_replacing : (honest : Type 0) (slot : ℕ) (old new : StoreView) (answer : Answer) → old.ended ≡ None → ReplacesDevice honest slot old new answer
    → ¬ EndsServing (done_told answer) → new.ended ≡ None
after_replacing honest slot old new (Ok done) going replaces goes = (replaces.going going).goes (λ no. no)
after_replacing honest slot old new (Err refusal) going replaces goes = (replaces.going going).goes goes

abbrev told_refusal : Refusal → Told
told_refusal refusal = TellsRefusal refusal

refused_by : (answer : Answer) (refusal : Refusal) → done_told answer ≡ told_refusal refusal → answer ≡ Err refusal
refused_by (Ok done) refusal is = let never : TellsDone ≡ told_refusal refusal = is in absurd (cc)
refused_by (Err said) refusal is = let same : told_refusal said ≡ told_refusal refusal = is in cc

pub replaced_on : (honest : Type 0) (slot : ℕ) (old new : StoreView) (answer : Answer) (told : Told) (result : Result (Unit {0}) Refusal)
    (was is : Option (List ℕ)) → old.ended ≡ None → ReplacesDevice honest slot old new answer → told ≡ done_told answer → Appends was is (told_text told)
    → OnOk result (¬ EndsServing told) → IfErr result (λ refusal. EndsIt refusal × (told ≡ TellsRefusal refusal))
    → TellsReplaced honest slot old new was is result
replaced_on honest slot old new answer told (Ok done) was is going replaces same written goes ends =
    goes_on answer replaces (after_replacing honest slot old new answer going replaces (subst (λ (t : Told). ¬ EndsServing t) same goes))
    (subst (λ (t : Told). Appends was is (told_text t)) same written)
replaced_on honest slot old new answer told (Err refusal) was is going replaces same written goes ends_by =
    ended refusal (subst (λ (a : Answer). ReplacesDevice honest slot old new a) (refused_by answer refusal (sym same ∙ ends_by.1)) replaces) ends_by.0
    (subst (λ (t : Told). Appends was is (told_text t)) ends_by.1 written)

pub replaced_cut : (honest : Type 0) (slot : ℕ) (old new : StoreView) (answer : Answer) (told : Told) (refusal : Refusal) (was is : Option (List ℕ))
    → ReplacesDevice honest slot old new answer → told ≡ done_told answer → AppendsPart was is (told_text told) → refusal ≡ WriteFault
    → TellsReplaced honest slot old new was is (Err refusal)
replaced_cut honest slot old new answer told refusal was is replaces same part kind =
    subst (λ (r : Refusal). TellsReplaced honest slot old new was is (Err r)) (sym kind)
    (untold answer replaces (subst (λ (t : Told). AppendsPart was is (told_text t)) same part))

pub replaced_going : (honest : Type 0) (slot : ℕ) (old new : StoreView) (was is : Option (List ℕ)) (result : Result (Unit {0}) Refusal)
    → TellsReplaced honest slot old new was is result → OnOk result (new.ended ≡ None)
replaced_going honest slot old new was is result (goes_on answer replaces going written) = going
replaced_going honest slot old new was is result (ended refusal replaces ends written) = tt
replaced_going honest slot old new was is result (untold answer replaces part) = tt

-- ---- a bank that is honest

module _ (honest other : Type 0) (so : other → honest) where
  pub tells_for : (slot : ℕ) (old new : StoreView) (was is : Option (List ℕ)) (result : Result (Unit {0}) Refusal)
      → TellsReplaced honest slot old new was is result → TellsReplaced other slot old new was is result
  tells_for slot old new was is result (goes_on answer replaces going written) =
      goes_on answer (applies_for honest other _ old new _ so replaces) going written
  tells_for slot old new was is result (ended refusal replaces ends written) =
      ended refusal (applies_for honest other _ old new _ so replaces) ends written
  tells_for slot old new was is result (untold answer replaces part) = untold answer (applies_for honest other _ old new _ so replaces) part

pub serves_after : (honest other : Type 0) (so : other → honest) (slot : ℕ) (old mid new : StoreView) (remaining was between : Option (List ℕ)) (is : Streams)
    (result : Result Ending Refusal) → TellsReplaced honest slot old mid was between (Ok tt) → HasServed other mid new (streams remaining between) is result
    → ReplacesAndServes other slot old (streams remaining was) new is result
serves_after honest other so slot old mid new remaining was between is result told served =
    then_served mid between (tells_for honest other so slot old mid was between (Ok tt) told) served

pub stops_after : (honest other : Type 0) (so : other → honest) (slot : ℕ) (old new : StoreView) (remaining was contents : Option (List ℕ)) (refusal : Refusal)
    → TellsReplaced honest slot old new was contents (Err refusal)
    → ReplacesAndServes other slot old (streams remaining was) new (streams remaining contents) (Err refusal)
stops_after honest other so slot old new remaining was contents refusal told =
    then_stopped refusal (tells_for honest other so slot old new was contents (Err refusal) told)

-- ---- a last line

pub wrote_last : (was is : Option (List ℕ)) (refusal : Refusal) → Appends was is (refusal_line refusal) → TellsLast was is refusal (Err refusal)
wrote_last was is refusal written = last_told written

pub cut_last : (was is : Option (List ℕ)) (refusal fault : Refusal) → fault ≡ WriteFault → AppendsPart was is (refusal_line refusal)
    → TellsLast was is refusal (Err fault)
cut_last was is refusal fault kind part = subst (λ (f : Refusal). TellsLast was is refusal (Err f)) (sym kind) (last_cut part)
