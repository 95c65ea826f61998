-- What the commands over a set on a bank come to, from what their calls do.
use Rattle.std.proofs.Common.{◌≡◌, ◌≢◌, ◌⊎◌, inl, inr, ℕ, zero, suc, ◌+◌, Bool, true, false, ◌||◌, List, [], ◌∷◌, ◌++◌, Option, Result, Ok, Err, refl, sym, ap}
use Rattle.std.proofs.Common.{subst, ◌∙◌}
use Rattle.std.specs.Prelude.{IfErr, OnErr, OnOk}
use Rattle.std.specs.Io.KnownBytes.{Appends}
use Rattle.sector_model.specs.declared.refusal.Refusal.{Refusal}
use Rattle.sector_model.specs.declared.refusal.Refusal.TheVariants.{BadTable, Memory, NoSet, ReadFault, TwoLost, Worn, WriteFault}
use Rattle.array_io.specs.Believed.Views.{ArrayView, EndsIt, StaysButForFailures}
use Rattle.recovery.specs.Making.{BankView}
use Rattle.recovery.specs.Assembling.{IsOfAssembly}
use Rattle.volume_table.specs.Opening.{IsNoOpening, Opens, Outcome, WasGivenUp}
use Rattle.volume_table.specs.Stands.{StoreView}
use Rattle.volume_table.specs.StoreFunctions.{TellsStatus}
use Rattle.volume_table.specs.VolumeStep.{Refused, Reply}
use Rattle.volume_table.specs.declared.status.Status.{Status}
use Rattle.layout_map.specs.declared.format.Format.{Format}
use Rattle.layout_map.specs.declared.format.Format.TheVariants.{One, Two}
use Rattle.serde_json.specs.Data.{Data, object}
use Rattle.serde_json.specs.View.{items_of}
use Rattle.serde_json.specs.Written.{compact_text, has_float, items_have_float}
use Rattle.report.specs.Report.{members_of, slot_json, slots_json, status_json, status_pairs}
use Rattle.volume_table.proofs.RunChains.{applies_for}
use Rattle.set_commands.specs.Run.{AreAllOf, AreReadWhole, HasAnswered, HasRun, IsScriptRefusal, StoppedByStore, StoppedReading, StoppedWriting, Streams}
use Rattle.report.specs.Script.{Answers, Serves, none_read, then_read}
use Rattle.set_commands.specs.Serving.{IsEnd, IsNotOpened, IsOpened, IsOpeningRefusal, IsTellEnd, LosesOn, RunsOn, ServesOn, StatusOn, TellsOn, TellsPartOn}
use Rattle.set_commands.specs.Serving.{told_text}
use Rattle.report.specs.Written.{AppendsPart}

-- ---- a bank that is honest before a call is so in it

stays_for : (honest other : Type 0) (old new : ArrayView) (ended : Type 0) → (other → honest) → StaysButForFailures honest old new ended
    → StaysButForFailures other old new ended
stays_for honest other old new ended so stays = record { table = stays.table; failure = λ fair. stays.failure (so fair) }

given_up_for : (honest other : Type 0) (old : ArrayView) (back : BankView) (refusal : Refusal) → (other → honest) → WasGivenUp honest old back refusal
    → WasGivenUp other old back refusal
given_up_for honest other old back refusal so given = record {
  array = given.array;
  panel = given.panel;
  history = given.history;
  goes_on = given.goes_on;
  stays = stays_for honest other old given.array (Unit {0}) so given.stays;
  ends = given.ends;
}

no_opening_for : (honest other : Type 0) (old : ArrayView) (back : BankView) (refusal : Refusal) → (other → honest) → IsNoOpening honest old back refusal
    → IsNoOpening other old back refusal
no_opening_for honest other old back BadTable so why = ((λ fair. why.0 (so fair)), (λ fair. why.1 (so fair)))
no_opening_for honest other old back TwoLost so why = given_up_for honest other old back TwoLost so why
no_opening_for honest other old back Worn so why = given_up_for honest other old back Worn so why
no_opening_for honest other old back refusal so why = absurd why

pub opens_for : (honest other : Type 0) (old : ArrayView) (outcome : Outcome) → (other → honest) → Opens honest old outcome → Opens other old outcome
opens_for honest other old outcome so opens = record {
  later = opens.later;
  going = opens.going;
  goes_on = opens.goes_on;
  stays = λ store is. stays_for honest other old store.array ⊥ so (opens.stays store is);
  moments = λ fair. opens.moments (so fair);
  settled = λ fair. opens.settled (so fair);
  of_set = opens.of_set;
  spelled = λ fair. opens.spelled (so fair);
  cause = λ back refusal is. no_opening_for honest other old back refusal so (opens.cause back refusal is);
}

pub answers_for : (honest other : Type 0) (line : List ℕ) (old new : StoreView) (reply : Reply) → (other → honest) → Answers honest line old new reply
    → Answers other line old new reply
answers_for honest other line old new reply so (inl (command, is)) =
    inl (command, record { short = is.short; says = is.says; applies = applies_for honest other _ old new reply so is.applies })
answers_for honest other line old new reply so (inr none) = inr none

pub serves_for : (honest other : Type 0) (lines : List (List ℕ)) (replies : List Reply) (old new : StoreView) → (other → honest)
    → Serves honest lines replies old new → Serves other lines replies old new
serves_for honest other lines replies old new so none_read = none_read
serves_for honest other lines replies old new so (then_read mid line reply answers goes serves) =
    then_read mid line reply (answers_for honest other line old mid reply so answers) goes (serves_for honest other _ _ mid new so serves)

answered_for : (honest other : Type 0) (first last : StoreView) (was is : Streams)
    (AreRead : (script : List ℕ) (lines : List (List ℕ)) (remaining : Option (List ℕ)) → Type 0)
    → (other → honest) → HasAnswered honest first last was is AreRead → HasAnswered other first last was is AreRead
answered_for honest other first last was is AreRead so answered = record {
  lines = answered.lines;
  replies = answered.replies;
  serves = serves_for honest other answered.lines answered.replies first last so answered.serves;
  written = answered.written;
  read = answered.read;
}

pub writing_for : (honest other : Type 0) (first last : StoreView) (was is : Streams) → (other → honest) → StoppedWriting honest first last was is
    → StoppedWriting other first last was is
writing_for honest other first last was is so stopped = record {
  lines = stopped.lines;
  replies = stopped.replies;
  mid = stopped.mid;
  serves = serves_for honest other stopped.lines stopped.replies first stopped.mid so stopped.serves;
  line = stopped.line;
  reply = stopped.reply;
  answers = answers_for honest other stopped.line stopped.mid last stopped.reply so stopped.answers;
  part = stopped.part;
  is_part = stopped.is_part;
  written = stopped.written;
  read = stopped.read;
}

pub loss_for : (honest other : Type 0) (refusal : Refusal) (first last : StoreView) (was is : Streams) → (other → honest)
    → StoppedByStore honest refusal first last was is
    → StoppedByStore other refusal first last was is
loss_for honest other refusal first last was is so stopped = record {
  lines = stopped.lines;
  replies = stopped.replies;
  mid = stopped.mid;
  serves = serves_for honest other stopped.lines stopped.replies first stopped.mid so stopped.serves;
  line = stopped.line;
  answers = answers_for honest other stopped.line stopped.mid last (Refused refusal) so stopped.answers;
  written = stopped.written;
  read = stopped.read;
}

-- ---- what opening is refused with

pub assembly_refused : (refusal : Refusal) → IsOfAssembly refusal → IsOpeningRefusal refusal
assembly_refused NoSet is = inl refl
assembly_refused TwoLost is = inr (inr tt)
assembly_refused Worn is = inr (inr tt)
assembly_refused refusal is = absurd is

pub opening_refused : (honest : Type 0) (array : ArrayView) (back : BankView) (refusal : Refusal) → IsNoOpening honest array back refusal
    → IsOpeningRefusal refusal
opening_refused honest array back BadTable why = inr (inl refl)
opening_refused honest array back TwoLost why = inr (inr tt)
opening_refused honest array back Worn why = inr (inr tt)
opening_refused honest array back refusal why = absurd why

-- what a set that is not opened is refused with
pub opening_is_tell_end : (refusal : Refusal) → IsOpeningRefusal refusal → IsTellEnd refusal
opening_is_tell_end refusal (inl none) = inl (inr (inl none))
opening_is_tell_end refusal (inr (inl bad)) = inl (inr (inr bad))
opening_is_tell_end refusal (inr (inr ends)) = inr (inr ends)

pub opening_is_end : (refusal : Refusal) → IsOpeningRefusal refusal → IsEnd refusal
opening_is_end refusal (inl none) = inl (inr (inl none))
opening_is_end refusal (inr (inl bad)) = inl (inr (inr bad))
opening_is_end refusal (inr (inr ends)) = inr (inr (inr ends))

pub script_is_end : (refusal : Refusal) → IsScriptRefusal refusal → IsEnd refusal
script_is_end refusal (inl memory) = inl (inl memory)
script_is_end refusal (inr other) = inr other

pub opening_not_memory : (refusal : Refusal) → IsOpeningRefusal refusal → refusal ≢ Memory
opening_not_memory refusal (inl is) memory = cc
opening_not_memory refusal (inr (inl is)) memory = cc
opening_not_memory refusal (inr (inr ends)) memory = subst EndsIt memory ends

pub opening_not_writing : (refusal : Refusal) → IsOpeningRefusal refusal → refusal ≡ WriteFault → ⊥
opening_not_writing refusal (inl none) is = let never : NoSet ≡ WriteFault = sym none ∙ is in cc
opening_not_writing refusal (inr (inl bad)) is = let never : BadTable ≡ WriteFault = sym bad ∙ is in cc
opening_not_writing refusal (inr (inr ends)) is = subst EndsIt is ends

pub opening_not_reading : (refusal : Refusal) → IsOpeningRefusal refusal → refusal ≡ ReadFault → ⊥
opening_not_reading refusal (inl none) is = let never : NoSet ≡ ReadFault = sym none ∙ is in cc
opening_not_reading refusal (inr (inl bad)) is = let never : BadTable ≡ ReadFault = sym bad ∙ is in cc
opening_not_reading refusal (inr (inr ends)) is = subst EndsIt is ends

-- ---- a script is served

-- a script that began is not refused as if there were no set
script_after_opening : (refusal : Refusal) → IsScriptRefusal refusal → (refusal ≡ NoSet) ⊎ (refusal ≡ BadTable) → ⊥
script_after_opening refusal (inl memory) (inl none) = cc
script_after_opening refusal (inl memory) (inr none) = cc
script_after_opening refusal (inr (inl fault)) (inl none) = cc
script_after_opening refusal (inr (inl fault)) (inr none) = cc
script_after_opening refusal (inr (inr (inl fault))) (inl none) = cc
script_after_opening refusal (inr (inr (inl fault))) (inr none) = cc
script_after_opening refusal (inr (inr (inr ends))) (inl none) = subst EndsIt none ends
script_after_opening refusal (inr (inr (inr ends))) (inr none) = subst EndsIt none ends

pub served_opened : (honest : Type 0) (id : List ℕ) (bank : BankView) (result : Result (Unit {0}) Refusal) → IfErr result IsScriptRefusal
    → IfErr result (λ refusal. (refusal ≡ NoSet) ⊎ (refusal ≡ BadTable) → IsNotOpened honest id bank refusal)
served_opened honest id bank (Ok done) err = tt
served_opened honest id bank (Err refusal) err = λ none. absurd (script_after_opening refusal err none)

module _ (honest then : Type 0) (so : honest → then) (id : List ℕ) (bank : BankView) (first last : StoreView) (opened : IsOpened honest id bank first) where
  on : (Comes : StoreView → StoreView → Type 0) → Comes first last → ServesOn honest id bank Comes
  on Comes comes = record { first = first; last = last; opened = opened; comes = comes }

  pub served_ran : (was is : Streams) (result : Result (Unit {0}) Refusal) → OnOk result (HasRun then first last was is)
      → OnOk result (RunsOn honest id bank was is)
  served_ran was is (Ok done) ran = on (λ f l. HasRun honest f l was is) (answered_for then honest first last was is AreAllOf so ran)
  served_ran was is (Err refusal) ran = tt

  pub served_until_read : (was is : Streams) (result : Result (Unit {0}) Refusal) → (result ≡ Err ReadFault → StoppedReading then first last was is)
      → IfErr result (λ refusal. refusal ≡ ReadFault → ServesOn honest id bank (λ f l. StoppedReading honest f l was is))
  served_until_read was is (Ok done) stopped = tt
  served_until_read was is (Err refusal) stopped = λ fault. on (λ f l. StoppedReading honest f l was is)
      (answered_for then honest first last was is AreReadWhole so (stopped (ap Err fault)))

  pub served_until_write : (was is : Streams) (result : Result (Unit {0}) Refusal) → (result ≡ Err WriteFault → StoppedWriting then first last was is)
      → IfErr result (λ refusal. refusal ≡ WriteFault → ServesOn honest id bank (λ f l. StoppedWriting honest f l was is))
  served_until_write was is (Ok done) stopped = tt
  served_until_write was is (Err refusal) stopped = λ fault. on (λ f l. StoppedWriting honest f l was is)
      (writing_for then honest first last was is so (stopped (ap Err fault)))

  pub served_until_loss : (was is : Streams) (Same : Type 0) (result : Result (Unit {0}) Refusal)
      → ((refusal : Refusal) → result ≡ Err refusal → EndsIt refusal → StoppedByStore then refusal first last was is)
      → IfErr result (λ refusal. EndsIt refusal → LosesOn honest id bank refusal was is Same)
  served_until_loss was is Same (Ok done) stopped = tt
  served_until_loss was is Same (Err refusal) stopped =
      λ ends. inr (on (λ f l. StoppedByStore honest refusal f l was is) (loss_for then honest refusal first last was is so (stopped refusal refl ends)))

-- ---- a status is told

-- a store that was just opened tells its status
pub status_told : (honest : Type 0) (id : List ℕ) (bank : BankView) (store : StoreView) (refusal : Refusal) → IsOpened honest id bank store
    → TellsStatus store (Err refusal) → ⊥
status_told honest id bank store refusal opened tells = tells.going (opened.opens.going store refl)

-- ---- what was written

pub done_then : (result : Result (Unit {0}) Refusal) (P : Type 0) → P → OnOk result P
done_then (Ok done) P is = is
done_then (Err refusal) P is = tt

pub only_cut : (result : Result (Unit {0}) Refusal) (P : Refusal → Type 0) → IfErr result (λ refusal. refusal ≡ WriteFault)
    → IfErr result (λ refusal. refusal ≢ WriteFault → P refusal)
only_cut (Ok done) P kind = tt
only_cut (Err refusal) P kind = λ other. absurd (other kind)

pub cut_then : (result : Result (Unit {0}) Refusal) (P Q : Type 0) → P → OnErr result Q → IfErr result (λ refusal. refusal ≡ WriteFault → P × Q)
cut_then (Ok done) P Q is part = tt
cut_then (Err refusal) P Q is part = λ cut. (is, part)

-- a status that was not written, or in part
abbrev IsUntold : (Same : Type 0) (old new : Option (List ℕ)) → List ℕ → Refusal → Type 0
IsUntold Same old new text refusal = ((refusal ≡ Memory) × Same) ⊎ ((refusal ≡ WriteFault) × AppendsPart old new text)

module _ (honest : Type 0) (id : List ℕ) (bank : BankView) (json : Bool) (was is : Option (List ℕ)) (status : Status) (told : StatusOn honest id bank status)
  where
    pub tells_on : (result : Result (Unit {0}) Refusal) → OnOk result (Appends was is (told_text json status))
        → OnOk result (TellsOn honest id bank json was is)
    tells_on (Ok done) written = record { status = status; told = told; written = written }
    tells_on (Err refusal) written = tt

    pub tells_part_on : (Same : Type 0) (result : Result (Unit {0}) Refusal) → IfErr result (IsUntold Same was is (told_text json status))
        → IfErr result (λ refusal. refusal ≡ WriteFault → TellsPartOn honest id bank json was is)
    tells_part_on Same (Ok done) err = tt
    tells_part_on Same (Err refusal) (inl memory) = λ cut. absurd (let never : Memory ≡ WriteFault = sym memory.0 ∙ cut in cc)
    tells_part_on Same (Err refusal) (inr cut) = λ is. record { status = status; told = told; written = cut.1 }

pub untold_for : (Same : Type 0) (old new : Option (List ℕ)) (text : List ℕ) (result : Result (Unit {0}) Refusal) (P : Refusal → Type 0)
    → IfErr result (IsUntold Same old new text) → IfErr result (λ refusal. refusal ≢ Memory → refusal ≢ WriteFault → P refusal)
untold_for Same old new text (Ok done) P err = tt
untold_for Same old new text (Err refusal) P (inl memory) = λ some other. absurd (some memory.0)
untold_for Same old new text (Err refusal) P (inr cut) = λ some other. absurd (other cut.0)

pub untold_end : (Same : Type 0) (old new : Option (List ℕ)) (text : List ℕ) (result : Result (Unit {0}) Refusal) → IfErr result (IsUntold Same old new text)
    → IfErr result IsTellEnd
untold_end Same old new text (Ok done) err = tt
untold_end Same old new text (Err refusal) (inl memory) = inl (inl memory.0)
untold_end Same old new text (Err refusal) (inr cut) = inr (inl cut.0)

pub untold_same : (Same : Type 0) (old new : Option (List ℕ)) (text : List ℕ) (result : Result (Unit {0}) Refusal) → IfErr result (IsUntold Same old new text)
    → IfErr result (λ refusal. refusal ≢ WriteFault → Same)
untold_same Same old new text (Ok done) err = tt
untold_same Same old new text (Err refusal) (inl memory) = λ other. memory.1
untold_same Same old new text (Err refusal) (inr cut) = λ other. absurd (other cut.0)

pub untold_by : (Same : Type 0) (old new : Option (List ℕ)) (text : List ℕ) (result : Result (Unit {0}) Refusal)
    → IfErr result (λ refusal. refusal ≡ WriteFault)
    → OnErr result (AppendsPart old new text) → IfErr result (IsUntold Same old new text)
untold_by Same old new text (Ok done) kind part = tt
untold_by Same old new text (Err refusal) kind part = inr (kind, part)

-- ---- the text of a status

-- items at the end of which there is one more
pub items_no_float : (items : List Data) (last : Data) → items_have_float (items_of items) ≡ false → has_float last ≡ false
    → items_have_float (items_of (items ++ last ∷ [])) ≡ false
items_no_float [] last none is = ap (λ (b : Bool). b || false) is
items_no_float (item ∷ items) last none is = by_first (has_float item) none (λ rest. items_no_float items last rest is)
  where
    by_first : (b : Bool) → (b || items_have_float (items_of items)) ≡ false
        → (items_have_float (items_of items) ≡ false → items_have_float (items_of (items ++ last ∷ [])) ≡ false)
        → (b || items_have_float (items_of (items ++ last ∷ []))) ≡ false
    by_first true none rest = none
    by_first false none rest = rest none

slots_no_float : (status : Status) (slots : ℕ) → items_have_float (items_of (slots_json status slots)) ≡ false
slots_no_float status zero = refl
slots_no_float status (suc slot) = items_no_float (slots_json status slot) (slot_json status slot) (slots_no_float status slot) refl

no_float_in : (format : Format) (status : Status) → has_float (object (members_of (status_pairs format status))) ≡ false
no_float_in One status = ap (λ (b : Bool). b || false) (slots_no_float status (status.members + 2))
no_float_in Two status = ap (λ (b : Bool). b || false) (slots_no_float status (status.members + 2))

pub no_float : (status : Status) → has_float (status_json status) ≡ false
no_float status = no_float_in status.format status

-- the text of the value, and the newline after it
pub json_told : (status : Status) (json : Bool) (value : Data) (text pushed : List ℕ) → json ≡ true → value ≡ status_json status
    → (has_float value ≡ false → text ≡ compact_text value)
    → pushed ≡ text ++ 10 ∷ [] → pushed ≡ told_text json status
json_told status json value text pushed is same written beyond =
    let whole : text ≡ compact_text (status_json status) = written (ap has_float same ∙ no_float status) ∙ ap compact_text same in
    beyond ∙ ap (λ (t : List ℕ). t ++ 10 ∷ []) whole ∙ ap (λ (b : Bool). told_text b status) (sym is)
