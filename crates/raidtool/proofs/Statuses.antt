-- What an exit status says of the words, and of what was written.
use Rattle.std.proofs.Common.{◌≡◌, ◌≢◌, ◌==◌, ◌≤◌, ◌⊎◌, ◌∙◌, inl, inr, arith, refl, rules, ℕ, Bool, true, false, List, [], ◌∷◌, length, Option, sym, subst}
use Rattle.std.specs.Prelude.{◌↔◌, Err, IfErr, IsTrue, Ok, OnOk, Result, is_ok, if◌then◌else◌}
use Rattle.std.specs.Borrow.{Bor}
use Rattle.clap.specs.Walk.{texts}
use Rattle.clap.specs.Words.{Text}
use Rattle.clap.specs.Kinds.{HasKind}
use Rattle.sector_model.specs.declared.refusal.Refusal.{Refusal}
use Rattle.sector_model.specs.declared.refusal.Refusal.TheVariants.{NotUsable, TwoLost, Worn, WriteFault}
use Rattle.recovery.specs.Making.{BankView}
use Rattle.volume_table.specs.declared.status.Status.{Status as SetStatus}
use Rattle.command_line.specs.declared.Asked.{Asked}
use Rattle.device_files.specs.declared.FolderFault.TheVariants as FolderFault
use Rattle.command_line.specs.declared.InvocationFault.{InvocationFault}
use Rattle.command_line.specs.declared.InvocationFault.TheVariants.{BadId, BadShape, BadSize, Usage}
use Rattle.command_line.specs.Invocations.{AsksFor, Enters, IsFaultOf}
use Rattle.set_commands.specs.Fresh.{IsFreshEnd}
use Rattle.set_commands.specs.Serving.{IsEarly, IsEnd, StatusOn, TellsOn, TellsPartOn}
use Rattle.report.specs.Replies.{refusal_line}
use Rattle.raidtool.specs.Tool.{ComesFirst, IsAsked, IsMemoryFault, IsStatusCut, IsStatusTold, WasRefused}
use Rattle.set_commands.proofs.FreshLemmas.{end_of_fresh}
use Rattle.command_line.proofs.OneAsked.{no_words, not_refused}

-- ---- words

-- words were given
pub some_words : (words : List (Bor Text)) (is_empty : Bool) → is_empty ≡ (length words == 0) → is_empty ≡ false → texts words ≢ []
some_words [] is_empty is none = let never : true ≡ false = sym is ∙ none in cc
some_words (word ∷ words) is_empty is none = λ empty. cc

-- no words ask for no line
pub no_line : (words : List Text) (line : Asked) → words ≡ [] → ¬ AsksFor words line
no_line words line none asked = no_words asked.0 asked.1 (subst (λ (ws : List Text). Enters ws asked.0 asked.1) none asked.2)

-- no words were given
pub none_given : (words : List (Bor Text)) (is_empty : Bool) → is_empty ≡ (length words == 0) → is_empty ≡ true → texts words ≡ []
none_given [] is_empty is some = refl
none_given (word ∷ words) is_empty is some = search rules

-- words that were refused, not for memory, ask for nothing
pub refused_words : (words : List Text) (fault : InvocationFault) → words ≢ [] → IsFaultOf words fault → ¬ IsMemoryFault fault → ¬ IsAsked words
refused_words words fault some is other (inl none) = some none
refused_words words BadId some is other (inr (line, asked)) = not_refused words line BadId tt asked is
refused_words words BadShape some is other (inr (line, asked)) = not_refused words line BadShape tt asked is
refused_words words BadSize some is other (inr (line, asked)) = not_refused words line BadSize tt asked is
refused_words words (Usage error) some is other (inr (line, asked)) =
    let kind : HasKind [] error = rw asked.2.taken at is in
    elim kind [ inl memory ↦ other memory | inr none ↦ absurd none ]

-- what was found to be no fault of memory is none
pub no_memory_fault : (fault same : InvocationFault) (is_memory : Bool) → (IsTrue is_memory ↔ IsMemoryFault fault) → is_memory ≡ false → fault ≡ same
    → ¬ IsMemoryFault same
no_memory_fault fault same is_memory both none is memory =
    let never : true ≡ false = sym (both.1 (subst IsMemoryFault (sym is) memory)) ∙ none in
    absurd cc

-- ---- what a status says of what was done

module _ {T E : Type 0} where
  -- the status 0 comes of what was done
  pub done_by : (P : Type 0) (done : Result T E) (status : ℕ) → status ≡ (if is_ok done then 0 else 1) → status ≡ 0 → OnOk done P → P
  done_by P (Ok value) status is none p = p
  done_by P (Err fault) status is none p = absurd (omega (arith, is, none))

  -- it is 0 or 1
  pub one_at_most : (done : Result T E) (status : ℕ) → status ≡ (if is_ok done then 0 else 1) → status ≤ 1
  one_at_most (Ok value) status is = omega (arith, is)
  one_at_most (Err fault) status is = omega (arith, is)

  -- and 1 of an error
  pub stopped_by : (P Q : E → Type 0) (done : Result T E) (status : ℕ) → status ≡ (if is_ok done then 0 else 1) → status ≡ 1 → IfErr done P → IfErr done Q
      → (fault : E) × (done ≡ Err fault) × P fault × Q fault
  stopped_by P Q (Ok value) status is one p q = absurd (omega (arith, is, one))
  stopped_by P Q (Err fault) status is one p q = (fault, refl, p, q)

-- what comes first is no fault of the writer
pub first_uncut : (refusal : Refusal) → ComesFirst refusal → refusal ≢ WriteFault
first_uncut refusal first cut = subst ComesFirst cut first

-- so where nothing is read, and nothing was written but where the writer failed, it leaves both as they were
pub uncut_alone : (More Same : Type 0) (done : Result (Unit {0}) Refusal) → More → IfErr done (λ refusal. refusal ≢ WriteFault → Same)
    → IfErr done (λ refusal. ComesFirst refusal → More × Same)
uncut_alone More Same (Ok value) more same = tt
uncut_alone More Same (Err refusal) more same = λ first. (more, same (first_uncut refusal first))

is_cut : (refusal : Refusal) → (refusal ≡ WriteFault) ⊎ (refusal ≢ WriteFault)
is_cut WriteFault = inl refl
is_cut refusal = inr (λ cut. cc)

-- of a writer's fault that stopped a command over files
pub cut_refused : (P : Type 0) (why : Refusal) → (why ≡ WriteFault → P) → FolderFault.Refused why ≡ FolderFault.Refused WriteFault → P
cut_refused P why p same = p (cc)

-- ---- a script

-- what comes first is found before the script is read
pub first_early : (refusal : Refusal) → IsEnd refusal → ComesFirst refusal → IsEarly refusal
first_early refusal (inl early) first = early
first_early refusal (inr (inl fault)) first = absurd (subst ComesFirst fault first)
first_early refusal (inr (inr (inl fault))) first = absurd (subst ComesFirst fault first)
first_early TwoLost (inr (inr (inr ends))) first = absurd first
first_early Worn (inr (inr (inr ends))) first = absurd first
first_early refusal (inr (inr (inr ends))) first = absurd ends

pub first_alone : (Same : Type 0) (done : Result (Unit {0}) Refusal) → IfErr done IsEnd → IfErr done (λ refusal. IsEarly refusal → Same)
    → IfErr done (λ refusal. ComesFirst refusal → Same)
first_alone Same (Ok value) ends alone = tt
first_alone Same (Err refusal) ends alone = λ first. alone (first_early refusal ends first)

-- the same where the set is made for it
pub fresh_first : (refusal : Refusal) → IsFreshEnd refusal → ComesFirst refusal → IsEarly refusal ⊎ (refusal ≡ NotUsable)
fresh_first refusal ends first = elim (end_of_fresh refusal ends) [ inl served ↦ inl (first_early refusal served first) | inr unusable ↦ inr unusable ]

-- the same of a script over a set that is made for it
pub fresh_refused : (Same : Type 0) (Told : List ℕ → Type 0) (done : Result (Unit {0}) Refusal) (status : ℕ) → status ≡ (if is_ok done then 0 else 1)
    → IfErr done IsFreshEnd → IfErr done (λ refusal. Told (refusal_line refusal)) → IfErr done (λ refusal. IsEarly refusal ⊎ (refusal ≡ NotUsable) → Same)
    → (status ≡ 0) ⊎ ((status ≡ 1) × WasRefused IsFreshEnd ComesFirst Told Same)
fresh_refused Same Told (Ok value) status is ends told alone = inl is
fresh_refused Same Told (Err refusal) status is ends told alone =
    inr (is, record { refusal = refusal; ends = ends; told = told; alone = λ first. alone (fresh_first refusal ends first) })

-- ---- a status that was told

status_of_set : (honest : Type 0) (id : List ℕ) (bank : BankView) (status : SetStatus) → StatusOn honest id bank status → status.id ≡ id
status_of_set honest id bank status told =
    (told.tells.going (told.opened.opens.going told.store refl)).id ∙ (told.opened.opens.goes_on told.store refl).not_older.same_id
    ∙ told.opened.assembles.of_id told.opened.array refl

pub told_status : (honest : Type 0) (id : List ℕ) (bank : BankView) (json : Bool) (was is : Option (List ℕ)) → TellsOn honest id bank json was is
    → IsStatusTold id json was is
told_status honest id bank json was is tells =
    record { status = tells.status; of_set = status_of_set honest id bank tells.status tells.told; written = tells.written }

pub cut_status : (honest : Type 0) (id : List ℕ) (bank : BankView) (json : Bool) (was is : Option (List ℕ)) → TellsPartOn honest id bank json was is
    → IsStatusCut id json was is
cut_status honest id bank json was is tells =
    record { status = tells.status; of_set = status_of_set honest id bank tells.status tells.told; part = tells.written }
