-- What assembling promises where it ended before it wrote; and what is known after the survey.
use Rattle.std.proofs.Common.{◌≡◌, inl, inr, ℕ, ◌≤◌, List, Option, Some, None, Result, Ok, Err, sym, ◌∙◌, subst, arith}
use Rattle.sector_model.specs.declared.refusal.Refusal.{Refusal}
use Rattle.sector_model.specs.declared.refusal.Refusal.TheVariants.{NoSet, TwoLost, Worn}
use Rattle.sector_model.specs.Bank.{IsLater, Panel}
use Rattle.sector_model.specs.History.{Bytes, History, calls_of}
use Rattle.sector_model.specs.Readable.{NothingPending, readable}
use Rattle.sector_model.specs.Reads.{HasRead}
use Rattle.sector_model.proofs.Steps.{throughout_more}
use Rattle.superblock.specs.declared.table.Table.{Table}
use Rattle.superblock.specs.Cases.{HasNone, Lost}
use Rattle.superblock.specs.Counted.{IsChosen}
use Rattle.superblock.specs.NextTables.{slots_of}
use Rattle.array_io.specs.Believed.Moments.{HoldsNow, HoldsThroughout}
use Rattle.array_io.specs.Believed.Views.{view_of}
use Rattle.array_io.proofs.Marks.MarkingMoments.{calls_grow, cut_whole}
use Rattle.array_io.proofs.Images.Spellings.{Spellings}
use Rattle.recovery.specs.Assembling.{MayAssemble}
use Rattle.recovery.specs.Making.{BankView, Returned}
use Rattle.recovery.specs.PuttingInOrder.{IsInOrder, IsInOrderBy, PutsInOrder}
use Rattle.recovery.specs.Surveying.{IsOutOf, Surveys}
use Rattle.recovery.specs.declared.survey.Out.TheVariants as out
use Rattle.recovery.specs.declared.survey.Survey.{Survey}
use Rattle.recovery.proofs.AssembledAnswer.{not_in_order}
use Rattle.recovery.proofs.AssembledCause.{two_lost_then}
use Rattle.recovery.proofs.AssembledReads.{read_holds, read_throughout}
use Rattle.recovery.proofs.AssembledTable.{IsSurveyed}
use Rattle.recovery.proofs.AssembledUnwritten.{none_unwritten, two_unwritten, worn_first}

-- A survey told this table.
pub record HasSurveyed (honest : Type 0) (id : List ℕ) (old mid : BankView) (table : Table) : Type 0 where
  pub later : IsLater old.panel mid.panel
  pub of_id : table.id ≡ id
  pub has_slots : slots_of table ≤ old.panel.devices
  pub reads : honest → HasRead old.history mid.history
  pub chosen : honest → IsChosen id old.panel.devices (readable mid.history) table

pub has_surveyed : (honest : Type 0) (id : List ℕ) (old mid : BankView) (answer : Result (Option Survey) Refusal) (survey : Survey)
    → Surveys honest id old mid answer → answer ≡ Ok (Some survey)
    → HasSurveyed honest id old mid survey.table
has_surveyed honest id old mid answer survey surveys is = record {
  later = surveys.later;
  of_id = surveys.of_id survey is;
  has_slots = omega (arith, surveys.has_slots survey is, surveys.later.devices);
  reads = surveys.reads;
  chosen = λ is_honest. subst (λ (n : ℕ). IsChosen id n (readable mid.history) survey.table) surveys.later.devices (surveys.told is_honest survey is).chosen;
}

-- while devices are read all cases hold
pub reads_hold : Spellings → (base : Table) (devices : ℕ) (lost : Option Lost) (X : List (List Bytes)) (old h : History) → HasRead old h → NothingPending old
    → HoldsNow base devices lost X old
    → HoldsThroughout base devices lost X old h
reads_hold spellings base devices lost X old h read nothing holds =
    throughout_more (λ g is. read_holds spellings devices base lost X old g nothing is holds) h (read_throughout read)

pub calls_read : (old h : History) → HasRead old h → calls_of old ≤ calls_of h
calls_read old h read = calls_grow h (read_throughout read)

-- from the survey on
pub surveyed_from : (honest : Type 0) (id : List ℕ) (old mid : BankView) (table base : Table) (lost : Option Lost) (X : List (List Bytes))
    → HasSurveyed honest id old mid table → honest → base.id ≡ id
    → MayAssemble base lost X old → IsSurveyed base table old.panel.devices lost X old.history mid.history
surveyed_from honest id old mid table base lost X has is_honest same_id may = record {
  nothing_pending = may.nothing_pending;
  holds = may.holds;
  read = has.reads is_honest;
  same_id = has.of_id ∙ sym same_id;
  chosen = subst (λ (i : List ℕ). IsChosen i old.panel.devices (readable mid.history) table) (sym same_id) (has.chosen is_honest);
}

pub surveyed_holds : Spellings → (base table : Table) (devices : ℕ) (lost : Option Lost) (X : List (List Bytes)) (old h : History)
    → IsSurveyed base table devices lost X old h
    → HoldsThroughout base devices lost X old h
surveyed_holds spellings base table devices lost X old h from = reads_hold spellings base devices lost X old h from.read from.nothing_pending from.holds

-- in order over as many devices
pub in_order : (base table : Table) (devices : ℕ) (lost : Option Lost) (X : List (List Bytes)) (panel : Panel) (h : History) → panel.devices ≡ devices
    → IsInOrderBy base table devices lost X h
    → IsInOrder base lost X (view_of panel h table 0)
in_order base table devices lost X panel h same is = subst (λ (n : ℕ). IsInOrderBy base table n lost X h) (sym same) is

-- no further call could be counted while the superblocks were read
pub assembled_worn : Spellings → (honest : Type 0) (id : List ℕ) (old mid : BankView) (answer : Result (Option Survey) Refusal) (refusal : Refusal)
    → Surveys honest id old mid answer
    → answer ≡ Err refusal → PutsInOrder honest id old (Returned mid refusal)
assembled_worn spellings honest id old mid answer refusal surveys is =
    let why = surveys.cause refusal is in
    subst (λ (r : Refusal). PutsInOrder honest id old (Returned mid r)) (sym why.0)
    (not_in_order honest id old mid Worn record {
      later = surveys.later;
      moments = λ is_honest base lost X same_id may.
          reads_hold spellings base old.panel.devices lost X old.history mid.history (surveys.reads is_honest) may.nothing_pending may.holds;
      refused = tt;
      cause = λ is_honest. inl why.1;
      unwritten = worn_first honest id old mid why.1 surveys.reads;
    })

-- no superblock counts
pub assembled_none : Spellings → (honest : Type 0) (id : List ℕ) (old mid : BankView) (answer : Result (Option Survey) Refusal)
    → Surveys honest id old mid answer
    → answer ≡ Ok None → PutsInOrder honest id old (Returned mid NoSet)
assembled_none spellings honest id old mid answer surveys is =
    not_in_order honest id old mid NoSet record {
      later = surveys.later;
      moments = λ is_honest base lost X same_id may.
          reads_hold spellings base old.panel.devices lost X old.history mid.history (surveys.reads is_honest) may.nothing_pending may.holds;
      refused = tt;
      cause = λ is_honest. (surveys.none is_honest is, surveys.reads is_honest);
      unwritten = none_unwritten honest id old mid surveys.reads (λ is_honest.
          subst (λ (n : ℕ). (slot : ℕ) → HasNone id n slot (readable mid.history slot)) surveys.later.devices (surveys.none is_honest is));
    }

-- two slots are not in full
pub assembled_two : Spellings → (honest told : Type 0) → (honest → told) → (id : List ℕ) (old mid : BankView) (table : Table) (first second : ℕ)
    → HasSurveyed honest id old mid table
    → IsOutOf told mid table (out.Two first second) → PutsInOrder honest id old (Returned mid TwoLost)
assembled_two spellings honest told still id old mid table first second has (apart, first_out, second_out) =
    not_in_order honest id old mid TwoLost record {
      later = has.later;
      moments = λ is_honest base lost X same_id may. surveyed_holds spellings base table old.panel.devices lost X old.history mid.history
          (surveyed_from honest id old mid table base lost X has is_honest same_id may);
      refused = tt;
      cause = λ is_honest. two_lost_then id mid.panel.devices old.history mid.history mid.history table first second record {
        from = calls_read old.history mid.history (has.reads is_honest);
        until = omega arith;
        cut = cut_whole (calls_of mid.history) mid.history (omega arith);
        chosen = subst (λ (n : ℕ). IsChosen id n (readable mid.history) table) (sym has.later.devices) (has.chosen is_honest);
        apart = apart;
        first_of_set = first_out.of_set;
        second_of_set = second_out.of_set;
        first_out = inr (first_out.out (still is_honest));
        second_out = inr (second_out.out (still is_honest));
        unwritten = λ out out'. has.reads is_honest;
      };
      unwritten = two_unwritten spellings honest id old mid table has.reads has.chosen;
    }
