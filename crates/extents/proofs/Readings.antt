-- Cells that are read one after the other.
use Rattle.std.proofs.Common.{◌≡◌, ℕ, ◌+◌, ◌-◌, ◌*◌, ◌/◌, ◌%◌, ◌<◌, ◌≤◌, List, [], ◌∷◌, ◌++◌, Option, Some, None, length, take, drop, get_or, refl, sym, ap}
use Rattle.std.proofs.Common.{◌∙◌, subst, below_more, arith}
use Rattle.std.specs.Option.{IfSome}
use Rattle.std.proofs.lemmas.List.{get_or_append_left, get_or_push}
use Rattle.extents.specs.declared.record.Record.{Record}
use Rattle.extents.specs.Cells.{cell, IsRecordAt}
use Rattle.extents.specs.TableSpelling.{record_bytes}
use Rattle.extents.specs.Versions.{most_volumes, record_width, records_a_sector}
use Rattle.extents.specs.VolumeTables.{IsShort}
use Rattle.extents.proofs.Cells.{cut}

-- the part of a sector that a record has
abbrev pub part_of : (sectors : List (List ℕ)) (number width each : ℕ) → List ℕ
part_of sectors number width each = take (width * (number % each) + width - width * (number % each))
    (drop (width * (number % each)) (get_or sectors (1 + number / each) []))

-- it is the record's cell
pub cell_cut : (version : ℕ) (sectors : List (List ℕ)) (number width each : ℕ) → width ≡ record_width version → each ≡ records_a_sector version
    → cell (record_width version) (records_a_sector version) 1 sectors number ≡ part_of sectors number width each
cell_cut version sectors number width each wide many =
    ap (λ (w : ℕ). cell w (records_a_sector version) 1 sectors number) (sym wide)
    ∙ ap (λ (n : ℕ). cell width n 1 sectors number) (sym many)
    ∙ cut (width * (number % each)) width (get_or sectors (1 + number / each) [])

-- after the records of the version there is none
pub none_is_at : (version : ℕ) (sectors : List (List ℕ)) (number : ℕ) → most_volumes version ≤ number → IsRecordAt version sectors number None
none_is_at version sectors number past = record {
  spelled = λ below. absurd (omega arith);
  few = λ same. refl;
  short = λ used is. absurd (let no : ⊥ = cc in no);
}

-- what was read of a record's part is at its place
pub read_is_at : (version : ℕ) (sectors : List (List ℕ)) (number width each : ℕ) (read : Option (Option Record)) → width ≡ record_width version
    → each ≡ records_a_sector version → number < most_volumes version
    → IfSome read (λ r. IsShort version r) → IfSome read (λ r. part_of sectors number width each ≡ record_bytes version r)
    → IfSome read (λ r. IsRecordAt version sectors number r)
read_is_at version sectors number width each None wide many below short is = short
read_is_at version sectors number width each (Some one) wide many below short is = record {
  spelled = λ within. cell_cut version sectors number width each wide many ∙ is;
  few = λ past. absurd (omega arith);
  short = short;
}

-- one more was read, of which this holds
pub one_more_read : {X : Type 0} (P : ℕ → Option X → Type 0) (items now : List (Option X)) (n : ℕ) (one : Option X) → now ≡ items ++ one ∷ [] → length items ≡ n
    → ((k : ℕ) → k < n → P k (get_or items k None)) → P n one → (k : ℕ) → k < n + 1 → P k (get_or now k None)
one_more_read P items now n one is long so_far last =
    below_more (λ k. P k (get_or now k None)) n
    (λ k below. subst (P k) (sym (get_or_append_left items (one ∷ []) None k (omega arith)) ∙ ap (λ ys. get_or ys k None) (sym is)) (so_far k below))
    (subst (P n) (sym (get_or_push items one None n long) ∙ ap (λ ys. get_or ys n None) (sym is)) last)
