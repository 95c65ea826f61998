-- Values with the same fields are one.
use Rattle.std.proofs.Common.{◌≡◌, ℕ, ◌≤◌, Bool, List, Option, Some, None, true, false, sym, ◌∙◌, ap, subst}
use Rattle.std.specs.Prelude.{◌↔◌, IsSome, IfSome}
use Rattle.std.proofs.Props.{props}
use mathlib.Core.HLevel.{is_prop→PathP}
use Rattle.extents.specs.declared.extent_layout.ExtentLayout.{ExtentLayout}
use Rattle.extents.specs.declared.name.Name.{Name}
use Rattle.extents.specs.declared.record.Record.{Record}
use Rattle.extents.specs.declared.volume_table.VolumeTable.{VolumeTable}
use Rattle.extents.specs.Layouts.{IsExtentLayout}
use Rattle.extents.specs.Names.{IsGoodName}
use Rattle.extents.specs.VolumeTables.{AreFlags, IsVolumeTable}
use Rattle.extents.specs.declared.record.TheConstants.{MOST_BLOCKS}

IsGoodName-prop : (bytes : List ℕ) → IsProp (IsGoodName bytes)
IsGoodName-prop bytes = hlevel props

truncated-prop : {A : Type 0} → IsProp ∥ A ∥₁
truncated-prop {A} = hlevel props

same_name : (a b : Name) → a.bytes.items ≡ b.bytes.items → a ≡ b
same_name a b bytes = λ i. record {
  bytes = record { items = bytes i };
  good = is_prop→PathP (λ j. IsGoodName (bytes j)) (λ j. IsGoodName-prop (bytes j)) a.good b.good i;
}

pub same_record : (a b : Record) → a.name.bytes.items ≡ b.name.bytes.items → a.blocks ≡ b.blocks → a ≡ b
same_record a b name blocks = λ i. record {
  name = same_name a.name b.name name i;
  blocks = blocks i;
  some = is_prop→PathP (λ j. 1 ≤ blocks j) (λ j. hlevel props) a.some b.some i;
  most = is_prop→PathP (λ j. blocks j ≤ MOST_BLOCKS) (λ j. hlevel props) a.most b.most i;
}

IsExtentLayout-prop : (first blocks count : ℕ) → IsProp (IsExtentLayout first blocks count)
IsExtentLayout-prop first blocks count = hlevel props

pub same_layout : (a b : ExtentLayout) → a.format ≡ b.format → a.first ≡ b.first → a.blocks ≡ b.blocks → a.count ≡ b.count → a ≡ b
same_layout a b format first blocks count = λ i. record {
  format = format i;
  first = first i;
  blocks = blocks i;
  count = count i;
  limits = is_prop→PathP (λ j. IsExtentLayout (first j) (blocks j) (count j)) (λ j. IsExtentLayout-prop (first j) (blocks j) (count j)) a.limits b.limits i;
}

AreFlags-prop : (version : ℕ) (dirty : List Bool) → IsProp (AreFlags version dirty)
AreFlags-prop version dirty = hlevel props

pub same_table : (a b : VolumeTable) → a.version ≡ b.version → a.records ≡ b.records → a.extents ≡ b.extents → a.dirty ≡ b.dirty → a ≡ b
same_table a b version records extents dirty = λ i. record {
  version = version i;
  records = records i;
  extents = extents i;
  dirty = dirty i;
  is_table = is_prop→PathP (λ j. ∥ IsVolumeTable (version j) (records j) (extents j) ∥₁) (λ j. truncated-prop) a.is_table b.is_table i;
  flags = is_prop→PathP (λ j. AreFlags (version j) (dirty j)) (λ j. AreFlags-prop (version j) (dirty j)) a.flags b.flags i;
}

-- the name that was made of a good name's bytes is that name
pub made_name : (r : Option Name) (bytes : List ℕ) → (IsSome r ↔ IsGoodName bytes) → IfSome r (λ name. name.bytes.items ≡ bytes) → (name : Name)
    → bytes ≡ name.bytes.items → r ≡ Some name
made_name None bytes some same name is = absurd (let P : List ℕ → Type 0 = IsGoodName in let no : false ≡ true =
    some.1 (subst P (sym is) name.good) in let bad : ⊥ = cc in bad)
made_name (Some made) bytes some same name is = ap Some (same_name made name (same ∙ is))
