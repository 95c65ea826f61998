-- What is answered where a range of blocks is looked at.
use Rattle.std.proofs.Common.{◌≡◌, ℕ, List, [], ◌∷◌, None, Some, Ok, Err, sym, ◌∙◌, ap, subst}
use Rattle.std.specs.Prelude.{Contains, IfErr, IfOk, Result}
use Rattle.std.proofs.lemmas.Option.{none-some, same_Some}
use Rattle.sector_model.specs.declared.refusal.Refusal.{Refusal}
use Rattle.sector_model.specs.declared.refusal.Refusal.TheVariants.{BadCount, NoVolume, OutOfRange}
use Rattle.extents.specs.declared.extent_layout.ExtentLayout.{ExtentLayout}
use Rattle.volume_table.specs.Admission.{HasBlocksAt, ShowsBy, refusal_in}
use Rattle.volume_table.specs.StagedParts.{Admits}
use Rattle.volume_table.specs.Stands.{StoreView}
use Rattle.volume_table.specs.StoreCalls.{extents_for_store}
use Rattle.volume_table.specs.VolumeStep.{first_refusal}
use Rattle.volume_table.specs.Volumes.{Block, VolumeMap}
use Rattle.volume_table.specs.Zeroing.{checks_of_zero}

abbrev number_of : ℕ → Result ℕ Refusal
number_of number = Ok number

abbrev refused_with : Refusal → Result ℕ Refusal
refused_with refusal = Err refusal

same_number : (first second : ℕ) → number_of first ≡ Ok second → first ≡ second
same_number first second is = cc

same_refusal : (first second : Refusal) → refused_with first ≡ Err second → first ≡ second
same_refusal first second is = cc

not_refused : (number : ℕ) (refusal : Refusal) → number_of number ≡ Err refusal → ⊥
not_refused number refusal is = cc

not_done : (refusal : Refusal) (number : ℕ) → refused_with refusal ≡ Ok number → ⊥
not_done refusal number is = cc

-- of a store that no refusal ended
pub admits_by : (store : StoreView) (name : List ℕ) (at count : ℕ) (answer : Result ℕ Refusal) → store.ended ≡ None
    → IfOk answer (λ number. ∥ HasBlocksAt store.keeps.records name number at count ∥₁)
    → IfErr answer (λ refusal. Contains (NoVolume ∷ BadCount ∷ OutOfRange ∷ []) refusal)
    → ((extents : ExtentLayout) (logical : List Block) (volumes : VolumeMap) → ShowsBy extents store.keeps logical volumes
    → refusal_in answer ≡ first_refusal (checks_of_zero name at count volumes.volumes))
    → Admits store name at count answer
admits_by store name at count (Ok number) going found listed decides = record {
  ended = λ refusal is. absurd (none-some refusal (sym going ∙ is));
  refused = λ on refusal is. absurd (not_refused number refusal is);
  admitted = λ other is. record {
    going = going;
    has = subst (λ (n : ℕ). ∥ HasBlocksAt store.keeps.records name n at count ∥₁) (same_number number other is) found;
    decides = λ logical volumes by. decides (extents_for_store store) logical volumes by;
  };
}
admits_by store name at count (Err refusal) going found listed decides = record {
  ended = λ other is. absurd (none-some other (sym going ∙ is));
  refused = λ on other is.
      let same = same_refusal refusal other is in
      record {
        listed = subst (λ (r : Refusal). Contains (NoVolume ∷ BadCount ∷ OutOfRange ∷ []) r) same listed;
        decides = λ logical volumes by. ap Some (sym same) ∙ decides (extents_for_store store) logical volumes by;
      };
  admitted = λ number is. absurd (not_done refusal number is);
}

-- of one that a refusal ended
pub admits_none : (store : StoreView) (name : List ℕ) (at count : ℕ) (refusal : Refusal) → store.ended ≡ Some refusal
    → Admits store name at count (Err refusal)
admits_none store name at count refusal ended = record {
  ended = λ other is. ap (λ (r : Refusal). Err r) (same_Some refusal other (sym ended ∙ is));
  refused = λ going other is. absurd (none-some refusal (sym going ∙ ended));
  admitted = λ number is. absurd (not_done refusal number is);
}
