-- The slots of a bank over files, one by one.
use Rattle.std.proofs.Common.{◌≡◌, ℕ, zero, suc, ◌<◌, List, [], ◌∷◌, ◌++◌, length, Option, refl, sym, ◌∙◌, ap, subst, arith}
use Rattle.sector_model.specs.declared.files.Slot.{Slot}
use Rattle.sector_model.specs.DeviceFiles.{Contents}
use Rattle.sector_model.specs.Files.{slot_at, file_at, IsOpened, IsMade}

-- there are none yet
pub opened_none : {F : Type 0} (slots : List (Slot F)) (d : ℕ) → slots ≡ [] → IsOpened (slot_at slots d)
opened_none slots d none = subst (λ (l : List (Slot _)). IsOpened (slot_at l d)) (sym none) record { absent = λ _. refl; synced = refl }

pub made_none : {P : Type 0} (d : ℕ) → d < 0 → P
made_none d within = absurd (omega arith)

-- one more slot, as it is opened
pub opened_more : {F : Type 0} (slots : List (Slot F)) (slot : Slot F) → ((d : ℕ) → IsOpened (slot_at slots d)) → IsOpened slot → (d : ℕ)
    → IsOpened (slot_at (slots ++ slot ∷ []) d)
opened_more [] slot each last zero = last
opened_more [] slot each last (suc d) = record { absent = λ _. refl; synced = refl }
opened_more (first ∷ slots) slot each last zero = each 0
opened_more (first ∷ slots) slot each last (suc d) = opened_more slots slot (λ k. each (suc k)) last d

-- all slots, once the loop has taken all files
pub made_all : {F G : Type 0} {told : F → Contents} {there : G → Contents} {count : ℕ} (files yielded : List (Option F)) (slots : List (Slot G))
    → yielded ≡ files → count ≡ length files → ((d : ℕ) → d < length yielded → IsMade told there (file_at yielded d) (slot_at slots d)) → (d : ℕ) → d < count
    → IsMade told there (file_at files d) (slot_at slots d)
made_all {told = told} {there = there} files yielded slots all as_many made d within =
    subst (λ (l : List (Option _)). IsMade told there (file_at l d) (slot_at slots d)) all
    (made d (subst (λ (n : ℕ). d < n) (as_many ∙ sym (ap length all)) within))

-- one more slot, as it is made over its file
pub made_more : {F G : Type 0} {told : F → Contents} {there : G → Contents} (files : List (Option F)) (slots : List (Slot G)) (file : Option F) (slot : Slot G)
    → length slots ≡ length files
    → ((d : ℕ) → d < length files → IsMade told there (file_at files d) (slot_at slots d)) → IsMade told there file slot → (d : ℕ)
    → d < length (files ++ file ∷ []) → IsMade told there (file_at (files ++ file ∷ []) d) (slot_at (slots ++ slot ∷ []) d)
made_more [] [] file slot len each last zero within = last
made_more [] [] file slot len each last (suc d) within = absurd (omega arith)
made_more [] (first ∷ slots) file slot len each last d within = absurd (omega arith)
made_more (head ∷ files) [] file slot len each last d within = absurd (omega arith)
made_more (head ∷ files) (first ∷ slots) file slot len each last zero within = each 0 (omega arith)
made_more (head ∷ files) (first ∷ slots) file slot len each last (suc d) within =
    made_more files slots file slot (omega arith) (λ k lt. each (suc k) (omega (arith, lt))) last d (omega (arith, within))
