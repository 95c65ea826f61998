-- What a commit of distinct sectors leaves of a list.
use Rattle.std.proofs.Common.{◌≡◌, ◌≢◌, ℕ, zero, suc, ◌<◌, List, [], ◌∷◌, length, get_or, refl, sym, ◌∙◌, arith}
use Rattle.std.proofs.lemmas.List.{get_or-set_same, get_or-set_other, length-set}
use Rattle.array_io.specs.Believed.ArrayCalls.{written}
use Rattle.volume_table.specs.Volumes.{Block}
use Rattle.volume_table.specs.StoreChanges.{no_sector}

pub length-written : (V : List Block) (sectors : List (ℕ × Block)) → length (written V sectors) ≡ length V
length-written V [] = refl
length-written V (sector ∷ sectors) = length-set (written V sectors) sector.0 sector.1 ∙ length-written V sectors

-- a sector that is not among them stays
pub written_elsewhere : (V : List Block) (sectors : List (ℕ × Block)) (k : ℕ) → ((i : ℕ) → i < length sectors → (get_or sectors i no_sector).0 ≢ k)
    → get_or (written V sectors) k [] ≡ get_or V k []
written_elsewhere V [] k apart = refl
written_elsewhere V (sector ∷ sectors) k apart =
    get_or-set_other (written V sectors) sector.0 k sector.1 [] (λ same. apart 0 (omega arith) (sym same))
    ∙ written_elsewhere V sectors k (λ i within. apart (suc i) (omega (arith, within)))

-- and one that is among them is as given
pub written_at : (V : List Block) (sectors : List (ℕ × Block)) (i : ℕ)
    → ((a b : ℕ) → a < b → b < length sectors → (get_or sectors a no_sector).0 ≢ (get_or sectors b no_sector).0)
    → i < length sectors → (get_or sectors i no_sector).0 < length V
    → get_or (written V sectors) (get_or sectors i no_sector).0 [] ≡ (get_or sectors i no_sector).1
written_at V [] i apart within below = absurd (omega (arith, within))
written_at V (sector ∷ sectors) zero apart within below =
    get_or-set_same (written V sectors) sector.0 sector.1 [] (omega (arith, below, length-written V sectors))
written_at V (sector ∷ sectors) (suc i) apart within below =
    get_or-set_other (written V sectors) sector.0 (get_or sectors i no_sector).0 sector.1 [] (λ same. apart 0 (suc i) (omega arith) within (sym same))
    ∙ written_at V sectors i (λ a b less b_within. apart (suc a) (suc b) (omega (arith, less)) (omega (arith, b_within))) (omega (arith, within)) below
