-- After a publish whose calls were all answered the devices that got the superblock are up.
use Rattle.std.proofs.Common.{◌≡◌, ◌⊎◌, inl, inr, ℕ, true, false, List, [], ◌∷◌, ◌++◌, Contains, None, refl, sym, ◌∙◌, ap, subst, arith}
use Rattle.std.specs.Prelude.{map}
use Rattle.std.proofs.lemmas.List.Elements.{Contains-append_cases, Contains-push_cases}
use Rattle.sector_model.specs.Calls.{Call, Flush, Made, Performs, Read, Write, after_call, device_of}
use Rattle.sector_model.specs.History.{Bytes, History, is_down}
use Rattle.superblock.specs.declared.table.Table.{Table}
use Rattle.superblock.specs.Publishing.{first_slots, place_of, publish_calls, written_and_flushed}
use Rattle.superblock.proofs.PublishSteps.{GetsIt}

-- one of the calls is of this device
abbrev IsCalled : ℕ → List Call → Type 0
IsCalled device [] = ⊥
IsCalled device (call ∷ calls) = (device_of call ≡ device) ⊎ IsCalled device calls

called_left : (device : ℕ) (first second : List Call) → IsCalled device first → IsCalled device (first ++ second)
called_left device [] second never = absurd never
called_left device (call ∷ first) second (inl same) = inl same
called_left device (call ∷ first) second (inr later) = inr (called_left device first second later)

called_write : (at : ℕ) (sectors : ℕ → Bytes) (slots : List ℕ) (device : ℕ) → Contains slots device
    → IsCalled device (map (λ slot. Write slot at (sectors slot)) slots)
called_write at sectors [] device (k, below, is) = absurd (omega (arith, below))
called_write at sectors (slot ∷ slots) device has = elim (Contains-append_cases (slot ∷ []) slots device has) [
  | inl here ↦ elim (Contains-push_cases [] slot device here) [
    | inl (k, below, is) ↦ absurd (omega (arith, below))
    | inr same ↦ inl same
  ]
  | inr later ↦ inr (called_write at sectors slots device later)
]

answered_down : (call : Call) (h : History) (device : ℕ) → is_down (after_call call true h) device ≡ is_down h device
answered_down (Read at place) h device = refl
answered_down (Write at place value) h device = refl
answered_down (Flush at) h device = refl

-- calls that were all answered leave the devices as they are
pub all_answered_down : (calls : List Call) (old new : History) (device : ℕ) → Performs calls true old new → is_down new device ≡ is_down old device
all_answered_down [] old new device (all, is) = ap (λ (h : History). is_down h device) is
all_answered_down (call ∷ calls) old new device (inl (none, is)) = absurd (cc)
all_answered_down (call ∷ calls) old new device (inr (up, rest)) = all_answered_down calls (after_call call true old) new device rest
    ∙ answered_down call old device

-- and each device that was called was up
called_up : (calls : List Call) (old new : History) (device : ℕ) → Performs calls true old new → IsCalled device calls → is_down old device ≡ false
called_up [] old new device performed never = absurd never
called_up (call ∷ calls) old new device (inl (none, is)) called = absurd (cc)
called_up (call ∷ calls) old new device (inr (up, rest)) (inl same) = subst (λ (d : ℕ). is_down old d ≡ false) same up
called_up (call ∷ calls) old new device (inr (up, rest)) (inr later) =
    sym (answered_down call old device) ∙ called_up calls (after_call call true old) new device rest later

-- so those that got the superblock are up
pub marking_up : (table : Table) (sectors : ℕ → Bytes) (old new : History) → Made (publish_calls table None sectors) true old new → (device : ℕ)
    → GetsIt table None device
    → is_down new device ≡ false
marking_up table sectors old new made device gets =
    all_answered_down (publish_calls table None sectors) old new device made.performed
    ∙ called_up (publish_calls table None sectors) old new device made.performed (elim (Contains-append_cases (first_slots table None) [] device gets) [
      | inl first ↦
          called_left device (written_and_flushed table sectors (first_slots table None)) (written_and_flushed table sectors [])
          (called_left device (map (λ slot. Write slot (place_of table) (sectors slot)) (first_slots table None))
          (map (λ slot. Flush slot) (first_slots table None))
          (called_write (place_of table) sectors (first_slots table None) device first))
      | inr (k, below, is) ↦ absurd (omega (arith, below))
    ])
