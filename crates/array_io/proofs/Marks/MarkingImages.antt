-- Which slots get the new superblock where a slot is marked missing: those in sync.
use Rattle.std.proofs.Common.{◌≡◌, ◌⊎◌, inl, inr, ℕ, ◌+◌, ◌<◌, ◌&&◌, Bool, true, false, cond, List, [], ◌∷◌, Contains, None, refl, sym, ◌∙◌, ap, subst, arith}
use Rattle.std.specs.Prelude.{filter, not}
use Rattle.std.specs.List.{range_with_len}
use Rattle.std.proofs.lemmas.Bool.{cases_lt}
use Rattle.std.proofs.lemmas.List.Elements.{Contains-append_left, Contains-append_right, Contains-append_cases, Contains-push, Contains-push_cases}
use Rattle.std.proofs.lemmas.List.FromFn.{get_or-range_with_len, length-range_with_len}
use Rattle.superblock.specs.declared.state.State.{State}
use Rattle.superblock.specs.declared.state.State.TheVariants.{InSync, Missing, Rebuilding}
use Rattle.superblock.specs.declared.table.Table.{Table}
use Rattle.superblock.specs.NextTables.{slots_of}
use Rattle.superblock.specs.Publishing.{first_slots, is_last}
use Rattle.superblock.specs.States.{is_in_sync}
use Rattle.superblock.specs.Tables.{state_at}
use Rattle.superblock.proofs.PublishSteps.{GetsIt}
use Rattle.array_io.proofs.Laws.Beginning.{state_in_sync}

-- which slots get a superblock

no_number : (y : ℕ) → ¬ Contains [] y
no_number y (k, below, is) = omega (arith, below)

past_first : (x y : ℕ) (xs : List ℕ) (p : ℕ → Bool) → Contains xs y × (p y ≡ true) → Contains (x ∷ xs) y × (p y ≡ true)
past_first x y xs p (has, passes) = (Contains-append_right (x ∷ []) xs y has, passes)

-- what a filter leaves was there, and passes
filter_has : (p : ℕ → Bool) (xs : List ℕ) (y : ℕ) → Contains (filter p xs) y → Contains xs y × (p y ≡ true)
filter_has p [] y has = absurd (no_number y has)
filter_has p (x ∷ xs) y has = by_case (λ later. past_first x y xs p (filter_has p xs y later)) (p x) refl has
  where
    by_case : (Contains (filter p xs) y → Contains (x ∷ xs) y × (p y ≡ true)) → (b : Bool) → p x ≡ b → Contains (cond b (x ∷ filter p xs) (filter p xs)) y
        → Contains (x ∷ xs) y × (p y ≡ true)
    by_case rest true is left = elim (Contains-append_cases (x ∷ []) (filter p xs) y left) [
      | inl here ↦ elim (Contains-push_cases [] x y here) [
        | inl never ↦ absurd (no_number y never)
        | inr same ↦ (subst (Contains (x ∷ xs)) same (Contains-append_left (x ∷ []) xs x (Contains-push [] x)), ap p (sym same) ∙ is)
      ]
      | inr later ↦ rest later
    ]
    by_case rest false is left = rest left

-- what passes is left
filter_leaves : (p : ℕ → Bool) (xs : List ℕ) (y : ℕ) → Contains xs y → p y ≡ true → Contains (filter p xs) y
filter_leaves p [] y has passes = absurd (no_number y has)
filter_leaves p (x ∷ xs) y has passes = elim (Contains-append_cases (x ∷ []) xs y has) [
  | inl here ↦ elim (Contains-push_cases [] x y here) [
    | inl never ↦ absurd (no_number y never)
    | inr same ↦ subst (λ (b : Bool). Contains (cond b (x ∷ filter p xs) (filter p xs)) y) (sym (ap p same ∙ passes))
        (subst (Contains (x ∷ filter p xs)) same (Contains-append_left (x ∷ []) (filter p xs) x (Contains-push [] x)))
  ]
  | inr later ↦ with_first (p x) (filter_leaves p xs y later passes)
]
  where
    with_first : (b : Bool) → Contains (filter p xs) y → Contains (cond b (x ∷ filter p xs) (filter p xs)) y
    with_first true left = Contains-append_right (x ∷ []) (filter p xs) y left
    with_first false left = left

range_has : (n y : ℕ) → Contains (range_with_len 0 n) y → y < n
range_has n y (k, below, is) =
    let within : k < n = omega (arith, below, length-range_with_len 0 n) in
    omega (arith, within, sym is ∙ get_or-range_with_len 0 n k y within)

range_reaches : (n y : ℕ) → y < n → Contains (range_with_len 0 n) y
range_reaches n y below = (y, omega (arith, below, length-range_with_len 0 n), get_or-range_with_len 0 n y y below ∙ none_added)
  where
    none_added : 0 + y ≡ y
    none_added = omega arith

passes_in_sync : (state : State) → (is_in_sync state && true) ≡ true → state ≡ InSync
passes_in_sync Missing passes = absurd (cc)
passes_in_sync InSync passes = refl
passes_in_sync Rebuilding passes = absurd (cc)

-- with no last slot the slots in sync get it, and no other
pub gets_is : (table : Table) (slot : ℕ) → GetsIt table None slot → (slot < slots_of table) × (state_at table.states slot ≡ InSync)
gets_is table slot gets = elim (Contains-append_cases (first_slots table None) [] slot gets) [
  | inl first ↦
      let has = filter_has (λ s. is_in_sync (state_at table.states s) && not (is_last None s)) (range_with_len 0 (slots_of table)) slot first in
      (range_has (slots_of table) slot has.0, passes_in_sync (state_at table.states slot) has.1)
  | inr never ↦ absurd (no_number slot never)
]

pub gets_it : (table : Table) (slot : ℕ) → slot < slots_of table → state_at table.states slot ≡ InSync → GetsIt table None slot
gets_it table slot of_set in_sync =
    Contains-append_left (first_slots table None) [] slot
    (filter_leaves (λ s. is_in_sync (state_at table.states s) && not (is_last None s)) (range_with_len 0 (slots_of table)) slot
    (range_reaches (slots_of table) slot of_set) (ap (λ (s : State). is_in_sync s && true) in_sync))

pub gets_or_not : (table : Table) (slot : ℕ) → GetsIt table None slot ⊎ ¬ GetsIt table None slot
gets_or_not table slot = elim (cases_lt slot (slots_of table)) [
  | inl of_set ↦ elim (state_in_sync (state_at table.states slot)) [
    | inl in_sync ↦ inl (gets_it table slot of_set in_sync)
    | inr out ↦ inr (λ gets. out (gets_is table slot gets).1)
  ]
  | inr beyond ↦ inr (λ gets. omega (arith, beyond, (gets_is table slot gets).0))
]
