-- What a text with spaces around it is, as the formats of the code write it.
use Rattle.std.proofs.Common.{◌≡◌, ℕ, ◌-◌, ◌^◌, ◌<◌, ◌++◌, ◌∷◌, [], List, Bool, true, false, nat_lt, if◌then◌else◌, codes, refl, ap, sym, ◌∙◌, decimal, rules}
use mathlib.Core.List.{append_assoc}
use Rattle.std.specs.Char.{encode_utf8}
use Rattle.std.specs.Fmt.{padded, padded_integral, format_spec, char_count, take_chars, digits}
use Rattle.std.proofs.lemmas.Fmt.{decimal_digit}
use Rattle.superblock.specs.declared.state.State.{State}
use Rattle.superblock.specs.declared.state.State.TheVariants.{Missing, InSync, Rebuilding}
use Rattle.report.specs.Report.{at_left, at_right, role_word, state_word}

-- what the options `:<8` and `:<10` write
abbrev pub padded_in : ℕ → List ℕ → List ℕ
padded_in places text = padded (format_spec 32 1 0 places (2 ^ 64 - 1)) text

-- what the option `:>2` writes of a number with these digits
abbrev pub padded_in_two : List ℕ → List ℕ
padded_in_two digits = padded_integral (format_spec 32 3 0 2 (2 ^ 64 - 1)) false [] digits

-- a state's word
pub state_padded : (state : State) → padded_in 10 (state_word state) ≡ at_left 10 (state_word state)
unfolding padded char_count take_chars encode_utf8 at_left
state_padded Missing = refl
state_padded InSync = refl
state_padded Rebuilding = refl

-- a role's word
either_padded : (b : Bool) → padded_in 8 (if b then codes "member" else codes "journal") ≡ at_left 8 (if b then codes "member" else codes "journal")
unfolding padded char_count take_chars encode_utf8 at_left
either_padded true = refl
either_padded false = refl

pub role_padded : (members slot : ℕ) → padded_in 8 (role_word members slot) ≡ at_left 8 (role_word members slot)
role_padded members slot = either_padded (nat_lt slot members)

-- the number of a slot
pub number_padded : (slot : ℕ) → slot < 10 → padded_in_two (decimal slot) ≡ at_right 2 (decimal slot)
unfolding padded_integral char_count encode_utf8 at_right
number_padded slot low =
    ap (λ (text : List ℕ). padded_in_two text) (decimal_digit slot low)
    ∙ sym (ap (λ (text : List ℕ). at_right 2 text) (decimal_digit slot low))

-- the line of a slot, of these parts
abbrev pub written : List ℕ → List ℕ → List ℕ → List ℕ → List ℕ
written number role state incarnation =
    number ++ 32 ∷ (role ++ 32 ∷ (state ++ 32 ∷ (incarnation ++ 10 ∷ [])))

-- such a line is the parts one after the other
pub spelled : (number role state incarnation : List ℕ) → written number role state incarnation
    ≡ number ++ codes " " ++ role ++ codes " " ++ state ++ codes " " ++ incarnation ++ codes "\n"
spelled number role state incarnation = search (rules, append_assoc)
