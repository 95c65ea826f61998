-- Multiples of a stripe's blocks.
use Rattle.std.proofs.Common.{◌≡◌, ◌+◌, ◌-◌, ◌*◌, ◌/◌, ◌%◌, ℕ, inr, refl, sym, ◌∙◌, ap, ap₂}
use Rattle.std.specs.Prelude.{false}
use Rattle.std.proofs.lemmas.Bool.{true≢false}
use Rattle.std.proofs.Math.Nat.{mul-mod_left}
use denote.Enum.Bare.{sameb}
use Rattle.layout_map.specs.contracts.format.Format.{the_type}
use Rattle.layout_map.specs.declared.format.Format.{Format}
use Rattle.layout_map.specs.declared.format.Format.TheVariants.{One, Two}
use Rattle.layout_map.specs.declared.geometry.Geometry.{Geometry}
use Rattle.layout_map.specs.Placement.{stripe_blocks}
use Rattle.volume_table.proofs.store.zero_ranges.whole_stripes.Goals as goal

-- a format that is not the first
is_two : (format : Format) → sameb the_type format One ≡ false → format ≡ Two
is_two One other = absurd (true≢false other)
is_two Two other = refl

-- so many times a stripe's blocks
times_stripe : (geometry : Geometry) (k chunk others : ℕ) → chunk ≡ geometry.chunk → others ≡ geometry.members - 1
    → k * (chunk * others) % stripe_blocks geometry.members geometry.chunk ≡ 0
times_stripe geometry k chunk others one two =
    let same : chunk * others ≡ stripe_blocks geometry.members geometry.chunk = ap₂ (λ (a b : ℕ). a * b) one two in
    ap (λ (n : ℕ). k * n % stripe_blocks geometry.members geometry.chunk) same ∙ mul-mod_left k (stripe_blocks geometry.members geometry.chunk)

pub returns-clause-whole : goal.returns-clause-whole
returns-clause-whole c =
    let stripe = c.from.result * c.from-2.result in
    inr (
      is_two c.args.geometry.now.format (sym c.eq.ensures ∙ c.if-eq.false),
      times_stripe c.args.geometry.now ((c.from-3.result + stripe - 1) / stripe) c.from.result c.from-2.result c.from.ensures c.from-2.ensures,
      times_stripe c.args.geometry.now (c.from-4.result / stripe) c.from.result c.from-2.result c.from.ensures c.from-2.ensures,
    )
