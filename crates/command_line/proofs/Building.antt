-- What the commands are that the program builds.
use Rattle.std.proofs.Common.{◌≡◌, ◌∙◌, refl, ap, ap₂, Bool, false, ◌||◌}
use Rattle.clap.specs.Simple.{App}
use Rattle.clap.specs.Walk.{Rule}
use Rattle.clap.specs.Words.{AddsArg, AddsSubcommand, app_of, rule_of, with_rule, with_subcommand}
use Rattle.clap.specs.declared.builder.arg.Arg.{Arg}
use Rattle.clap.specs.declared.builder.command.Command.{Command}
use Rattle.clap.specs.declared.builder.command.Command.TheViews.{out-Command}

-- a sum of two bits that are not set
pub neither : (a b sum : Bool) → sum ≡ (a || b) → a ≡ false → b ≡ false → sum ≡ false
neither a b sum e not_a not_b = e ∙ rw (not_a, not_b) refl

-- a command with one more argument
pub with_one : (old new : Command) (a : Arg) (app : App) (rule : Rule) → AddsArg old a new → a.global ≡ false → rule_of a ≡ rule
    → (app_of old ≡ app) × ((out-Command old).has_globals ≡ false) → (app_of new ≡ with_rule app rule) × ((out-Command new).has_globals ≡ false)
with_one old new a app rule added local is before =
    (added.shape local ∙ ap₂ with_rule before.0 is, neither _ _ _ added.globals before.1 local)

-- a command with one more subcommand
pub with_sub : (old sub new : Command) (app below : App) → AddsSubcommand old sub new → (app_of sub ≡ below) × ((out-Command sub).has_globals ≡ false)
    → app_of old ≡ app → app_of new ≡ with_subcommand app below.top
with_sub old sub new app below added is before = added.shape is.1 ∙ ap₂ with_subcommand before (ap (λ (a : App). a.top) is.0)
