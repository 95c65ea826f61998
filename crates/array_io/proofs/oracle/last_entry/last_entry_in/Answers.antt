use Rattle.std.specs.Prelude.{vec_len}
use Rattle.std.proofs.Common.{◌≡◌, ◌<◌, ◌+◌, Some, None, arith}
use Rattle.sector_model.specs.Memory.{slots_of}
use Rattle.stripe_journal.specs.declared.seal.Seal.{Seal}
use Rattle.array_io.proofs.Oracles.Evaluated.{lower_is_last, none_is_last, sealed_as, upper_is_last}
use Rattle.array_io.proofs.oracle.last_entry.last_entry_in.Goals as goal

pub returns-then-lower-upper : goal.returns-then-lower-upper
returns-then-lower-upper c =
    let devices = vec_len c.args.image.now.slots in
    let table = c.args.table.now in
    let image = slots_of c.args.image.now.slots.items in
    let low = c.in-Some-Some.lower in
    let high = c.in-Some-Some.upper in
    upper_is_last devices table image (Some low) high
    (sealed_as devices table image table.geometry.members c.sealed_at-lower.result (Some low) c.in-Some-Some.is-0 c.sealed_at-lower.ensures)
    (sealed_as devices table image (table.geometry.members + 1) c.sealed_at-upper.result (Some high) c.in-Some-Some.is-1 c.sealed_at-upper.ensures)
    (λ s is. above s low high is c.if-lower-upper.true)
  where
    above : (s low high : Seal) → Some low ≡ Some s → low.number < high.number → s.number < high.number
    above s low high is less = let same : low ≡ s = cc in let numbers : low.number ≡ s.number = cc in omega arith

pub returns-else-lower-upper : goal.returns-else-lower-upper
returns-else-lower-upper c =
    let devices = vec_len c.args.image.now.slots in
    let table = c.args.table.now in
    let image = slots_of c.args.image.now.slots.items in
    let low = c.in-Some-Some.lower in
    let high = c.in-Some-Some.upper in
    lower_is_last devices table image low (Some high)
    (sealed_as devices table image table.geometry.members c.sealed_at-lower.result (Some low) c.in-Some-Some.is-0 c.sealed_at-lower.ensures)
    (sealed_as devices table image (table.geometry.members + 1) c.sealed_at-upper.result (Some high) c.in-Some-Some.is-1 c.sealed_at-upper.ensures)
    c.if-lower-upper.false

pub returns-in-Some-None : goal.returns-in-Some-None
returns-in-Some-None c =
    let devices = vec_len c.args.image.now.slots in
    let table = c.args.table.now in
    let image = slots_of c.args.image.now.slots.items in
    let low = c.in-Some-None.seal in
    lower_is_last devices table image low None
    (sealed_as devices table image table.geometry.members c.sealed_at-lower.result (Some low) c.in-Some-None.is-0 c.sealed_at-lower.ensures)
    (sealed_as devices table image (table.geometry.members + 1) c.sealed_at-upper.result None c.in-Some-None.is-1 c.sealed_at-upper.ensures)
    tt

pub returns-in-None-Some : goal.returns-in-None-Some
returns-in-None-Some c =
    let devices = vec_len c.args.image.now.slots in
    let table = c.args.table.now in
    let image = slots_of c.args.image.now.slots.items in
    let high = c.in-None-Some.seal in
    upper_is_last devices table image None high
    (sealed_as devices table image table.geometry.members c.sealed_at-lower.result None c.in-None-Some.is-0 c.sealed_at-lower.ensures)
    (sealed_as devices table image (table.geometry.members + 1) c.sealed_at-upper.result (Some high) c.in-None-Some.is-1 c.sealed_at-upper.ensures)
    (λ s is. absurd cc)

pub returns-in-None-None : goal.returns-in-None-None
returns-in-None-None c =
    let devices = vec_len c.args.image.now.slots in
    let table = c.args.table.now in
    let image = slots_of c.args.image.now.slots.items in
    none_is_last devices table image
    (sealed_as devices table image table.geometry.members c.sealed_at-lower.result None c.in-None-None.is-0 c.sealed_at-lower.ensures)
    (sealed_as devices table image (table.geometry.members + 1) c.sealed_at-upper.result None c.in-None-None.is-1 c.sealed_at-upper.ensures)
