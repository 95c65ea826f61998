use Rattle.std.specs.Prelude.{vec_len}
use Rattle.std.proofs.Common.{◌≡◌, ℕ, ◌<◌, refl, subst, arith}
use Rattle.sector_model.specs.Memory.{slots_of}
use Rattle.array_io.specs.Oracle.{AreLive}
use Rattle.array_io.proofs.Oracles.Readings.{none_live, one_more_live}
use Rattle.array_io.proofs.oracle.image_rows.live_members.Goals as goal

pub loop-member-preserved : goal.loop-member-preserved
loop-member-preserved c =
    let below : c.loop-member.member < c.args.table.now.geometry.members = c.loop-member-test.true in
    one_more_live (vec_len c.args.image.now.slots) c.args.table.now (slots_of c.args.image.now.slots.items) c.loop-member.member c.loop-member.live
    c.is_live_at.result below c.loop-member.invariant c.is_live_at.ensures

pub loop-member-init : goal.loop-member-init
loop-member-init c = none_live (vec_len c.args.image.now.slots) c.args.table.now (slots_of c.args.image.now.slots.items) _ refl

pub bounds-live-member : goal.bounds-live-member
bounds-live-member c = omega (arith, c.loop-member-test.true, c.args.table.now.geometry.limits.members_most)

pub returns : goal.returns
returns c =
    let all : c.loop-member.member ≡ c.args.table.now.geometry.members = omega (arith, c.loop-member.auto.member-end, c.loop-member-test.false) in
    subst (λ (n : ℕ). AreLive (vec_len c.args.image.now.slots) c.args.table.now (slots_of c.args.image.now.slots.items) n c.loop-member.live) all
    c.loop-member.invariant
