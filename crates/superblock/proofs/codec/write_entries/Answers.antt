use Rattle.std.proofs.Common.{◌≡◌, ℕ, ◌+◌, ◌-◌, ◌*◌, ◌<◌, ◌++◌, ◌∷◌, [], sym, ap, subst, ◌∙◌, take, refl, arith}
use Rattle.std.proofs.lemmas.List.{append-nil}
use Rattle.byteorder.specs.Endian.{little_bytes}
use Rattle.superblock.specs.Spelling.{entries_bytes, state_byte, zeros}
use Rattle.superblock.specs.Tables.{state_at, incarnation_at}
use Rattle.superblock.proofs.Parts.{Begins, begins_with, begins_field, begins_number, begins_byte, part_long}
use Rattle.superblock.proofs.Spelled.{entries_none, entries_more, length-zeros, zeros_are}
use Rattle.superblock.proofs.codec.write_entries.Goals as goal

pub loop-slot-init : goal.loop-slot-init
loop-slot-init c =
    let front = take 40 c.args.to.now in
    let none : front ≡ front ++ entries_bytes 0 c.args.states.now c.args.incarnations.now =
    sym (append-nil front) ∙ ap (λ x. front ++ x) (sym (entries_none c.args.states.now c.args.incarnations.now)) in
    subst (λ x. Begins 40 c.args.to.now x) none (begins_with 40 c.args.to.now c.told-to)

pub loop-slot-preserved : goal.loop-slot-preserved
loop-slot-preserved c =
    let slot = c.loop-slot.slot in
    let state = state_at c.args.states.now slot in
    let incarnation = incarnation_at c.args.incarnations.now slot in
    let at = 40 + 16 * slot in
    let before = take 40 c.args.to.now in
    let within : slot < 10 = c.loop-slot-test.true in
    let said : c.byte.result ≡ state_byte state = c.byte.ensures in
    let stated = begins_byte at (at + 1) c.byte.result c.loop-slot.to _ c.loop-slot.invariant (omega arith) refl in
    let filled = begins_field (at + 1) (at + 8 - (at + 1)) (at + 8) _ c.fill.new.self (zeros 7) _ stated (omega arith) (omega arith)
    (c.fill.ensures.after (λ y same. cc) ∙ zeros_are _ 7 (part_long (at + 1) (at + 8 - (at + 1)) _ _ stated (omega arith) ∙ omega arith))
    (length-zeros 7 ∙ omega arith) in
    let numbered = begins_number (at + 8) (512 - (at + 8)) (40 + 16 * (slot + 1)) 8 incarnation _ c.write_u64.new.buf _ filled (omega arith) (omega arith)
    (omega arith) c.write_u64.ensures in
    let spelled =
    ap (λ (n : ℕ). (((before ++ entries_bytes slot c.args.states.now c.args.incarnations.now) ++ (n ∷ [])) ++ zeros 7) ++ little_bytes 8 incarnation) said
    ∙ entries_more before slot c.args.states.now c.args.incarnations.now in
    record { long = numbered.long; front_is = numbered.front_is ∙ spelled }

pub returns : goal.returns
returns c =
    let ten : c.loop-slot.slot ≡ 10 = omega arith in
    let whole = subst (λ (n : ℕ). Begins (40 + 16 * n) c.loop-slot.to (take 40 c.args.to.now ++ entries_bytes n c.args.states.now c.args.incarnations.now)) ten
    c.loop-slot.invariant in
    whole.front_is
