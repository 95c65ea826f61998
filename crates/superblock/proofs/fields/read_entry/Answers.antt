use Rattle.std.proofs.Common.{◌≡◌, ◌+◌, ◌-◌, ◌*◌, ap, ◌∙◌, take, drop, get_or, Some, refl, arith}
use Rattle.byteorder.specs.Endian.{little_number}
use Rattle.superblock.specs.Tables.{state_at}
use Rattle.superblock.proofs.Parts.{part_number}
use Rattle.superblock.proofs.Spelled.{read_state, read_incarnation}
use Rattle.superblock.proofs.fields.read_entry.Goals as goal

pub returns-in_err-state : goal.returns-in_err-state
returns-in_err-state c = λ s same.
    let state = state_at s.table.states c.args.slot in
    let read = ap (λ x. get_or x (40 + 16 * c.args.slot) 0) same ∙ read_state s c.args.slot (40 + 16 * c.args.slot) c.requires refl in
    let found : c.from_byte.result ≡ Some state = c.from_byte.ensures state read in
    let was = c.in_err-state.was in
    absurd cc

pub returns : goal.returns
returns c = λ s same.
    let state = state_at s.table.states c.args.slot in
    let at = 40 + 16 * c.args.slot + 8 in
    let read = ap (λ x. get_or x (40 + 16 * c.args.slot) 0) same ∙ read_state s c.args.slot (40 + 16 * c.args.slot) c.requires refl in
    let found : c.from_byte.result ≡ Some state = c.from_byte.ensures state read in
    let was = c.in_ok-state.was in
    let number : c.read_u64.result ≡ little_number 8 (take (512 - at) (drop at c.args.from.now)) = c.read_u64.ensures in
    let incarnation = part_number 8 (512 - at) (drop at c.args.from.now) (omega arith) ∙ ap (λ x. little_number 8 (drop at x)) same
    ∙ read_incarnation s c.args.slot at c.requires (omega arith) in
    cc
