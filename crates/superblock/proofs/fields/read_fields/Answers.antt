use Rattle.std.proofs.Common.{ℕ, List, take, drop, get_or, ap, ◌∙◌, Some, arith}
use Rattle.byteorder.specs.Endian.{little_number}
use Rattle.superblock.specs.declared.state.State.{State}
use Rattle.superblock.specs.Reading.{fields_of}
use Rattle.superblock.proofs.Found.{not_both, same_found}
use Rattle.superblock.proofs.Parts.{part_number}
use Rattle.superblock.proofs.Spelled.{fields_same, read_digit, read_id, read_generation, read_members, read_role, read_chunk, read_stripes, read_position}
use Rattle.superblock.proofs.fields.read_fields.Goals as goal

pub returns-in_err-format : goal.returns-in_err-format
returns-in_err-format c = λ s same. absurd (not_both c.format_of_digit.result s.table.geometry.format c.in_err-format.was (c.format_of_digit.ensures
    s.table.geometry.format (ap (λ (x : List ℕ). get_or x 7 0) same ∙ read_digit s)))

pub returns : goal.returns
returns c = λ s same.
    let read = same_found c.read_entries.result (c.in_ok-states.states, c.in_ok-states.incarnations) (s.table.states, s.table.incarnations) c.in_ok-states.was
    (c.read_entries.ensures s same) in
    let format = same_found c.format_of_digit.result c.in_ok-format.format s.table.geometry.format c.in_ok-format.was (c.format_of_digit.ensures
    s.table.geometry.format (ap (λ (x : List ℕ). get_or x 7 0) same ∙ read_digit s)) in
    let got = fields_same _ (fields_of s)
    format
    (c.copy_from_slice.ensures.after ∙ ap (λ (x : List ℕ). take 16 (drop 8 x)) same ∙ read_id s)
    (c.read_u64.ensures ∙ part_number 8 488 (drop 24 c.args.from.now) (omega arith) ∙ ap (λ (x : List ℕ). little_number 8 (drop 24 x)) same ∙ read_generation s)
    (ap (λ (x : List ℕ). get_or x 32 0) same ∙ read_members s)
    (ap (λ (x : List ℕ). get_or x 33 0) same ∙ read_role s)
    (c.read_u16.ensures ∙ part_number 2 478 (drop 34 c.args.from.now) (omega arith) ∙ ap (λ (x : List ℕ). little_number 2 (drop 34 x)) same ∙ read_chunk s)
    (c.read_u32.ensures ∙ part_number 4 476 (drop 36 c.args.from.now) (omega arith) ∙ ap (λ (x : List ℕ). little_number 4 (drop 36 x)) same ∙ read_stripes s)
    (ap (λ (p : List State × List ℕ). p.0) read)
    (ap (λ (p : List State × List ℕ). p.1) read)
    (c.read_u64-2.ensures ∙ part_number 8 312 (drop 200 c.args.from.now) (omega arith) ∙ ap (λ (x : List ℕ). little_number 8 (drop 200 x)) same
    ∙ read_position s) in
    ap Some got
