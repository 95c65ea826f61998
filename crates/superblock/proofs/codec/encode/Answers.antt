use Rattle.std.proofs.Common.{ℕ, List, ◌++◌, ap, ◌∙◌}
use Rattle.superblock.specs.Spelling.{entries_bytes, superblock_sector, tail_bytes}
use Rattle.superblock.proofs.codec.encode.Goals as goal

pub returns : goal.returns
unfolding superblock_sector
returns c =
    let s = c.args.superblock.now in
    c.write_tail.ensures
    ∙ ap (λ (x : List ℕ). x ++ tail_bytes s) (c.write_entries.ensures
    ∙ ap (λ (x : List ℕ). x ++ entries_bytes 10 s.table.states s.table.incarnations) c.write_head.ensures)
