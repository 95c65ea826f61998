use Rattle.std.proofs.Common.{ltb, rules}
use Rattle.std.proofs.lemmas.List.Sorted.{IsPartitionPoint-from_clause, IsPartitionedBy-ltb}
use Rattle.sector_model.specs.declared.memory.Entry.{Entry}
use Rattle.sector_model.proofs.Images.{never_fall, part_before}
use Rattle.sector_model.proofs.memory.after_crash.entries_before.Goals as goal

pub returns : goal.returns
returns c =
    let log = c.args.log.now in
    part_before c.args.call c.partition_point-count.result log c.partition_point-count.ensures.bound
    (IsPartitionPoint-from_clause (λ entry. ltb entry.call c.args.call) log _ c.partition_point-count.ensures.partitioned
    (IsPartitionedBy-ltb (λ (entry : Entry). entry.call) log c.args.call (never_fall log c.requires)) (λ a r q k. search rules))
