use Rattle.std.proofs.Common.{Option, ap, sym}
use Rattle.superblock.specs.declared.table.Superblock.{Superblock}
use Rattle.superblock.specs.Newest.{newer_of}
use Rattle.superblock.proofs.Newest.{newer_alone, newer_first, newer_second}
use Rattle.superblock.proofs.counting.newer.Goals as goal

pub returns-in-Some-Some : goal.returns-in-Some-Some
returns-in-Some-Some c = newer_second c.args.first c.args.second c.in-Some-Some.old c.in-Some-Some.new c.in-Some-Some.is-0 c.in-Some-Some.is-1 c.if-old-new.true

pub returns-in-Some-default : goal.returns-in-Some-default
returns-in-Some-default c = newer_first c.args.first c.args.second c.in-Some-Some.old c.in-Some-Some.new c.in-Some-Some.is-0 c.in-Some-Some.is-1
    c.if-old-new.false

pub returns-in-Some-default-2 : goal.returns-in-Some-default-2
returns-in-Some-default-2 c = newer_alone c.args.first c.args.second c.in-Some-default.field-0-0 c.in-Some-default.is-0 c.in-Some-default.is-1

pub returns-in-None-default : goal.returns-in-None-default
returns-in-None-default c = sym (ap (λ (f : Option Superblock). newer_of f c.args.second) c.in-None-default.is-0)
