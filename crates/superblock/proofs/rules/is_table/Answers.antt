use Rattle.std.proofs.Common.{refl, rules}
use Rattle.std.proofs.lemmas.Bool.{false≢true}
use Rattle.superblock.proofs.Judged.{ten_slots, table_iff, table_missing, table_numbered, table_out}
use Rattle.superblock.proofs.rules.is_table.Goals.{then-not-matches-via-then-not-matches, then-not-matches-via-else-not-matches+then-not-are_numbered}
use Rattle.superblock.proofs.rules.is_table.Goals.{then-not-matches-via-else-not-matches+else-not-are_numbered+then-not-are_missing_beyond}
use Rattle.superblock.proofs.rules.is_table.Goals.{
  then-not-matches-via-else-not-matches+else-not-are_numbered+else-not-are_missing_beyond+then-not-are_out_once,
}
use Rattle.superblock.proofs.rules.is_table.Goals as goal

pub are_numbered-requires : goal.are_numbered-requires
are_numbered-requires c = ten_slots c.args.geometry.now.limits.members_most

pub are_missing_beyond-requires : goal.are_missing_beyond-requires
are_missing_beyond-requires c = ten_slots c.args.geometry.now.limits.members_most

pub are_out_once-requires : goal.are_out_once-requires
are_out_once-requires c = ten_slots c.args.geometry.now.limits.members_most

pub returns-then-not-matches : goal.returns-then-not-matches
returns-then-not-matches c = (
  λ no. absurd (false≢true no),
  λ is. elim c.then-not-matches.branch [
    | then-not-matches-via-then-not-matches w ↦ search rules
    | then-not-matches-via-else-not-matches+then-not-are_numbered w ↦ w.if-not-are_numbered.ensures.1 (table_numbered is)
    | then-not-matches-via-else-not-matches+else-not-are_numbered+then-not-are_missing_beyond w ↦ w.if-not-are_missing_beyond.ensures.1 (table_missing is)
    | then-not-matches-via-else-not-matches+else-not-are_numbered+else-not-are_missing_beyond+then-not-are_out_once w ↦
        w.if-not-are_out_once.ensures.1 (table_out is)
  ],
)

pub returns : goal.returns
returns c =
    let fields = c.args.fields.now in
    table_iff _ fields.generation c.args.geometry.now fields.states fields.incarnations fields.position (search rules) (search rules) (search rules)
    (search rules)
    (c.if-not-are_numbered.ensures.0 refl) (c.if-not-are_missing_beyond.ensures.0 refl) (c.if-not-are_out_once.ensures.0 refl) c.is_position.ensures
