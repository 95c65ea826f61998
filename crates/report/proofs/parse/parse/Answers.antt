use Rattle.std.proofs.Common.{Some, refl, sym, ap, ◌∙◌}
use Rattle.volume_table.specs.VolumeStep.{Create, Extend}
use Rattle.report.proofs.CommandLemmas.{create_unsaid, extend_unsaid, list_said, list_unsaid, other_unsaid, read_said, read_unsaid, remove_said, remove_unsaid}
use Rattle.report.proofs.CommandLemmas.{rename_said, rename_unsaid, sized_said, write_said, write_unsaid}
use Rattle.report.proofs.parse.parse.Goals as goal

pub returns-in_err-of-clause-unsaid : goal.returns-in_err-of-clause-unsaid
returns-in_err-of-clause-unsaid c = λ _.
    let split = sym c.of-fields.ensures ∙ c.in_ok-next.ensures.steps in
    other_unsaid _ _ _ split (c.in_err-of.ensures.none refl)

pub returns-in-List-clause-said : goal.returns-in-List-clause-said
returns-in-List-clause-said c =
    let split = sym c.of-fields.ensures ∙ c.in_ok-next.ensures.steps in
    let word = c.in_ok-of.ensures.list (ap Some c.in-List.is) in
    list_said _ _ _ split word c.parse_list.result c.parse_list.ensures.said

pub returns-in-List-clause-unsaid : goal.returns-in-List-clause-unsaid
returns-in-List-clause-unsaid c = λ none.
    let split = sym c.of-fields.ensures ∙ c.in_ok-next.ensures.steps in
    let word = c.in_ok-of.ensures.list (ap Some c.in-List.is) in
    list_unsaid _ _ _ split word (c.parse_list.ensures.unsaid none)

pub returns-in-Create-clause-said : goal.returns-in-Create-clause-said
returns-in-Create-clause-said c =
    let split = sym c.of-fields.ensures ∙ c.in_ok-next.ensures.steps in
    let word = c.in_ok-of.ensures.create (ap Some c.in-Create.is) in
    sized_said _ _ _ split Create (λ name count. word) (λ name count are. are) c.parse_create.result c.parse_create.ensures.said

pub returns-in-Create-clause-unsaid : goal.returns-in-Create-clause-unsaid
returns-in-Create-clause-unsaid c = λ none.
    let split = sym c.of-fields.ensures ∙ c.in_ok-next.ensures.steps in
    let word = c.in_ok-of.ensures.create (ap Some c.in-Create.is) in
    create_unsaid _ _ _ split word (c.parse_create.ensures.unsaid none)

pub returns-in-Extend-clause-said : goal.returns-in-Extend-clause-said
returns-in-Extend-clause-said c =
    let split = sym c.of-fields.ensures ∙ c.in_ok-next.ensures.steps in
    let word = c.in_ok-of.ensures.extend (ap Some c.in-Extend.is) in
    sized_said _ _ _ split Extend (λ name count. word) (λ name count are. are) c.parse_extend.result c.parse_extend.ensures.said

pub returns-in-Extend-clause-unsaid : goal.returns-in-Extend-clause-unsaid
returns-in-Extend-clause-unsaid c = λ none.
    let split = sym c.of-fields.ensures ∙ c.in_ok-next.ensures.steps in
    let word = c.in_ok-of.ensures.extend (ap Some c.in-Extend.is) in
    extend_unsaid _ _ _ split word (c.parse_extend.ensures.unsaid none)

pub returns-in-Remove-clause-said : goal.returns-in-Remove-clause-said
returns-in-Remove-clause-said c =
    let split = sym c.of-fields.ensures ∙ c.in_ok-next.ensures.steps in
    let word = c.in_ok-of.ensures.remove (ap Some c.in-Remove.is) in
    remove_said _ _ _ split word c.parse_remove.result c.parse_remove.ensures.said

pub returns-in-Remove-clause-unsaid : goal.returns-in-Remove-clause-unsaid
returns-in-Remove-clause-unsaid c = λ none.
    let split = sym c.of-fields.ensures ∙ c.in_ok-next.ensures.steps in
    let word = c.in_ok-of.ensures.remove (ap Some c.in-Remove.is) in
    remove_unsaid _ _ _ split word (c.parse_remove.ensures.unsaid none)

pub returns-in-Rename-clause-said : goal.returns-in-Rename-clause-said
returns-in-Rename-clause-said c =
    let split = sym c.of-fields.ensures ∙ c.in_ok-next.ensures.steps in
    let word = c.in_ok-of.ensures.rename (ap Some c.in-Rename.is) in
    rename_said _ _ _ split word c.parse_rename.result c.parse_rename.ensures.said

pub returns-in-Rename-clause-unsaid : goal.returns-in-Rename-clause-unsaid
returns-in-Rename-clause-unsaid c = λ none.
    let split = sym c.of-fields.ensures ∙ c.in_ok-next.ensures.steps in
    let word = c.in_ok-of.ensures.rename (ap Some c.in-Rename.is) in
    rename_unsaid _ _ _ split word (c.parse_rename.ensures.unsaid none)

pub returns-in-Read-clause-said : goal.returns-in-Read-clause-said
returns-in-Read-clause-said c =
    let split = sym c.of-fields.ensures ∙ c.in_ok-next.ensures.steps in
    let word = c.in_ok-of.ensures.read (ap Some c.in-Read.is) in
    read_said _ _ _ split word c.parse_read.result c.parse_read.ensures.said

pub returns-in-Read-clause-unsaid : goal.returns-in-Read-clause-unsaid
returns-in-Read-clause-unsaid c = λ none.
    let split = sym c.of-fields.ensures ∙ c.in_ok-next.ensures.steps in
    let word = c.in_ok-of.ensures.read (ap Some c.in-Read.is) in
    read_unsaid _ _ _ split word (c.parse_read.ensures.unsaid none)

pub returns-in-Write-clause-said : goal.returns-in-Write-clause-said
returns-in-Write-clause-said c =
    let split = sym c.of-fields.ensures ∙ c.in_ok-next.ensures.steps in
    let word = c.in_ok-of.ensures.write (ap Some c.in-Write.is) in
    write_said _ _ _ split word c.parse_write.result c.parse_write.ensures.said

pub returns-in-Write-clause-unsaid : goal.returns-in-Write-clause-unsaid
returns-in-Write-clause-unsaid c = λ none.
    let split = sym c.of-fields.ensures ∙ c.in_ok-next.ensures.steps in
    let word = c.in_ok-of.ensures.write (ap Some c.in-Write.is) in
    write_unsaid _ _ _ split word (c.parse_write.ensures.unsaid none)
