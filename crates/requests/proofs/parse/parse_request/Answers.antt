use Rattle.std.proofs.Common.{refl, sym, ap, ◌∙◌}
use Rattle.requests.specs.Words.{text_of}
use Rattle.requests.specs.declared.words.Word.TheVariants.{OnBlocks, OnVolumes, OnSet}
use Rattle.requests.proofs.DemandLemmas.{other_word, request_said, request_unsaid}
use Rattle.requests.proofs.parse.parse_request.Goals as goal

pub returns-in_err-word-clause-unsaid : goal.returns-in_err-word-clause-unsaid
returns-in_err-word-clause-unsaid c = λ _.
    let split = sym c.of-fields.ensures ∙ c.in_ok-next.ensures.steps in
    other_word _ _ _ split (c.in_err-word.ensures.unsaid refl)

pub returns-in-OnBlocks-clause-said : goal.returns-in-OnBlocks-clause-said
returns-in-OnBlocks-clause-said c =
    let split = sym c.of-fields.ensures ∙ c.in_ok-next.ensures.steps in
    let word = c.in_ok-word.ensures.said ∙ ap text_of c.in-OnBlocks.is in
    request_said _ _ _ split (OnBlocks c.in-OnBlocks.word) word c.parse_on_blocks.result c.parse_on_blocks.ensures.said

pub returns-in-OnBlocks-clause-unsaid : goal.returns-in-OnBlocks-clause-unsaid
returns-in-OnBlocks-clause-unsaid c = λ none.
    let split = sym c.of-fields.ensures ∙ c.in_ok-next.ensures.steps in
    let word = c.in_ok-word.ensures.said ∙ ap text_of c.in-OnBlocks.is in
    request_unsaid _ _ _ split (OnBlocks c.in-OnBlocks.word) word (c.parse_on_blocks.ensures.unsaid none)

pub returns-in-OnVolumes-clause-said : goal.returns-in-OnVolumes-clause-said
returns-in-OnVolumes-clause-said c =
    let split = sym c.of-fields.ensures ∙ c.in_ok-next.ensures.steps in
    let word = c.in_ok-word.ensures.said ∙ ap text_of c.in-OnVolumes.is in
    request_said _ _ _ split (OnVolumes c.in-OnVolumes.word) word c.parse_on_volumes.result c.parse_on_volumes.ensures.said

pub returns-in-OnVolumes-clause-unsaid : goal.returns-in-OnVolumes-clause-unsaid
returns-in-OnVolumes-clause-unsaid c = λ none.
    let split = sym c.of-fields.ensures ∙ c.in_ok-next.ensures.steps in
    let word = c.in_ok-word.ensures.said ∙ ap text_of c.in-OnVolumes.is in
    request_unsaid _ _ _ split (OnVolumes c.in-OnVolumes.word) word (c.parse_on_volumes.ensures.unsaid none)

pub returns-in-OnSet-clause-said : goal.returns-in-OnSet-clause-said
returns-in-OnSet-clause-said c =
    let split = sym c.of-fields.ensures ∙ c.in_ok-next.ensures.steps in
    let word = c.in_ok-word.ensures.said ∙ ap text_of c.in-OnSet.is in
    request_said _ _ _ split (OnSet c.in-OnSet.word) word c.parse_on_set.result c.parse_on_set.ensures.said

pub returns-in-OnSet-clause-unsaid : goal.returns-in-OnSet-clause-unsaid
returns-in-OnSet-clause-unsaid c = λ none.
    let split = sym c.of-fields.ensures ∙ c.in_ok-next.ensures.steps in
    let word = c.in_ok-word.ensures.said ∙ ap text_of c.in-OnSet.is in
    request_unsaid _ _ _ split (OnSet c.in-OnSet.word) word (c.parse_on_set.ensures.unsaid none)
