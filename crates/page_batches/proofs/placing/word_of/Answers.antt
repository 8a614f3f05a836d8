use Rattle.std.proofs.Common.{◌∙◌, ◌++◌, ◌∷◌, ap}
use Rattle.page_batches.proofs.Hexed.{boundary, token_is}
use Rattle.page_batches.proofs.placing.word_of.Goals as goal

pub range-requires-clause-end_boundary : goal.range-requires-clause-end_boundary
range-requires-clause-end_boundary c = boundary c.args.digest.now c.deref.result.now
    (c.deref.ensures ∙ c.in_ok-digits.ensures) c.requires c.type_inv.digest

pub returns-clause-token : goal.returns-clause-token
returns-clause-token c = token_is c.args.digest.now c.deref.result.now (c.deref.ensures ∙ c.in_ok-digits.ensures)
    c.requires c.type_inv.digest _
    (c.in_ok-push_str.ensures.bytes
    ∙ (ap (λ s. s ++ c.range.result.now) c.in_ok-words.ensures.ok ∙ ap (λ r. 112 ∷ r) c.range.ensures.value))
