use Rattle.std.proofs.Common.{◌≡◌, Err, List, ℕ, rules, subst, sym}
use Rattle.std.specs.Prelude.{codes, string_bytes}
use Rattle.record_shapes.specs.Shapes.{text_line}
use Rattle.plain_export.specs.Allowed.{one_line}
use Rattle.plain_export.specs.Fitting.{Fits}
use Rattle.plain_export.specs.Words.{relation_words}
use Rattle.plain_export.proofs.Failing.{weaker}
use Rattle.plain_export.proofs.events.below_association.Goals as goal

pub returns-in_err-words_line-clause-refused : goal.returns-in_err-words_line-clause-refused
returns-in_err-words_line-clause-refused c =
    let role : string_bytes c.in_ok-relation-2.relation
    ≡ one_line (relation_words c.args.participant.now.role) = search rules in
    let same : c.from_residual-in_err-words_line.result ≡ Err c.in_err-words_line.field-0.0 = search rules in
    rw same (weaker _ (λ whole. subst (λ (t : List ℕ). Fits (text_line (codes "RELA") t)) (sym role) whole.0)
    c.in_err-words_line.ensures.refused)

pub returns-in_err-words_line-2-clause-refused : goal.returns-in_err-words_line-2-clause-refused
returns-in_err-words_line-2-clause-refused c =
    let same : c.from_residual-in_err-words_line-2.result ≡ Err c.in_err-words_line-2.field-0.0 = search rules in
    rw same (weaker _
    (λ whole. subst (λ (t : List ℕ). Fits (text_line (codes "NOTE") t)) (sym c.in_ok-words.ensures) whole.1.0)
    c.in_err-words_line-2.ensures.refused)
