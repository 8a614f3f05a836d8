use Rattle.std.proofs.Common.{◌≡◌, List, ℕ, rules, subst, sym}
use Rattle.std.specs.Prelude.{codes, string_bytes}
use Rattle.std.specs.FinMap.{get}
use Rattle.record_shapes.specs.Shapes.{text_line}
use Rattle.plain_export.specs.Added.{shown}
use Rattle.plain_export.specs.Fitting.{Fits}
use Rattle.plain_export.specs.Words.{with_words}
use Rattle.plain_export.proofs.Failing.{fails_by}
use Rattle.plain_export.proofs.events.note_of.Goals as goal

pub returns-clause-refused : goal.returns-clause-refused
returns-clause-refused c =
    let p = c.args.participant.now in
    let same : string_bytes c.in_ok-words.words
    ≡ with_words (shown (get c.args.state.now.records p.person)) p.role = search rules in
    fails_by c.words_line.result (λ whole. subst (λ (t : List ℕ). Fits (text_line (codes "NOTE") t)) (sym same) whole)
    c.words_line.ensures.refused
