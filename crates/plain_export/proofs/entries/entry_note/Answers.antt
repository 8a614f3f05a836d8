use Rattle.std.proofs.Common.{◌≡◌, List, ℕ, rules, subst, sym}
use Rattle.std.specs.Prelude.{codes, string_bytes}
use Rattle.record_shapes.specs.Shapes.{text_line}
use Rattle.gedcom_export.specs.Shown.{around_in}
use Rattle.plain_export.specs.Added.{path_of}
use Rattle.plain_export.specs.Fitting.{Fits}
use Rattle.plain_export.specs.Words.{entry_words}
use Rattle.plain_export.proofs.Failing.{fails_by}
use Rattle.plain_export.proofs.entries.entry_note.Goals as goal

pub returns-clause-refused : goal.returns-clause-refused
returns-clause-refused c =
    let e = c.args.entry.now in
    let same : string_bytes c.in_ok-entry_words.field-0
    ≡ entry_words (path_of (around_in c.args.index.now) e.place) e = search rules in
    fails_by c.words_line.result (λ whole. subst (λ (t : List ℕ). Fits (text_line (codes "NOTE") t)) (sym same) whole)
    c.words_line.ensures.refused
