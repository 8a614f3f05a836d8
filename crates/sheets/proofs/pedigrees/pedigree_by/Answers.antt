use Rattle.std.proofs.Common.{ap, ◌∙◌, ℕ, string_bytes}
use Rattle.archive_state.specs.Content.{Content}
use Rattle.sheets.specs.Gathered.{Gathered, gathered}
use Rattle.sheets.specs.Pedigrees as pedigrees
use Rattle.sheets.proofs.Appending.{made}
use Rattle.sheets.proofs.pedigrees.pedigree_by.Goals as goal

pub returns : goal.returns
returns c = λ is.
    made (λ (g : Gathered). pedigrees.lines_to (pedigrees.line_at g c.args.subject) c.last_number-last.result)
    c.args.shown.now.records c.as_state.result.now.records c.args.index.now (string_bytes c.new-out.result) _
    c.new-out.ensures.bytes (ap (λ (x : Content). x.records) c.as_state.ensures) is
    c.in_ok-push_lines.ensures
    ∙ ap (λ (last : ℕ). pedigrees.lines_to
    (pedigrees.line_at (gathered c.args.shown.now.records) c.args.subject) last) c.last_number-last.ensures
