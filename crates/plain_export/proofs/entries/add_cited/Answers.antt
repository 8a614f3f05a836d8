use Rattle.std.proofs.Common.{◌≡◌, Err, arith, length, rules}
use Rattle.std.proofs.lemmas.Grind.{common_steps}
use Rattle.gedcom_export.specs.Shown.{around_in}
use Rattle.plain_export.proofs.Failing.{citations_fit, fails_by, note_fits, weaker}
use Rattle.plain_export.proofs.entries.add_cited.Goals as goal

pub returns-in_err-note-clause-refused : goal.returns-in_err-note-clause-refused
returns-in_err-note-clause-refused c =
    let empty : length c.args.numbers.now ≡ 0 = grind (arith, common_steps) in
    let same : c.from_residual.result ≡ Err c.in_err-note.field-0.0 = search rules in
    rw same (weaker _
    (note_fits (around_in c.args.index.now) c.args.entry.now c.args.noted.now c.args.numbers.now empty)
    c.in_err-note.ensures.refused)

pub returns-clause-refused : goal.returns-clause-refused
returns-clause-refused c = fails_by c.add_citations.result
    (citations_fit (around_in c.args.index.now) c.args.entry.now c.args.noted.now c.args.numbers.now)
    c.add_citations.ensures.refused
