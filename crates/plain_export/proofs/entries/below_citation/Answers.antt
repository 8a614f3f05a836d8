use Rattle.std.proofs.Common.{◌≡◌, Err, List, ℕ, map, rules, subst, sym}
use Rattle.std.specs.List.{filter}
use Rattle.plain_export.specs.Added.{data_lines, is_of, note_line}
use Rattle.plain_export.specs.Allowed.{page_line}
use Rattle.plain_export.specs.Fitting.{Fits}
use Rattle.plain_export.specs.declared.noted.Noted.{Noted}
use Rattle.plain_export.proofs.Failing.{lines_front, weaker}
use Rattle.plain_export.proofs.entries.below_citation.Goals as goal

pub returns-in_err-page-clause-refused : goal.returns-in_err-page-clause-refused
returns-in_err-page-clause-refused c =
    let same : c.from_residual-in_err-page.result ≡ Err c.in_err-page.field-0.0 = search rules in
    rw same (weaker _ (λ whole. subst (λ (t : List ℕ). Fits (page_line t)) (sym c.in_ok-page_words.ensures) whole.0)
    c.in_err-page.ensures.refused)

pub returns-in_err-put_data-clause-refused : goal.returns-in_err-put_data-clause-refused
returns-in_err-put_data-clause-refused c =
    let same : c.from_residual-in_err-put_data.result ≡ Err c.in_err-put_data.field-0.0 = search rules in
    rw same (weaker _ (λ whole. lines_front (data_lines c.args.entry.now)
    (map note_line (filter (λ (x : Noted). is_of c.args.number x.at) c.args.noted.now)) whole.1)
    c.in_err-put_data.ensures.refused)
