use Rattle.std.proofs.Common.{◌≡◌, ℕ, Err, rules}
use Rattle.plain_export.specs.Added.{add, citation}
use Rattle.plain_export.proofs.Failing.{number_in, weaker}
use Rattle.plain_export.proofs.entries.add_citations.Goals as goal

pub returns-in_err-citation-clause-refused : goal.returns-in_err-citation-clause-refused
returns-in_err-citation-clause-refused c =
    let same : c.from_residual.result ≡ Err c.in_err-citation.field-0.0 = search rules in
    rw same (weaker _ (number_in (λ (n : ℕ). add n (citation c.args.entry.now c.args.noted.now n)) c.args.numbers.now
    c.numbers.number-index c.numbers-test.true) c.in_err-citation.ensures.refused)
