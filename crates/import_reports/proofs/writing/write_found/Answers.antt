use Rattle.std.proofs.Common.{inl}
use Rattle.std.specs.Prelude.{string_bytes, option_map}
use Rattle.list_laws.proofs.Outcomes.{keeps}
use Rattle.import_reports.proofs.Written.{report_ends}
use Rattle.import_reports.proofs.writing.write_found.Goals as goal

pub returns-in-Ok-clause-ended : goal.returns-in-Ok-clause-ended
returns-in-Ok-clause-ended g c =
    rw c.in-Ok.is (λ k token f sure is.
    report_ends _ _ token f k c.write_some.result (option_map string_bytes c.in-Ok.text) c.write_some.ensures.ended
    is)

pub returns-in-Err-clause-ended : goal.returns-in-Err-clause-ended
returns-in-Err-clause-ended g c =
    rw c.in-Err.is (λ k token f sure stop.
    inl (inl (c.kept_refusal.ensures.want stop (sure c.if-is_lost.false)), keeps (g.W.Write.contents c.args.out.now)))
