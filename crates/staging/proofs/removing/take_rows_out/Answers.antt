use Rattle.std.proofs.Common.{◌≡◌, ap, ◌∙◌}
use Rattle.store_rows.specs.Writing.{without_record_rows, without_records}
use Rattle.staging.proofs.Cleared.{clears_as, clears_lost, clears_then}
use Rattle.staging.proofs.removing.take_rows_out.Goals as goal

pub returns-in_err-take_lines_of-clause-clears : goal.returns-in_err-take_lines_of-clause-clears
returns-in_err-take_lines_of-clause-clears g c =
    clears_lost (λ rows after. after ≡ without_records c.args.numbers.now rows) c.in_err-take_lines_of.field-0.0
    c.from_residual.result c.from_residual.ensures.0 c.in_err-take_lines_of.ensures.clears

pub returns-clause-clears : goal.returns-clause-clears
returns-clause-clears g c =
    clears_then (λ rows after. after ≡ without_records c.args.numbers.now rows) c.take_rows.result
    (clears_as _ tt tt c.in_ok-take_lines_of.ensures.clears (λ x y is. is)) c.take_rows.ensures.clears
    (λ x y z p q. q ∙ ap (without_record_rows c.args.numbers.now) p)
