use Rattle.std.proofs.Common.{◌∙◌, ap, arith}
use Rattle.std.specs.List.{flat_map}
use Rattle.std.proofs.lemmas.List.{take_all}
use Rattle.staged_rows.specs.Staging.{sought_row}
use Rattle.staging.proofs.Seeking.{next_sought}
use Rattle.staging.proofs.looked_for.soughts_of_puts.Goals as goal

pub puts-preserved : goal.puts-preserved
puts-preserved c =
    next_sought c.args.puts.now c.puts.put-index c.put-item.result _ _ c.puts-test.true c.put-item.is
    c.in_ok-push_sought.ensures c.puts.invariant

pub returns : goal.returns
returns c =
    c.puts.invariant
    ∙ ap (flat_map sought_row) (take_all c.puts.put-index c.args.puts.now (omega (arith, c.puts-test.false)))
