use Rattle.staging.proofs.Drawing.{next_dated}
use Rattle.staging.proofs.dated.spans_of_puts.Goals as goal

pub puts-preserved : goal.puts-preserved
puts-preserved c =
    next_dated c.args.puts.now c.puts.put-index c.put-item.result c.puts.found.items c.push_dated.new.found.items
    c.puts-test.true c.put-item.is c.puts.invariant c.in_ok-push_dated.ensures
