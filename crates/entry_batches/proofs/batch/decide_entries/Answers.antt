use Rattle.entry_batches.proofs.Decided.{exact_over}
use Rattle.entry_batches.proofs.batch.decide_entries.Goals as goal

pub returns-clause-exact : goal.returns-clause-exact
returns-clause-exact g c =
    exact_over g.V.View.is_honest g.V.View.shows g.V.View.content c.args.view.now c.next_behind.new.view
    c.with_rows.new.view c.args.source c.args.rows.now c.in_ok-made.made c.in_ok-next.next c.in_ok-changes.field-0
    c.in_ok-next.ensures.decides c.in_ok-made.ensures.decides c.in_ok-changes.ensures
