use Rattle.std.proofs.Common.{Ok, ap, not, ◌∙◌}
use Rattle.store_tables.specs.Rows.{BatchRow}
use Rattle.store_tables.proofs.ReadingRows.{looks_with}
use Rattle.store_rows.proofs.Seen.{one_closed, none_closed}
use Rattle.store_rows.proofs.looking.is_closed.Goals as goal

pub returns-in-Some-clause-looks : goal.returns-in-Some-clause-looks
returns-in-Some-clause-looks g c =
    looks_with (Ok _) (rw c.in-Some.is at c.in_ok-row.ensures.looks)
    (λ rows one. ap (λ (b : BatchRow). not b.is_open) c.row.view_is ∙ one_closed c.args.batch rows.batches
    c.in-Some.row one) tt

pub returns-in-None-clause-looks : goal.returns-in-None-clause-looks
returns-in-None-clause-looks g c = looks_with (Ok _) (rw c.in-None.is at c.in_ok-row.ensures.looks)
    (λ rows none. none_closed c.args.batch rows.batches none) tt
