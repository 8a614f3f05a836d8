use Rattle.std.proofs.Common.{ℕ, Ok, ap, ◌∙◌}
use Rattle.store_tables.proofs.ReadingRows.{looks_as, looks_then, looks_with}
use Rattle.store_rows.specs.Meaning.{is_closed}
use Rattle.store_rows.proofs.Seen.{one_recorded, none_recorded}
use Rattle.store_rows.proofs.looking.has_record.Goals as goal

pub returns-in-Some-clause-looks : goal.returns-in-Some-clause-looks
returns-in-Some-clause-looks g c =
    looks_as c.is_closed.result (λ rows is both. both.1 ∙ ap (λ (r : ℕ × ℕ). is_closed r.1 rows.batches) c.row.view_is
    ∙ one_recorded c.args.number rows c.in-Some.row both.0)
    (looks_then (rw c.in-Some.is at c.in_ok-row.ensures.looks) c.is_closed.ensures.looks)

pub returns-in-None-clause-looks : goal.returns-in-None-clause-looks
returns-in-None-clause-looks g c = looks_with (Ok _) (rw c.in-None.is at c.in_ok-row.ensures.looks)
    (λ rows none. none_recorded c.args.number rows none) tt
