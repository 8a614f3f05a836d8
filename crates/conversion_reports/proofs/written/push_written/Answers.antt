use Rattle.conversion_reports.proofs.Pieces.{changes_are, others_are, written_is}
use Rattle.conversion_reports.proofs.written.push_written.Goals as goal

pub returns : goal.returns
returns c =
    let found = c.in_ok-found.ensures in
    written_is c.args.set c.args.is_added _ c.args.told.now _ _ _ c.first_number-first.ensures.is
    (others_are _ _ _ _ _ _ found.other c.in_ok-push_others.ensures)
    (changes_are _ _ _ _ _ _ _ _ _ _ _ _ found.joined found.stray found.replaced found.marked
    c.in_ok-push_changes.ensures)
