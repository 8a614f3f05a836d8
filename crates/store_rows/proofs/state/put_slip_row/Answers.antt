use Rattle.std.proofs.Common.{sym, ap, ◌∙◌}
use Rattle.store_tables.specs.Rows.{SlipRow}
use Rattle.store_rows.specs.Grouped.{slip_group_at}
use Rattle.store_rows.proofs.StateSlips.{one_slipped, again_slipped, none_copied, some_copied}
use Rattle.store_rows.proofs.state.put_slip_row.Goals as goal

pub returns-in_ok-put_slip-clause-read : goal.returns-in_ok-put_slip-clause-read
returns-in_ok-put_slip-clause-read c = λ rows was.
    rw (c.in_ok-put_slip.ensures, ap (λ (r : SlipRow). r.no) c.row.view_is)
    (one_slipped (slip_group_at c.args.groups.now) rows c.args.row.now c.args.state.now.slips c.in_ok-slip.slip
    (rw (← ap (λ (r : SlipRow). r.no) c.row.view_is)
    (sym c.slip.ensures ∙ none_copied c.slip.result c.if-is_none.ensures)) c.in_ok-slip.ensures.row
    c.in_ok-slip.ensures.changes was)

pub returns-else-is_none-clause-read : goal.returns-else-is_none-clause-read
returns-else-is_none-clause-read c = λ rows was.
    again_slipped (slip_group_at c.args.groups.now) rows c.args.row.now c.args.state.now.slips
    (λ none. some_copied c.slip.result c.if-is_none.ensures
    (c.slip.ensures ∙ (rw (ap (λ (r : SlipRow). r.no) c.row.view_is) none))) was
