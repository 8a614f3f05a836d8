use Rattle.sqlite.specs.Held.{state}
use Rattle.staging.proofs.Cleared.{later_leaves, later_taken, nothing_done}
use Rattle.staging.proofs.removing.take_later.Goals as goal

pub returns-in_err-take_spans-clause-done : goal.returns-in_err-take_spans-clause-done
returns-in_err-take_spans-clause-done g c clean = nothing_done _ c.from_residual.result c.from_residual.ensures.0

pub returns-in_err-take_spans-clause-crash : goal.returns-in_err-take_spans-clause-crash
returns-in_err-take_spans-clause-crash g c clean rows was has aside are =
    c.in_err-take_spans.ensures.crash clean rows was has aside

pub returns-clause-done : goal.returns-clause-done
returns-clause-done g c =
    later_taken c.args.numbers.now c.args.links.now (state g.S.Store c.args.conn.now)
    (state g.S.Store c.take_spans.new.conn) (state g.S.Store c.take_links.new.conn) c.take_links.result
    c.in_ok-take_spans.ensures.done c.take_links.ensures.clean c.take_links.ensures.done

pub returns-clause-crash : goal.returns-clause-crash
returns-clause-crash g c =
    later_leaves c.args.numbers.now c.args.links.now (state g.S.Store c.args.conn.now)
    (state g.S.Store c.take_spans.new.conn) (state g.S.Store c.take_links.new.conn) c.take_links.result
    c.in_ok-take_spans.ensures.done c.take_links.ensures.clean c.take_links.ensures.crash
