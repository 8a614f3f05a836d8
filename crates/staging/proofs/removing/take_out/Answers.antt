use Rattle.std.proofs.Common.{◌≡◌}
use Rattle.sqlite.specs.Held.{state}
use Rattle.store_rows.specs.Writing.{without_records}
use Rattle.staging.proofs.Cleared.{batch_leaves, batch_taken, clears_as, nothing_done, rows_leave}
use Rattle.staging.proofs.removing.take_out.Goals as goal

pub returns-in_err-take_later_if-clause-gone : goal.returns-in_err-take_later_if-clause-gone
returns-in_err-take_later_if-clause-gone g c clean = nothing_done _ c.from_residual.result c.from_residual.ensures.0

pub returns-in_err-take_later_if-clause-crash : goal.returns-in_err-take_later_if-clause-crash
returns-in_err-take_later_if-clause-crash g c clean rows was has unclosed aside are =
    c.in_err-take_later_if.ensures.crash clean rows was has aside are

pub returns-in_err-take_rows_out-clause-gone : goal.returns-in_err-take_rows_out-clause-gone
returns-in_err-take_rows_out-clause-gone g c clean =
    nothing_done _ c.from_residual-in_err-take_rows_out.result c.from_residual-in_err-take_rows_out.ensures.0

pub returns-in_err-take_rows_out-clause-crash : goal.returns-in_err-take_rows_out-clause-crash
returns-in_err-take_rows_out-clause-crash g c clean rows was has unclosed aside are =
    rows_leave c.args.has_spans c.args.numbers.now c.args.links.now (state g.S.Store c.args.conn.now)
    (state g.S.Store c.take_later_if.new.conn) (state g.S.Store c.take_rows_out.new.conn) c.take_rows_out.result
    c.in_ok-take_later_if.ensures.done c.take_rows_out.ensures.clears clean rows was has aside are

pub returns-clause-gone : goal.returns-clause-gone
returns-clause-gone g c =
    batch_taken c.args.has_spans c.args.batch c.args.numbers.now c.args.links.now (state g.S.Store c.args.conn.now)
    (state g.S.Store c.take_later_if.new.conn) (state g.S.Store c.take_rows_out.new.conn)
    (state g.S.Store c.clear_batch.new.conn) c.clear_batch.result c.in_ok-take_later_if.ensures.done
    (clears_as (λ rows after. after ≡ without_records c.args.numbers.now rows) tt tt
    c.in_ok-take_rows_out.ensures.clears (λ x y is. is)) c.clear_batch.ensures.clean c.clear_batch.ensures.done

pub returns-clause-crash : goal.returns-clause-crash
returns-clause-crash g c =
    batch_leaves c.args.has_spans c.args.batch c.args.numbers.now c.args.links.now (state g.S.Store c.args.conn.now)
    (state g.S.Store c.take_later_if.new.conn) (state g.S.Store c.take_rows_out.new.conn)
    (state g.S.Store c.clear_batch.new.conn) c.clear_batch.result c.in_ok-take_later_if.ensures.done
    (clears_as (λ rows after. after ≡ without_records c.args.numbers.now rows) tt tt
    c.in_ok-take_rows_out.ensures.clears (λ x y is. is)) c.clear_batch.ensures.clean c.clear_batch.ensures.crash
