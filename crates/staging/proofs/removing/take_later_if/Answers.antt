use Rattle.std.proofs.Common.{subst, ◌∙◌}
use Rattle.sqlite.specs.Held.{state}
use Rattle.store_tables.specs.Calls.{Settled}
use Rattle.store_tables.proofs.Queries.{only_committed}
use Rattle.staging.proofs.Cleared.{leaves_seen}
use Rattle.staging.proofs.Spans.{first_version}
use Rattle.staging.proofs.removing.take_later_if.Goals as goal

pub returns-else-has_spans-clause-done : goal.returns-else-has_spans-clause-done
returns-else-has_spans-clause-done g c clean rows was has =
    let now = state g.S.Store c.args.conn.now in
    let none = has ∙ c.if-has_spans.false in
    subst (Settled now) (first_version c.args.numbers.now c.args.links.now now rows was none) was

pub returns-else-has_spans-clause-crash : goal.returns-else-has_spans-clause-crash
returns-else-has_spans-clause-crash g c clean rows was has aside are =
    let now = state g.S.Store c.args.conn.now in
    leaves_seen rows now
    (λ t may. only_committed now rows t was (g.met.S.Store.settled c.args.conn.now.store t was.is_open may))
