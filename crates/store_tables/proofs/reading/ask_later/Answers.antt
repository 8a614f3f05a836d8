use Rattle.sqlite.specs.Held.{state}
use Rattle.sqlite.specs.Values.{bound}
use Rattle.store_tables.proofs.Calls.{if_ok}
use Rattle.store_tables.proofs.LaterQueries.{leaves_later, settled_later}
use Rattle.store_tables.proofs.reading.ask_later.Goals as goal

pub returns-clause-same : goal.returns-clause-same
returns-clause-same g c clean =
    let old = state g.S.Store c.args.conn.now in
    let new = state g.S.Store c.query_all.new.self in
    if_ok c.query_all.result
    (λ read shown rows was. settled_later c.args.sql.now (bound c.args.params.now) c.requires.later rows.has_spans old
    new read.items rows was.schema was shown) (c.query_all.ensures.ok clean)

pub returns-clause-crash : goal.returns-clause-crash
returns-clause-crash g c clean =
    leaves_later c.args.sql.now (bound c.args.params.now) c.requires.later (state g.S.Store c.args.conn.now)
    (state g.S.Store c.query_all.new.self)
    (λ is_open t. g.met.S.Store.settled c.args.conn.now.store t is_open) c.query_all.ensures.survives clean
