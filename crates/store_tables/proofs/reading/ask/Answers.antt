use Rattle.std.proofs.Common.{inl, inr}
use Rattle.std.proofs.lemmas.Result.{IfErr-weaker}
use Rattle.sqlite.specs.Held.{state}
use Rattle.sqlite.specs.Values.{bound}
use Rattle.sqlite.proofs.Callers.{never_commits}
use Rattle.store_tables.proofs.Queries.{unchanged_by, still_settled, plain_under, only_committed}
use Rattle.store_tables.proofs.Failing.{fails_known}
use Rattle.store_tables.proofs.Calls.{if_ok}
use Rattle.store_tables.proofs.reading.ask.Goals as goal

pub returns-clause-same : goal.returns-clause-same
returns-clause-same g c clean =
    let old = state g.S.Store c.args.conn.now in
    let new = state g.S.Store c.query_all.new.self in
    if_ok c.query_all.result
    (λ read shown rows was. still_settled old new rows
    (unchanged_by _ _ old new read.items (plain_under c.args.sql.now old c.requires.plain rows.has_spans was.schema)
    shown) was)
    (c.query_all.ensures.ok clean)

pub returns-clause-known : goal.returns-clause-known
returns-clause-known g c clean =
    let old = state g.S.Store c.args.conn.now in
    let new = state g.S.Store c.query_all.new.self in
    IfErr-weaker c.query_all.result _ _
    (λ e fails rows was. fails_known c.args.sql.now rows.has_spans (c.requires.plain rows.has_spans) old new was.schema
    (bound c.args.params.now) e fails) (c.query_all.ensures.err clean)

pub returns-clause-crash : goal.returns-clause-crash
returns-clause-crash g c clean rows was t leaves =
    let old = state g.S.Store c.args.conn.now in
    elim (c.query_all.ensures.survives.crash clean t leaves) [
      | inl before ↦ only_committed old rows t was (g.met.S.Store.settled c.args.conn.now.store t was.is_open before)
      | inr commits ↦ absurd
          (never_commits _ _ old t (plain_under c.args.sql.now old c.requires.plain rows.has_spans was.schema) commits)
    ]
