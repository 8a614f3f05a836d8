use Rattle.std.proofs.Common.{Ok, Err, refl}
use Rattle.sqlite.specs.Held.{state}
use Rattle.store_tables.proofs.Queries.{only_committed}
use Rattle.staging.specs.Clearing.{IsThinned}
use Rattle.staging.proofs.Cleared.{begun, clears_as, clears_lost, clears_then}
use Rattle.staging.proofs.Steps.{fewer_lines}
use Rattle.staging.proofs.Thinned.{thinned_more}
use Rattle.staging.proofs.removing.thin.Goals as goal

pub parts-init : goal.parts-init
parts-init g c = (
  c.requires.autocommit,
  λ ns has. begun ns (IsThinned c.args.number) (state g.S.Store c.args.conn.now)
      (λ rows t was may. only_committed (state g.S.Store c.args.conn.now) rows t was
      (g.met.S.Store.settled c.args.conn.now.store t was.is_open may)) (λ rows ks is. refl),
)

pub clear_lines_from-requires : goal.clear_lines_from-requires
clear_lines_from-requires g c = record { autocommit = c.parts.invariant.0 }

pub parts-preserved : goal.parts-preserved
parts-preserved g c = (
  c.clear_lines_from.ensures.ended,
  λ ns has.
      let did = c.in_ok-clear_lines_from.ensures in
      clears_then (IsThinned c.args.number) (Ok tt) (c.parts.invariant.1 ns has)
      (fewer_lines ns (state g.S.Store c.parts.conn) (state g.S.Store c.clear_lines_from.new.conn) (Ok tt) did.clean
      c.args.number _ has did.done did.crash) (thinned_more c.args.number),
)

pub returns-in_err-clear_lines_from-clause-clears : goal.returns-in_err-clear_lines_from-clause-clears
returns-in_err-clear_lines_from-clause-clears g c ns has =
    let did = c.in_err-clear_lines_from.ensures in
    let e = c.in_err-clear_lines_from.field-0.0 in
    clears_lost (IsThinned c.args.number) e c.from_residual.result c.from_residual.ensures.0
    (clears_then (IsThinned c.args.number) (Err e) (c.parts.invariant.1 ns has)
    (fewer_lines ns (state g.S.Store c.parts.conn) (state g.S.Store c.clear_lines_from.new.conn) (Err e) did.clean
    c.args.number _ has did.done did.crash) (thinned_more c.args.number))

pub returns-clause-clears : goal.returns-clause-clears
returns-clause-clears g c ns has = clears_as (IsThinned c.args.number) tt tt (c.parts.invariant.1 ns has) (λ x y is. is)
