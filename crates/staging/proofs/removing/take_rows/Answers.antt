use Rattle.std.proofs.Common.{◌≡◌, ◌++◌, [], Ok, Err, refl, sym, ap, ◌∙◌, append_assoc, arith, rules}
use Rattle.sqlite.specs.Held.{state}
use Rattle.store_rows.specs.Writing.{without_record_rows}
use Rattle.store_tables.proofs.Queries.{only_committed}
use Rattle.staging.proofs.Cleared.{begun, clears_as, clears_lost}
use Rattle.staging.proofs.Steps.{rows_go_on}
use Rattle.staging.proofs.Thinned.{none_left}
use Rattle.staging.proofs.removing.take_rows.Goals as goal

pub rows-init : goal.rows-init
rows-init g c = record {
  ended = c.requires.autocommit;
  taken = ([], refl);
  way = begun c.args.numbers.now _ (state g.S.Store c.args.conn.now)
      (λ rows t was may. only_committed (state g.S.Store c.args.conn.now) rows t was
      (g.met.S.Store.settled c.args.conn.now.store t was.is_open may)) (λ rows. refl);
}

pub clear_rows-requires : goal.clear_rows-requires
clear_rows-requires g c = record {
  autocommit = c.rows.invariant.ended;
  few = omega (arith, c.split_at.ensures.by_index.1, c.min.ensures);
}

pub rows-preserved : goal.rows-preserved
rows-preserved g c =
    let did = c.in_ok-clear_rows.ensures in
    let was = c.rows.invariant in
    record {
      ended = c.clear_rows.ensures.ended;
      taken = (
        was.taken.0 ++ c.split_at.result.0.now,
        was.taken.1 ∙ ap (λ r. was.taken.0 ++ r) c.split_at.ensures.by_index.0
            ∙ sym (append_assoc was.taken.0 c.split_at.result.0.now c.split_at.result.1.now),
      );
      way = rows_go_on c.args.numbers.now (state g.S.Store c.rows.conn) (state g.S.Store c.clear_rows.new.conn) (Ok tt)
          did.clean (state g.S.Store c.args.conn.now) was.taken.0 c.rows.rest.now c.split_at.result.0.now
          c.split_at.result.1.now was.taken.1 c.split_at.ensures.by_index.0 was.way did.done did.crash;
    }

pub returns-in_err-clear_rows-clause-clears : goal.returns-in_err-clear_rows-clause-clears
returns-in_err-clear_rows-clause-clears g c =
    let did = c.in_err-clear_rows.ensures in
    let was = c.rows.invariant in
    let e = c.in_err-clear_rows.field-0.0 in
    clears_lost _ e c.from_residual.result c.from_residual.ensures.0
    (rows_go_on c.args.numbers.now (state g.S.Store c.rows.conn) (state g.S.Store c.clear_rows.new.conn) (Err e)
    did.clean (state g.S.Store c.args.conn.now) was.taken.0 c.rows.rest.now c.split_at.result.0.now
    c.split_at.result.1.now was.taken.1 c.split_at.ensures.by_index.0 was.way did.done did.crash)

pub returns-clause-clears : goal.returns-clause-clears
returns-clause-clears g c =
    let none : c.rows.rest.now ≡ [] = none_left c.rows.rest.now (search rules) in
    clears_as (λ rows after. after ≡ without_record_rows c.args.numbers.now rows) tt tt c.rows.invariant.way
    (λ x y is. ap (λ ks. without_record_rows ks y) (sym none) ∙ is)
