use Rattle.std.proofs.Common.{◌≡◌, ◌++◌, [], Ok, Err, refl, sym, ap, ◌∙◌, append_assoc, arith, rules}
use Rattle.sqlite.specs.Held.{state}
use Rattle.store_rows.specs.Writing.{without_all_lines}
use Rattle.store_tables.proofs.Queries.{only_committed}
use Rattle.staging.proofs.Cleared.{begun, clears_as, clears_lost}
use Rattle.staging.proofs.Steps.{lines_go_on}
use Rattle.staging.proofs.Thinned.{none_left}
use Rattle.staging.proofs.removing.take_packs.Goals as goal

pub packs-init : goal.packs-init
packs-init g c = record {
  ended = c.requires.autocommit;
  taken = ([], refl);
  way = begun c.args.numbers.now _ (state g.S.Store c.args.conn.now)
      (λ rows t was may. only_committed (state g.S.Store c.args.conn.now) rows t was
      (g.met.S.Store.settled c.args.conn.now.store t was.is_open may)) (λ rows. refl);
}

pub clear_packs-requires : goal.clear_packs-requires
clear_packs-requires g c = record {
  autocommit = c.packs.invariant.ended;
  few = omega (arith, c.split_at.ensures.by_index.1, c.min.ensures);
}

pub packs-preserved : goal.packs-preserved
packs-preserved g c =
    let did = c.in_ok-clear_packs.ensures in
    let was = c.packs.invariant in
    record {
      ended = c.clear_packs.ensures.ended;
      taken = (
        was.taken.0 ++ c.split_at.result.0.now,
        was.taken.1 ∙ ap (λ r. was.taken.0 ++ r) c.split_at.ensures.by_index.0
            ∙ sym (append_assoc was.taken.0 c.split_at.result.0.now c.split_at.result.1.now),
      );
      way = lines_go_on c.args.numbers.now (state g.S.Store c.packs.conn) (state g.S.Store c.clear_packs.new.conn)
          (Ok tt) did.clean (state g.S.Store c.args.conn.now) was.taken.0 c.packs.rest.now c.split_at.result.0.now
          c.split_at.result.1.now was.taken.1 c.split_at.ensures.by_index.0 was.way did.done did.crash;
    }

pub returns-in_err-clear_packs-clause-clears : goal.returns-in_err-clear_packs-clause-clears
returns-in_err-clear_packs-clause-clears g c =
    let did = c.in_err-clear_packs.ensures in
    let was = c.packs.invariant in
    let e = c.in_err-clear_packs.field-0.0 in
    clears_lost _ e c.from_residual.result c.from_residual.ensures.0
    (lines_go_on c.args.numbers.now (state g.S.Store c.packs.conn) (state g.S.Store c.clear_packs.new.conn) (Err e)
    did.clean (state g.S.Store c.args.conn.now) was.taken.0 c.packs.rest.now c.split_at.result.0.now
    c.split_at.result.1.now was.taken.1 c.split_at.ensures.by_index.0 was.way did.done did.crash)

pub returns-clause-clears : goal.returns-clause-clears
returns-clause-clears g c =
    let none : c.packs.rest.now ≡ [] = none_left c.packs.rest.now (search rules) in
    clears_as (λ rows after. after ≡ without_all_lines c.args.numbers.now rows) tt tt c.packs.invariant.way
    (λ x y is. ap (λ ks. without_all_lines ks y) (sym none) ∙ is)
