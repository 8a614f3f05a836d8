use Rattle.std.proofs.Common.{◌≡◌, ◌≤◌, [], Ok, Err, refl, sym, length, drop, take, arith}
use Rattle.std.specs.List.{slice_range}
use Rattle.std.proofs.lemmas.List.{take-append-drop}
use Rattle.std.proofs.lemmas.List.Folds.{drop_split}
use Rattle.sqlite.specs.Held.{state}
use Rattle.store_rows.specs.Writing.{without_all_lines}
use Rattle.store_tables.proofs.Queries.{only_committed}
use Rattle.staging.proofs.Cleared.{IsOnTheWay, as_lost, begun, clears_as, clears_lost}
use Rattle.staging.proofs.Steps.{lines_go_on, thinned_on}
use Rattle.staging.proofs.Thinned.{last_part}
use Rattle.staging.proofs.removing.take_lines.Goals as goal

pub numbers-init : goal.numbers-init
numbers-init g c = record {
  ended = c.requires.autocommit;
  first = omega arith;
  few = omega arith;
  way = begun c.args.numbers.now _ (state g.S.Store c.args.conn.now)
      (λ rows t was may. only_committed (state g.S.Store c.args.conn.now) rows t was
      (g.met.S.Store.settled c.args.conn.now.store t was.is_open may)) (λ rows. refl);
}

pub thinned-requires : goal.thinned-requires
thinned-requires g c = record { autocommit = c.numbers.invariant.ended }

pub returns-in_err-count-clause-clears : goal.returns-in_err-count-clause-clears
returns-in_err-count-clause-clears g c =
    let ns = c.args.numbers.now in
    let e = c.in_err-count.field-0.0 in
    clears_lost (λ rows after. after ≡ without_all_lines ns rows) e c.from_residual.result c.from_residual.ensures.0
    (as_lost (thinned_on ns 0 c.numbers.first c.numbers.at c.numbers.invariant.first c.numbers-test.true
    (state g.S.Store c.args.conn.now) (state g.S.Store c.numbers.conn) (state g.S.Store c.thinned.new.conn) (Err e)
    c.numbers.invariant.way c.in_err-count.ensures.clears))

pub numbers-preserved-then-gathered-count-le-ROOM : goal.numbers-preserved-then-gathered-count-le-ROOM
numbers-preserved-then-gathered-count-le-ROOM g c =
    let ns = c.args.numbers.now in
    record {
      ended = c.thinned.ensures.ended;
      first = omega (arith, c.numbers.invariant.first);
      few = c.if-gathered-count-le-ROOM.true;
      way = clears_as _ c.in_ok-count.count tt (thinned_on ns 0 c.numbers.first c.numbers.at c.numbers.invariant.first
          c.numbers-test.true (state g.S.Store c.args.conn.now) (state g.S.Store c.numbers.conn)
          (state g.S.Store c.thinned.new.conn) (Ok c.in_ok-count.count) c.numbers.invariant.way
          c.in_ok-count.ensures.clears) (λ x y is. is);
    }

pub clear_lines-requires : goal.clear_lines-requires
clear_lines-requires g c = record { autocommit = c.thinned.ensures.ended }

pub numbers-preserved : goal.numbers-preserved
numbers-preserved g c =
    let ns = c.args.numbers.now in
    let did = c.in_ok-clear_lines.ensures in
    let way : IsOnTheWay ns (λ rows here. without_all_lines (drop c.numbers.first ns) here ≡ without_all_lines ns rows)
    (state g.S.Store c.args.conn.now) (state g.S.Store c.thinned.new.conn) = clears_as _
    c.in_ok-count.count tt (thinned_on ns 0 c.numbers.first c.numbers.at c.numbers.invariant.first
    c.numbers-test.true (state g.S.Store c.args.conn.now) (state g.S.Store c.numbers.conn)
    (state g.S.Store c.thinned.new.conn) (Ok c.in_ok-count.count) c.numbers.invariant.way
    c.in_ok-count.ensures.clears) (λ x y is. is) in
    record {
      ended = c.clear_lines.ensures.ended;
      first = omega arith;
      few = c.in_ok-count.ensures.small;
      way = lines_go_on ns (state g.S.Store c.thinned.new.conn) (state g.S.Store c.clear_lines.new.conn) (Ok tt)
          did.clean (state g.S.Store c.args.conn.now) (take c.numbers.first ns) (drop c.numbers.first ns)
          (slice_range ns c.numbers.first c.numbers.at) (drop c.numbers.at ns)
          (sym (take-append-drop c.numbers.first ns))
          (drop_split ns c.numbers.first c.numbers.at c.numbers.invariant.first) way did.done did.crash;
    }

pub returns-in_err-clear_lines-clause-clears : goal.returns-in_err-clear_lines-clause-clears
returns-in_err-clear_lines-clause-clears g c =
    let ns = c.args.numbers.now in
    let did = c.in_err-clear_lines.ensures in
    let e = c.in_err-clear_lines.field-0.0 in
    let way : IsOnTheWay ns (λ rows here. without_all_lines (drop c.numbers.first ns) here ≡ without_all_lines ns rows)
    (state g.S.Store c.args.conn.now) (state g.S.Store c.thinned.new.conn) = clears_as _
    c.in_ok-count.count tt (thinned_on ns 0 c.numbers.first c.numbers.at c.numbers.invariant.first
    c.numbers-test.true (state g.S.Store c.args.conn.now) (state g.S.Store c.numbers.conn)
    (state g.S.Store c.thinned.new.conn) (Ok c.in_ok-count.count) c.numbers.invariant.way
    c.in_ok-count.ensures.clears) (λ x y is. is) in
    clears_lost (λ rows after. after ≡ without_all_lines ns rows) e c.from_residual-in_err-clear_lines.result
    c.from_residual-in_err-clear_lines.ensures.0
    (lines_go_on ns (state g.S.Store c.thinned.new.conn) (state g.S.Store c.clear_lines.new.conn) (Err e) did.clean
    (state g.S.Store c.args.conn.now) (take c.numbers.first ns) (drop c.numbers.first ns)
    (slice_range ns c.numbers.first c.numbers.at) (drop c.numbers.at ns) (sym (take-append-drop c.numbers.first ns))
    (drop_split ns c.numbers.first c.numbers.at c.numbers.invariant.first) way did.done did.crash)

pub clear_lines-requires-2 : goal.clear_lines-requires-2
clear_lines-requires-2 g c = record { autocommit = c.numbers.invariant.ended }

pub returns-clause-clears : goal.returns-clause-clears
returns-clause-clears g c =
    let ns = c.args.numbers.now in
    let did = c.clear_lines-2.ensures in
    let le : c.numbers.first ≤ length ns = omega (arith, c.numbers.invariant.first) in
    lines_go_on ns (state g.S.Store c.numbers.conn) (state g.S.Store c.clear_lines-2.new.conn) c.clear_lines-2.result
    did.clean (state g.S.Store c.args.conn.now) (take c.numbers.first ns) (drop c.numbers.first ns)
    (slice_range ns c.numbers.first (length ns)) [] (sym (take-append-drop c.numbers.first ns))
    (last_part ns c.numbers.first le) c.numbers.invariant.way did.done did.crash
