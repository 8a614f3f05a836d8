-- One turn more.
use Rattle.std.proofs.Common.{drop, ◌∙◌, ◌+◌, refl, subst, arith}
use Rattle.std.proofs.lemmas.List.{drop_all}
use Rattle.sqlite.specs.Held.{state}
use Rattle.store_tables.proofs.Loops.{item_left}
use Rattle.store_rows.proofs.Dated.{AreOnTheirWay, all_drawn, draws_on, none_drawn}
use Rattle.store_rows.proofs.writing.span_rows.put_spans.Goals as goal

pub puts-preserved : goal.puts-preserved
puts-preserved g c =
    let puts = c.args.puts.now in
    let put = c.put-item.result in
    let rest = drop (c.puts.put-index + 1) puts in
    let left = item_left puts c.puts.put-index put put c.puts-test.true c.put-item.is in (
      c.put_span.ensures.same_reference ∙ c.puts.invariant.0,
      draws_on _ _ _ puts _ rest put c.puts.invariant.1 c.in_ok-put_span.ensures.ok c.put_span.ensures.survives left,
    )

pub puts-init : goal.puts-init
puts-init g c = (refl, none_drawn (state g.S.Store c.args.tx.now.conn.now) c.args.puts.now)

pub returns-clause-ok : goal.returns-clause-ok
returns-clause-ok g c clean =
    let puts = c.args.puts.now in
    let none = drop_all c.puts.put-index puts (omega (arith, c.puts-test.false)) in
    all_drawn _ _ puts (subst (AreOnTheirWay _ _ puts) none c.puts.invariant.1) clean
