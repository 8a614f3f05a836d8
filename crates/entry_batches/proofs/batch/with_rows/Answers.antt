use Rattle.std.proofs.Common.{rules, ◌≡◌, ℕ, ◌+◌, ◌∷◌, drop, ap, sym, arith}
use Rattle.std.proofs.lemmas.List.{drop_all}
use Rattle.entry_batches.specs.Batches.{with_rows}
use Rattle.entry_batches.proofs.Rows.{LeadsOn, turn_made, turn_refused, turns_over, view_same}
use Rattle.entry_batches.proofs.batch.with_rows.Goals as goal
use Rattle.list_laws.proofs.Lists.{item_here}

pub rows-init : goal.rows-init
rows-init g c = record {
  way = view_same g.V.View.is_honest g.V.View.shows g.V.View.content c.args.view.now
      (λ x. x.next ≡ c.args.next → LeadsOn x c.args.source c.args.rows.now c.new-made.result 0)
      (λ x same. ap (λ made. with_rows x c.args.source made c.args.rows.now) (sym c.new-made.ensures));
  counts = omega arith;
}

pub rows-preserved : goal.rows-preserved
rows-preserved g c =
    let i : ℕ = c.rows.row-index in
    let here : drop i c.args.rows.now ≡ c.row-item.result ∷ drop (i + 1) c.args.rows.now = item_here c.args.rows.now i
    c.row-item.result c.rows-test.true c.row-item.is in
    record {
      way = turn_made g.V.View.is_honest g.V.View.shows g.V.View.content c.args.view.now c.rows.view _ c.args.source
          c.args.next c.args.rows.now c.row-item.result c.rows.made c.in_ok-made.made i here
          c.rows.invariant.way c.in_ok-made.ensures.decides;
      counts = search rules;
    }

pub returns-in_err-made-clause-decides : goal.returns-in_err-made-clause-decides
returns-in_err-made-clause-decides g c =
    let i : ℕ = c.rows.row-index in
    let here : drop i c.args.rows.now ≡ c.row-item.result ∷ drop (i + 1) c.args.rows.now = item_here c.args.rows.now i
    c.row-item.result c.rows-test.true c.row-item.is in
    turn_refused g.V.View.is_honest g.V.View.shows g.V.View.content c.args.view.now c.rows.view _ c.args.source
    c.args.next c.args.rows.now c.row-item.result c.rows.made i c.in_err-made.field-0.0 c.from_residual.result
    (search rules) here
    c.rows.invariant.way c.in_err-made.ensures.decides

pub returns-clause-decides : goal.returns-clause-decides
returns-clause-decides g c =
    turns_over g.V.View.is_honest g.V.View.shows g.V.View.content c.args.view.now c.rows.view c.args.source c.args.next
    c.args.rows.now c.rows.made c.rows.row-index
    (drop_all c.rows.row-index c.args.rows.now (omega (arith, c.rows-test.false))) c.rows.invariant.way
