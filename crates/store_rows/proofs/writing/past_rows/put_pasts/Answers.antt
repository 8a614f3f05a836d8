-- One turn more.
use Rattle.std.proofs.Common.{drop, ap, ◌∙◌, ◌+◌}
use Rattle.earlier_values.specs.Earlier.{past}
use Rattle.store_tables.specs.Rows.{with_past}
use Rattle.store_tables.proofs.Loops.{item_left}
use Rattle.store_rows.specs.Pasts.{with_all_pasts}
use Rattle.store_rows.proofs.Dated.{goes_on}
use Rattle.store_rows.proofs.writing.past_rows.put_pasts.Goals as goal

pub pasts-preserved : goal.pasts-preserved
pasts-preserved g c =
    let token = c.args.token.now in
    let pasts = c.args.pasts.now in
    let item = c.past-item.result in
    let rest = drop (c.pasts.past-index + 1) pasts in
    let left = item_left pasts c.pasts.past-index item item c.pasts-test.true c.past-item.is in (
      c.put_past.ensures.same_reference ∙ c.pasts.invariant.0,
      goes_on _ _ _ _ _ (with_past item.number token (past item.«record»)) (with_all_pasts token rest)
          c.pasts.invariant.1 (λ rows has. has) c.in_ok-put_past.ensures.ok c.put_past.ensures.survives
          (λ rows. ap (λ all. with_all_pasts token all rows) left),
    )
