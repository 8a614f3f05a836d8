-- One turn more.
use Rattle.std.proofs.Common.{drop, ap, ◌∙◌, ◌+◌, get_or, refl, ℕ}
use Rattle.store_tables.specs.Rows.{without_span}
use Rattle.store_tables.proofs.Loops.{item_left}
use Rattle.store_rows.specs.Spans.{without_all_spans}
use Rattle.store_rows.proofs.Dated.{goes_on}
use Rattle.store_rows.proofs.writing.span_rows.remove_spans.Goals as goal

pub numbers-preserved : goal.numbers-preserved
numbers-preserved g c =
    let numbers = c.args.numbers.now in
    let number : ℕ = get_or numbers c.numbers.number-index 0 in
    let rest = drop (c.numbers.number-index + 1) numbers in
    let left = item_left numbers c.numbers.number-index number 0 c.numbers-test.true refl in (
      c.delete_span.ensures.same_reference ∙ c.numbers.invariant.0,
      goes_on _ _ _ _ _ (without_span number) (without_all_spans rest) c.numbers.invariant.1 (λ rows has. has)
          c.in_ok-delete_span.ensures.ok c.delete_span.ensures.survives
          (λ rows. ap (λ all. without_all_spans all rows) left),
    )
