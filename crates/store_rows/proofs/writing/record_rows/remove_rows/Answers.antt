-- One turn more.
use Rattle.std.proofs.Common.{drop, ap, ◌∙◌, ◌+◌, get_or, refl, ℕ}
use Rattle.store_tables.specs.Rows.{without_record_row}
use Rattle.store_tables.proofs.Loops.{goes_on, item_left}
use Rattle.store_rows.specs.Writing.{without_record_rows}
use Rattle.store_rows.proofs.writing.record_rows.remove_rows.Goals as goal

pub numbers-preserved : goal.numbers-preserved
numbers-preserved g c =
    let numbers = c.args.numbers.now in
    let number : ℕ = get_or numbers c.numbers.number-index 0 in
    let rest = drop (c.numbers.number-index + 1) numbers in
    let left = item_left numbers c.numbers.number-index number 0 c.numbers-test.true refl in (
      c.delete_record.ensures.same_reference ∙ c.numbers.invariant.0,
      goes_on _ _ _ _ _ (without_record_row number) (without_record_rows rest) c.numbers.invariant.1
          c.in_ok-delete_record.ensures.ok c.delete_record.ensures.survives
          (λ rows. ap (λ all. without_record_rows all rows) left),
    )
