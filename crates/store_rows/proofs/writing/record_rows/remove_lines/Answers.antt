-- One turn more.
use Rattle.std.proofs.Common.{drop, ap, ◌∙◌, ◌+◌, get_or, refl, ℕ}
use Rattle.store_tables.specs.Rows.{without_lines}
use Rattle.store_tables.proofs.Loops.{goes_on, item_left}
use Rattle.store_rows.specs.Writing.{without_all_lines}
use Rattle.store_rows.proofs.writing.record_rows.remove_lines.Goals as goal

pub numbers-preserved : goal.numbers-preserved
numbers-preserved g c =
    let numbers = c.args.numbers.now in
    let number : ℕ = get_or numbers c.numbers.number-index 0 in
    let rest = drop (c.numbers.number-index + 1) numbers in
    let left = item_left numbers c.numbers.number-index number 0 c.numbers-test.true refl in (
      c.delete_lines.ensures.same_reference ∙ c.numbers.invariant.0,
      goes_on _ _ _ _ _ (without_lines number) (without_all_lines rest) c.numbers.invariant.1
          c.in_ok-delete_lines.ensures.ok c.delete_lines.ensures.survives
          (λ rows. ap (λ all. without_all_lines all rows) left),
    )
