-- One turn more.
use Rattle.std.proofs.Common.{drop, ap, ◌∙◌, ◌+◌, get_or, refl, ℕ}
use Rattle.store_tables.specs.Rows.{without_sought}
use Rattle.store_tables.proofs.Loops.{item_left}
use Rattle.store_rows.specs.Sought.{without_all_sought}
use Rattle.store_rows.proofs.Dated.{goes_on}
use Rattle.store_rows.proofs.writing.sought_rows.remove_sought.Goals as goal

pub numbers-preserved : goal.numbers-preserved
numbers-preserved g c =
    let numbers = c.args.numbers.now in
    let number : ℕ = get_or numbers c.numbers.number-index 0 in
    let rest = drop (c.numbers.number-index + 1) numbers in
    let left = item_left numbers c.numbers.number-index number 0 c.numbers-test.true refl in (
      c.delete_sought.ensures.same_reference ∙ c.numbers.invariant.0,
      goes_on _ _ _ _ _ (without_sought number) (without_all_sought rest) c.numbers.invariant.1 (λ rows has. has)
          c.in_ok-delete_sought.ensures.ok c.delete_sought.ensures.survives
          (λ rows. ap (λ all. without_all_sought all rows) left),
    )
