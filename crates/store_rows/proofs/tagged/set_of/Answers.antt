use Rattle.std.proofs.Common.{◌∙◌, ◌==◌, ◌||◌, ap, sym, get_or}
use Rattle.std.proofs.lemmas.List.Folds.{list_any_more}
use Rattle.store_rows.proofs.TaggedNumbers.{with_number}
use Rattle.store_rows.proofs.tagged.set_of.Goals as goal

pub numbers-preserved : goal.numbers-preserved
numbers-preserved c = λ n.
    let at = c.numbers.number-index in
    let all = c.args.numbers.now in
    with_number (get_or all at 0) c.numbers.found c.insert.new.self c.in_ok-insert.ensures.updates n
    ∙ ap (λ b. b || (get_or all at 0 == n)) (c.numbers.invariant n)
    ∙ sym (list_any_more (λ k. k == n) all at 0 c.numbers-test.true)
