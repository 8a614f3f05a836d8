use Rattle.std.proofs.Common.{◌≤◌, ℕ, List, ap, length, subst, ◌∙◌}
use Rattle.std.proofs.lemmas.List.{take_all}
use Rattle.std.specs.Prelude.{◌||◌}
use Rattle.std.specs.BTreeSet as set
use Rattle.std.specs.FinMap.{get, keys}
use Rattle.std.specs.List.{list_any}
use Rattle.std.specs.Ordering.{nat_cmp}
use Rattle.plain_export.specs.LeftOut.{names_place}
use Rattle.plain_export.proofs.Getting.{next_named}
use Rattle.plain_export.proofs.naming.named_places.Goals as goal

pub numbers-preserved : goal.numbers-preserved
numbers-preserved c = λ n.
    let m = c.args.state.now.records in
    let items = c.deref-number-items in
    next_named (λ k. names_place n (get m k)) (keys m) items.result.now c.numbers.number-index
    (set.contains nat_cmp c.numbers.named n) (set.contains nat_cmp c.put_found.new.named n)
    (items.ensures.value ∙ c.in_ok-numbers.ensures) c.numbers-test.true
    (c.in_ok-put_found.ensures n
    ∙ ap (λ o. set.contains nat_cmp c.numbers.named n || names_place n o) c.record.ensures) (c.numbers.invariant n)

pub returns : goal.returns
returns c = λ n.
    let m = c.args.state.now.records in
    let items = c.deref-number-items in
    c.numbers.invariant n
    ∙ ap (list_any (λ k. names_place n (get m k))) (take_all c.numbers.number-index (keys m)
    (subst (λ (ks : List ℕ). length ks ≤ c.numbers.number-index) (items.ensures.value ∙ c.in_ok-numbers.ensures)
    c.numbers-test.false))
