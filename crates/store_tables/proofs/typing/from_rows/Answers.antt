use Rattle.std.proofs.Common.{rules, ◌≡◌, [], append-nil, ◌∙◌, subst, sym}
use Rattle.std.proofs.lemmas.List.{nil_from_length}
use Rattle.std.specs.Vec.Iter.{into_iter_items, into_iter_len}
use Rattle.store_tables.specs.Conversion.{EachWith}
use Rattle.store_tables.proofs.typing.from_rows.Goals as goal

pub returns-clause-ok : goal.returns-clause-ok
returns-clause-ok g c =
    let ends : into_iter_len c.rows.rows ≡ 0 = search (
      rules,
      c.in_default.ensures.variant,
      c.in_default.ensures.cases,
    ) in
    let none : into_iter_items c.rows.rows ≡ [] = nil_from_length _ (sym c.rows.rows.rest.ok.0 ∙ ends) in
    subst (EachWith g.T.FromRow.reads_as c.args.rows.items) (append-nil c.rows.items.items)
    (c.rows.invariant.read [] (subst (λ rest. EachWith g.T.FromRow.reads_as rest []) (sym none) tt))
