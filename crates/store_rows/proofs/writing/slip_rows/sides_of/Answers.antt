-- The sides of one change more.
use Rattle.std.proofs.Common.{◌≡◌, ◌++◌, ◌+◌, ◌∙◌, [], List, drop, flat_map, ap, sym, subst, append_assoc, arith}
use Rattle.std.proofs.lemmas.List.{append-nil, drop_all}
use Rattle.record_shapes.specs.Lists.{EachOf}
use Rattle.store_tables.specs.Rows.{SlipSide}
use Rattle.store_tables.proofs.Loops.{item_left}
use Rattle.store_rows.specs.Shallow.{IsShallowChange}
use Rattle.store_rows.specs.Writing.{sides_stored}
use Rattle.store_rows.proofs.writing.slip_rows.sides_of.Goals as goal

pub changes-preserved : goal.changes-preserved
changes-preserved c =
    let changes = c.args.changes.now in
    let change = c.change-item.result in
    let rest = drop (c.changes.change-index + 1) changes in
    let left = item_left changes c.changes.change-index change change c.changes-test.true c.change-item.is in
    let sides = c.changes.sides.items in (
      ap (λ (ss : List SlipSide). ss ++ flat_map sides_stored rest) c.in_ok-add_change.ensures.added
          ∙ append_assoc sides (sides_stored change) (flat_map sides_stored rest)
          ∙ ap (λ all. sides ++ flat_map sides_stored all) (sym left) ∙ c.changes.invariant.0,
      λ all. c.changes.invariant.1
          (subst (EachOf IsShallowChange) (sym left) (c.in_ok-add_change.ensures.shallow, all)),
    )

pub returns-clause-sides : goal.returns-clause-sides
returns-clause-sides c =
    let changes = c.args.changes.now in
    let none = drop_all c.changes.change-index changes (omega (arith, c.changes-test.false)) in
    let sides = c.changes.sides.items in
    sym (append-nil sides) ∙ ap (λ all. sides ++ flat_map sides_stored all) (sym none) ∙ c.changes.invariant.0

pub returns-clause-shallow : goal.returns-clause-shallow
returns-clause-shallow c =
    let none = drop_all c.changes.change-index c.args.changes.now (omega (arith, c.changes-test.false)) in
    c.changes.invariant.1 (subst (EachOf IsShallowChange) (sym none) tt)
