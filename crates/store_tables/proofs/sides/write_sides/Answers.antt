-- One side more.
use Rattle.std.proofs.Common.{rules, ◌+◌, drop, ◌∙◌, arith}
use Rattle.std.proofs.lemmas.List.{drop_all}
use Rattle.sqlite.specs.Held.{state}
use Rattle.store_tables.specs.Reading.{IsU32}
use Rattle.store_tables.proofs.Loops.{item_left}
use Rattle.store_tables.proofs.SidePlaces.{all_so_far, none_so_far, one_so_far}
use Rattle.store_tables.proofs.SideRows.{sides_rise}
use Rattle.store_tables.proofs.sides.write_sides.Goals as goal

pub sides-init : goal.sides-init
sides-init g c =
    let old = state g.S.Store c.args.tx.now.conn.now in
    let now = state g.S.Store c.delete_sides.new.tx.conn.now in (
      c.delete_sides.ensures.same_reference,
      none_so_far old now c.args.slip c.args.sides.now c.in_ok-delete_sides.ensures.ok
          c.delete_sides.ensures.survives (λ rows dated was. sides_rise rows old.now.trees was.good.holds),
    )

pub sides-preserved : goal.sides-preserved
sides-preserved g c =
    let sides = c.args.sides.now in
    let side = c.side-item.result in
    let low : IsU32 c.sides.at = search rules in
    let left = item_left sides c.sides.side-index side side c.sides-test.true c.side-item.is in (
      c.insert_side.ensures.same_reference ∙ c.sides.invariant.0,
      one_so_far _ _ _ c.args.slip sides _ (drop (c.sides.side-index + 1) sides) c.sides.at _ side c.sides.invariant.1
          left low c.in_ok-at.ensures c.in_ok-insert_side.ensures.ok c.insert_side.ensures.survives,
    )

pub returns-clause-ok : goal.returns-clause-ok
returns-clause-ok g c clean =
    let sides = c.args.sides.now in
    let none = drop_all c.sides.side-index sides (omega (arith, c.sides-test.false)) in
    all_so_far _ _ c.args.slip sides _ _ c.sides.invariant.1 none clean
