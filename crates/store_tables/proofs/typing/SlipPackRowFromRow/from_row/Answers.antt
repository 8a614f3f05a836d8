use Rattle.std.proofs.Common.{rules, ◌≡◌, pos}
use Rattle.sqlite.specs.declared.types.Value.TheVariants.{Int}
use Rattle.sqlite.specs.Order.{column}
use Rattle.store_tables.specs.Showing.{IsFlagAt}
use Rattle.store_tables.proofs.SideRows.{one_side}
use Rattle.store_tables.proofs.typing.SlipPackRowFromRow.from_row.Goals as goal

pub returns-clause-ok : goal.returns-clause-ok
returns-clause-ok c =
    let row = c.args.row.now in
    let lines = c.in_ok-lines.lines.items in
    let slip : column row 0 ≡ Int (pos c.in_ok-slip.slip) = search rules in
    let flagged : IsFlagAt row 1 c.in_ok-is_new.is_new = search rules in
    let number : column row 2 ≡ Int (pos c.in_ok-number.number) = search rules in
    let has = c.in_ok-lines.ensures.ok in (
      λ s typed is. one_side row c.in_ok-slip.slip c.in_ok-is_new.is_new c.in_ok-number.number lines s slip flagged
          number has typed is,
      (slip, flagged, number, has.tag, has.text, has.target),
    )
