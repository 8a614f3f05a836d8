use Rattle.std.proofs.Common.{rules, ◌≡◌, pos, ap₂, ℕ, List}
use Rattle.sqlite.specs.declared.types.Value.TheVariants.{Int}
use Rattle.sqlite.specs.Order.{column}
use Rattle.stored_lines.specs.Line.{Label}
use Rattle.store_tables.proofs.Packing.{one_pack}
use Rattle.store_tables.proofs.typing.PackRowFromRow.from_row.Goals as goal

pub returns-clause-ok : goal.returns-clause-ok
returns-clause-ok c =
    let row = c.args.row.now in
    let lines = c.in_ok-lines.lines.items in
    let number : column row 0 ≡ Int (pos c.in_ok-number.number) = search rules in
    let has = c.in_ok-lines.ensures.ok in (
      λ p typed is. let both = one_pack row c.in_ok-number.number lines p number has typed is in
          ap₂ (λ (m : ℕ) (ls : List (ℕ × Label)). (m, ls)) both.0 both.1,
      (number, has.tag, has.text, has.target),
    )
