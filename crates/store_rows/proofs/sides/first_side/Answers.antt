use Rattle.std.proofs.Common.{ap, sym, ◌∙◌, ◌+◌, List, ℕ}
use Rattle.std.specs.List.{position_or_len}
use Rattle.store_rows.specs.Sides.{SideLine, begins_side}
use Rattle.store_rows.proofs.SidesRead.{first_in_rows, rest_of_rows}
use Rattle.store_rows.proofs.sides.first_side.Goals as goal

pub returns-clause-length : goal.returns-clause-length
returns-clause-length c =
    ap (λ n. n + 1) (c.next_start.ensures.start
    ∙ ap (λ (rows : List (ℕ × SideLine)). position_or_len (λ (r : ℕ × SideLine). begins_side r.1) rows)
    (rest_of_rows c.args.lines.now))
    ∙ sym (first_in_rows c.args.lines.now)
