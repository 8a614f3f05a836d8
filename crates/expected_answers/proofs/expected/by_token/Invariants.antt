use Rattle.std.proofs.Common.{◌≡◌, ◌++◌, List, length, map}
use Rattle.csv.specs.Records.{fields_of}
use Rattle.request_csv.specs.Input.{Row}
use Rattle.expected_answers.specs.Expected.{IsLeft}
use Rattle.expected_answers.proofs.expected.by_token.Given as goal

abbrev pub invariant-rows : goal.invariant-rows
invariant-rows l = (more : List Row) × IsLeft l.expected more
    × (map fields_of l.above.items ++ more ≡ map fields_of l.fn.rows.items)

abbrev pub decreases-rows : goal.decreases-rows
decreases-rows l = length l.above.items
