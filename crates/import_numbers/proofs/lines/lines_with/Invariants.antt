use Rattle.std.proofs.Common.{◌≡◌, ◌++◌}
use Rattle.std.specs.Vec.Iter.{into_iter_items}
use Rattle.archive_state.specs.Merging as merging
use Rattle.import_definitions.specs.Numbers.{number_at}
use Rattle.import_numbers.proofs.lines.lines_with.Given as goal

abbrev pub invariant-lines : goal.invariant-lines
invariant-lines l = l.made.items ++ merging.lines_with (number_at l.numbers) (into_iter_items l.line-iterator)
    ≡ merging.lines_with (number_at l.numbers) l.fn.lines.items
