use Rattle.std.proofs.Common.{◌≡◌, ◌++◌, map}
use Rattle.std.specs.Vec.Iter.{into_iter_items}
use Rattle.stored_lines.specs.Tree.{children, label, list_of, relabel}
use Rattle.archive_state.specs.Merging.{line_with}
use Rattle.import_definitions.specs.Numbers.{number_at}
use Rattle.import_numbers.proofs.lines.+line_with.Given as goal

abbrev pub invariant-children : goal.invariant-children
invariant-children l = record {
  value : l.value ≡ (label l.fn.line).value;
  made : l.made.items ++ map (relabel (line_with (number_at l.numbers))) (into_iter_items l.child-iterator)
      ≡ map (relabel (line_with (number_at l.numbers))) (list_of (children l.fn.line));
}
