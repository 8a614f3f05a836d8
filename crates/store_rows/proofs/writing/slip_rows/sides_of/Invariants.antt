-- What is added, with what is left, is all; and all are shallow where those left are.
use Rattle.std.proofs.Common.{◌≡◌, ◌++◌, drop, flat_map}
use Rattle.record_shapes.specs.Lists.{EachOf}
use Rattle.store_rows.specs.Shallow.{IsShallowChange}
use Rattle.store_rows.specs.Writing.{sides_stored}
use Rattle.store_rows.proofs.writing.slip_rows.sides_of.Given as goal

abbrev pub invariant-changes : goal.invariant-changes
invariant-changes l =
    (l.sides.items ++ flat_map sides_stored (drop l.change-index l.changes) ≡ flat_map sides_stored l.changes)
    × (EachOf IsShallowChange (drop l.change-index l.changes) → EachOf IsShallowChange l.changes)
