use Rattle.std.proofs.Common.{◌≡◌, ◌++◌, take, string_bytes}
use Rattle.std.specs.FinMap as map
use Rattle.std.specs.List.{flat_map}
use Rattle.sheets.specs.Sheets as sheets
use Rattle.sheets.proofs.families.push_children.Given as goal

abbrev pub invariant-children : goal.invariant-children
invariant-children l =
    string_bytes l.out
    ≡ string_bytes l.fn.out ++ flat_map
    (sheets.child_text (map.get l.state.records))
    (take l.child-index l.children)
