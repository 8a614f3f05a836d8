use Rattle.std.proofs.Common.{◌≡◌, take}
use Rattle.plain_export.proofs.Trimming.{kept_each}
use Rattle.plain_export.proofs.kept.+kept_line.Given as goal

abbrev pub invariant-children : goal.invariant-children
invariant-children l = l.children.items ≡ kept_each l.state.records (take l.child-index l.child-items)
