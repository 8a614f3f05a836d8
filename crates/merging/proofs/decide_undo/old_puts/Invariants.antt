use Rattle.std.proofs.Common.{◌≡◌, take}
use Rattle.std.specs.List.{flat_map}
use Rattle.merging.specs.Merges.{put_old}
use Rattle.merging.proofs.decide_undo.old_puts.Given as goal

abbrev pub invariant-changes : goal.invariant-changes
invariant-changes l = l.puts.items ≡ flat_map put_old (take l.change-index l.changes)
