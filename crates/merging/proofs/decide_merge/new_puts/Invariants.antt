use Rattle.std.proofs.Common.{◌≡◌, take}
use Rattle.std.specs.List.{flat_map}
use Rattle.merging.specs.Merges.{put_new}
use Rattle.merging.proofs.decide_merge.new_puts.Given as goal

abbrev pub invariant-changes : goal.invariant-changes
invariant-changes l = l.puts.items ≡ flat_map put_new (take l.change-index l.changes)
