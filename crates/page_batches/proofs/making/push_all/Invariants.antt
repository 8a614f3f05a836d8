use Rattle.std.proofs.Common.{◌≡◌, ◌++◌, take}
use Rattle.page_batches.proofs.making.push_all.Given as goal

abbrev pub invariant-loop-path : goal.invariant-loop-path
invariant-loop-path l = l.out.items ≡ l.fn.out.items ++ take l.path-index l.paths
