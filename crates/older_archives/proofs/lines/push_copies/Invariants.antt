use Rattle.std.proofs.Common.{◌≡◌, ◌++◌, take}
use Rattle.older_archives.proofs.lines.push_copies.Given as goal

abbrev pub invariant-lines : goal.invariant-lines
invariant-lines l = l.out.items ≡ l.fn.out.items ++ take l.line-index l.lines
