use Rattle.std.proofs.Common.{◌≡◌, ◌++◌, drop, false}
use Rattle.table_pages.specs.LineEnds.{line_feeds}
use Rattle.table_pages.proofs.line_ends.line_feeds.Given as goal

abbrev pub invariant-loop-byte : goal.invariant-loop-byte
invariant-loop-byte l = l.all.items ++ line_feeds l.after_return (drop l.byte-index l.bytes) ≡ line_feeds false l.bytes
