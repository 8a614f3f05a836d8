use Rattle.std.proofs.Common.{◌≡◌, take}
use Rattle.plain_export.proofs.Trimming.{kept_each}
use Rattle.plain_export.proofs.kept.kept_lines.Given as goal

abbrev pub invariant-lines : goal.invariant-lines
invariant-lines l = l.made.items ≡ kept_each l.state.records (take l.line-index l.lines)
