use Rattle.std.proofs.Common.{◌≡◌, take}
use Rattle.archive_state.specs.Merging as merging
use Rattle.merging.proofs.redirecting.lines_with.Given as goal

abbrev pub invariant-lines : goal.invariant-lines
invariant-lines l = l.made.items ≡ merging.lines_with (merging.renamed l.keep l.gone) (take l.line-index l.lines)
