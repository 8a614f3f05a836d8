use Rattle.std.proofs.Common.{◌≡◌, take}
use Rattle.plain_export.specs.Plain.{without_second}
use Rattle.plain_export.proofs.kinds.without_second.Given as goal

abbrev pub invariant-lines : goal.invariant-lines
invariant-lines l = l.made.items ≡ without_second (take l.line-index l.lines)
