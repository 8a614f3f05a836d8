use Rattle.std.proofs.Common.{◌≡◌, take}
use Rattle.gedcom_export.proofs.membership.copied.Given as goal

abbrev pub invariant-lines : goal.invariant-lines
invariant-lines l = l.copy.items ≡ take l.line-index l.lines
