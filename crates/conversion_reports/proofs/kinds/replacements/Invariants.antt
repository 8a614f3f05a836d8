use Rattle.std.proofs.Common.{◌≡◌, ◌+◌, ◌≤◌, length}
use Rattle.conversion_reports.specs.Lines.{replacements}
use Rattle.conversion_reports.proofs.kinds.replacements.Given as goal

abbrev pub invariant-bytes : goal.invariant-bytes
invariant-bytes l = record {
  counted : l.count + replacements l.rest ≡ replacements l.fn.text;
  few : l.count + length l.rest ≤ length l.fn.text;
}

abbrev pub decreases-bytes : goal.decreases-bytes
decreases-bytes l = length l.rest
