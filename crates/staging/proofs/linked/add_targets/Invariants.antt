-- What the lines add that are left leads from here to where all lead.
use Rattle.std.proofs.Common.{◌≡◌, drop}
use Rattle.staged_rows.specs.Staging.{with_targets}
use Rattle.staging.specs.Opened.{pairs_as_links}
use Rattle.staging.proofs.linked.add_targets.Given as goal

abbrev pub invariant-lines : goal.invariant-lines
invariant-lines l = with_targets l.number (drop l.line-index l.lines) (pairs_as_links l.pairs.keys)
    ≡ with_targets l.number l.lines (pairs_as_links l.fn.pairs.keys)
