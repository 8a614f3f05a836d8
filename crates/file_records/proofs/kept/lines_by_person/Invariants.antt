use Rattle.std.proofs.Common.{◌≡◌, ℕ, drop}
use Rattle.import_definitions.specs.Numbers.{or_else}
use Rattle.file_records.specs.Carried.{line_among, line_kept}
use Rattle.file_records.proofs.kept.lines_by_person.Given as goal

abbrev pub invariant-loop-side : goal.invariant-loop-side
invariant-loop-side l = (n : ℕ) → or_else (line_kept l.lines n) (line_among (drop l.side-index l.sides) n)
    ≡ line_among l.sides n
