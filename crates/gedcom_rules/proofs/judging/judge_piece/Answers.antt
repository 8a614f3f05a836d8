use Rattle.gedcom_line.specs.Reading.{parts}
use Rattle.gedcom_rules.specs.Views.{progress}
use Rattle.gedcom_rules.proofs.Levels.{judged_level}
use Rattle.gedcom_rules.proofs.judging.judge_piece.Goals as goal

pub add-requires-clause-level : goal.add-requires-clause-level
add-requires-clause-level c = judged_level (progress c.args.seen.now) c.args.piece.now (parts c.in-Ok-Some.line) _
    (rw c.in-Ok-Some.field-0-is at c.in-Ok-Some.ensures) c.requires.stacked
