use Rattle.std.proofs.Common.{[]}
use Rattle.file_faults.specs.Faults.{at_end}
use Rattle.file_faults.specs.Views.{course as state}
use Rattle.file_faults.proofs.Going.{ends_last, is_last_line}
use Rattle.file_faults.proofs.walking.list_last.Goals as goal

pub returns-in_ok-list_end : goal.returns-in_ok-list_end
returns-in_ok-list_end c = λ all g. c.in_ok-list_end.ensures all
    (ends_last c.list_piece.new.list all (state c.list_piece.new.course) c.in_ok-list_piece.field-0 at_end
    c.if-branch.true (c.in_ok-list_piece.ensures.going all [] at_end
    (is_last_line c.args.list.now all (state c.args.course.now) c.args.last.now c.args.next c.in_default.is g)))
