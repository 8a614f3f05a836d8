use Rattle.std.proofs.Common.{not, sym, ap, ◌∙◌}
use Rattle.file_faults.specs.Views.{course as state}
use Rattle.file_faults.proofs.Going.{goes_on, goes_past}
use Rattle.file_faults.proofs.walking.list_piece.Goals as goal

pub returns-in-None-clause-going : goal.returns-in-None-clause-going
returns-in-None-clause-going c = goes_past c.args.list.now (state c.args.course.now) (state c.take.new.self)
    c.args.piece.now (sym c.in_ok-take.ensures.fault ∙ c.in-None.is) c.in_ok-take.ensures.left

pub returns-in_ok-add-in-Some-clause-going : goal.returns-in_ok-add-in-Some-clause-going
returns-in_ok-add-in-Some-clause-going c = goes_on c.args.list.now c.add.new.self (state c.args.course.now)
    (state c.take.new.self) c.args.piece.now c.in-Some.kind (not c.is_last.result)
    (sym c.in_ok-take.ensures.fault ∙ c.in-Some.is) c.in_ok-take.ensures.left (ap not c.is_last.ensures)
    c.in_ok-add-in-Some.ensures.list
