use Rattle.audit.proofs.Whole.{none_sound}
use Rattle.audit.proofs.searching.first_fault.Goals as goal

pub returns-clause-unsound : goal.returns-clause-unsound
returns-clause-unsound c = none_sound c.args.state.now c.in_ok-found_in.field-0 c.in_ok-found_in.ensures
