use Rattle.archive_state.specs.Sound.{IsNumber, change_names}
use Rattle.audit.proofs.numbers.changes_are_below.Goals as goal
use Rattle.record_shapes.proofs.Each.{each_flat, each_of_flat}

pub returns : goal.returns
returns c = (
  λ e. each_flat (IsNumber c.args.next) change_names c.args.changes.now (c.each_is_below.ensures.0 e),
  λ h. c.each_is_below.ensures.1 (each_of_flat (IsNumber c.args.next) change_names c.args.changes.now h),
)
