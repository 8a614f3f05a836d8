use Rattle.std.proofs.Common.{sym, ◌∙◌}
use Rattle.archive_core.proofs.Undo.{slip_taken_out, slip_put_over}
use Rattle.archive_core.proofs.applying.put_slip_back.Goals as goal

pub returns-in-None : goal.returns-in-None
returns-in-None c m r e b = slip_taken_out c.args.state.now _ m c.args.number r c.remove_slip.ensures.removed e
    (sym c.in-None.is ∙ b)

pub returns-in-Ok : goal.returns-in-Ok
returns-in-Ok c m r e b = slip_put_over c.args.state.now _ m c.args.number r c.in-Some.old c.in-Ok.ensures.ok e
    (sym c.in-Some.is ∙ b)
