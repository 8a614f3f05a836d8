use Rattle.std.proofs.Common.{sym, ◌∙◌}
use Rattle.masking.proofs.view.RefShownView.record_at.Goals as goal

pub returns-clause-shows : goal.returns-clause-shows
returns-clause-shows c =
    λ _. (tt, λ held shown. (shown, ((c.record_at.ensures.shows tt).1 held (shown ∙ sym c.as_state-state.ensures)).1))
