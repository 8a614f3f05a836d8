use Rattle.std.proofs.Common.{sym, ap, ◌∙◌}
use Rattle.std.specs.FinMap as map
use Rattle.archive_state.proofs.Maps.{get_lookup}
use Rattle.archive_state.proofs.state.State.slip.Goals as goal

pub returns : goal.returns
returns c = c.get.ensures.value ∙ sym (get_lookup c.self.inside.slips.entries c.args.number)
    ∙ ap (λ s. map.get s.slips c.args.number) c.self.view_is
