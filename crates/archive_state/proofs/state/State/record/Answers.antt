use Rattle.std.proofs.Common.{sym, ap, ◌∙◌}
use Rattle.std.specs.FinMap as map
use Rattle.archive_state.proofs.Maps.{get_lookup}
use Rattle.archive_state.proofs.state.State.record.Goals as goal

pub returns : goal.returns
returns c = c.get.ensures.value ∙ sym (get_lookup c.self.inside.records.entries c.args.number)
    ∙ ap (λ s. map.get s.records c.args.number) c.self.view_is
