use Rattle.std.proofs.Common.{sym, ap, ◌∙◌}
use Rattle.std.specs.FinMap as map
use Rattle.gedcom_export.specs.Index.{Index}
use Rattle.archive_state.proofs.Maps.{get_lookup}
use Rattle.gedcom_export.proofs.index.Index.rank.Goals as goal

pub returns : goal.returns
returns c = c.get.ensures.value ∙ sym (get_lookup c.self.inside.ranks.entries c.args.number)
    ∙ ap (λ (s : Index). map.get s.ranks c.args.number) c.self.view_is
