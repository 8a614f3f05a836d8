use Rattle.std.proofs.Common.{ap, ◌∙◌}
use Rattle.std.specs.FinMap as map
use Rattle.std.specs.Prelude.{string_bytes}
use Rattle.archive_state.proofs.Maps.{one_set}
use Rattle.sound_records.proofs.paths.Paths.put.Goals as goal

pub returns : goal.returns
returns c =
    one_set c.self.inside.found.entries c.insert.new.self.entries c.args.number (string_bytes c.args.path)
    c.in_ok-insert.ensures.updates.0
    ∙ ap (λ m. map.insert m c.args.number (string_bytes c.args.path)) c.self.view_is
