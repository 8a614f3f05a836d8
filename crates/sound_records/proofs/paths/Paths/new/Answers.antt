use Rattle.std.proofs.Common.{ap, ◌∙◌}
use Rattle.std.specs.Ordering.{nat_cmp}
use Rattle.std.specs.Map.{lookup}
use Rattle.std.specs.BTreeMap.{is_at}
use Rattle.archive_state.proofs.Maps.{get_lookup}
use Rattle.sound_records.proofs.paths.Paths.new.Goals as goal

pub returns : goal.returns
returns c = λ n. get_lookup c.new.result.entries n ∙ ap (lookup (is_at (nat_cmp n))) c.new.ensures.empty
