use Rattle.std.proofs.Common.{ap}
use Rattle.staging.specs.Opened.{pairs_as_links}
use Rattle.staging.proofs.linked.links_in.Goals as goal

pub pairs-init : goal.pairs-init
pairs-init c = rw c.new-links.ensures.items (ap pairs_as_links c.into_iter-pair-iterator.ensures.into_iter_gives.0)
