use Rattle.std.proofs.Common.{length}
use Rattle.page_places.proofs.news.+push_way.Given as goal

abbrev pub decreases-push_way : goal.decreases-push_way
decreases-push_way g l = length l.path.now
