use Rattle.staged_rows.proofs.Alike.{seen_links, seen_means, seen_soughts, seen_spans, seen_then}
use Rattle.staged_rows.proofs.laws.what_is_seen_means_the_same.Goals as goal

pub returns-clause-means : goal.returns-clause-means
returns-clause-means c = seen_means

pub returns-clause-spans : goal.returns-clause-spans
returns-clause-spans c = seen_spans

pub returns-clause-links : goal.returns-clause-links
returns-clause-links c = seen_links

pub returns-clause-soughts : goal.returns-clause-soughts
returns-clause-soughts c = seen_soughts

pub returns-clause-then : goal.returns-clause-then
returns-clause-then c = seen_then
