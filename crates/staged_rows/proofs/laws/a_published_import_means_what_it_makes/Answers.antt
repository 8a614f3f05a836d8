use Rattle.staged_rows.proofs.Published.{whole, whole_spans}
use Rattle.staged_rows.proofs.PublishedLinks.{whole_links}
use Rattle.staged_rows.proofs.PublishedSoughts.{whole_soughts}
use Rattle.staged_rows.proofs.laws.a_published_import_means_what_it_makes.Goals as goal

pub returns-clause-means : goal.returns-clause-means
returns-clause-means c = whole

pub returns-clause-spans : goal.returns-clause-spans
returns-clause-spans c = whole_spans

pub returns-clause-links : goal.returns-clause-links
returns-clause-links c = whole_links

pub returns-clause-soughts : goal.returns-clause-soughts
returns-clause-soughts c = whole_soughts
