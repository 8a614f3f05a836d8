use Rattle.store_rows.proofs.PastsAside.{all_dated, all_links, all_means, all_society, all_sought, all_spans}
use Rattle.store_rows.proofs.laws.values_of_before_say_nothing_of_records.Goals as goal

pub returns-clause-means : goal.returns-clause-means
returns-clause-means c = all_means

pub returns-clause-spans : goal.returns-clause-spans
returns-clause-spans c = all_spans

pub returns-clause-links : goal.returns-clause-links
returns-clause-links c = all_links

pub returns-clause-soughts : goal.returns-clause-soughts
returns-clause-soughts c = all_sought

pub returns-clause-dated : goal.returns-clause-dated
returns-clause-dated c = all_dated

pub returns-clause-society : goal.returns-clause-society
returns-clause-society c = all_society
