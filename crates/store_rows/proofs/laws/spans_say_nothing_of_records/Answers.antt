use Rattle.store_rows.proofs.SpansAside.{dated_lines, dated_means, dated_records, dated_society, stays_dated}
use Rattle.store_rows.proofs.laws.spans_say_nothing_of_records.Goals as goal

pub returns-clause-means : goal.returns-clause-means
returns-clause-means c = dated_means

pub returns-clause-lines : goal.returns-clause-lines
returns-clause-lines c = dated_lines

pub returns-clause-records : goal.returns-clause-records
returns-clause-records c = dated_records

pub returns-clause-society : goal.returns-clause-society
returns-clause-society c = dated_society

pub returns-clause-dated : goal.returns-clause-dated
returns-clause-dated c = stays_dated
