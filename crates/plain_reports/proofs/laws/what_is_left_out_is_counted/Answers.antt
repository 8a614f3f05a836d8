use Rattle.plain_reports.proofs.Counting.{is_there, lines_counted, name_counted, sex_counted}
use Rattle.plain_reports.proofs.laws.what_is_left_out_is_counted.Goals as goal

pub returns-clause-records : goal.returns-clause-records
returns-clause-records c = is_there

pub returns-clause-lines : goal.returns-clause-lines
returns-clause-lines c = lines_counted

pub returns-clause-named : goal.returns-clause-named
returns-clause-named c = name_counted

pub returns-clause-sexes : goal.returns-clause-sexes
returns-clause-sexes c = sex_counted
