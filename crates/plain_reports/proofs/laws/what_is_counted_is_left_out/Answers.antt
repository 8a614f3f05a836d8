use Rattle.plain_reports.proofs.Counting.{no_lines, not_own, not_unnamed, sex_left_out}
use Rattle.plain_reports.proofs.laws.what_is_counted_is_left_out.Goals as goal

pub returns-clause-lines : goal.returns-clause-lines
returns-clause-lines c = no_lines

pub returns-clause-unnamed : goal.returns-clause-unnamed
returns-clause-unnamed c = not_unnamed

pub returns-clause-own : goal.returns-clause-own
returns-clause-own c = not_own

pub returns-clause-sexes : goal.returns-clause-sexes
returns-clause-sexes c = sex_left_out
