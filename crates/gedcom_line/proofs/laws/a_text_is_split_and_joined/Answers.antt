use Rattle.gedcom_line.proofs.Cuts.{joined-canonical, segment_parts_hold}
use Rattle.std.proofs.Common.{length, arith}
use Rattle.gedcom_line.proofs.Inner.{canonical_inner}
use Rattle.gedcom_line.proofs.Segments.{canonical_split, split_one}
use Rattle.gedcom_line.proofs.laws.a_text_is_split_and_joined.Goals as goal

pub returns-clause-split : goal.returns-clause-split
returns-clause-split c = canonical_split

pub returns-clause-one : goal.returns-clause-one
returns-clause-one c = split_one

pub returns-clause-joins : goal.returns-clause-joins
returns-clause-joins c = joined-canonical

pub returns-clause-parts : goal.returns-clause-parts
returns-clause-parts c = segment_parts_hold

pub returns-clause-lines : goal.returns-clause-lines
returns-clause-lines c = λ t u h. canonical_inner (length t) t u h (omega arith)
