use Rattle.staged_rows.proofs.Removed.{
  batch_gone,
  lines_gone,
  link_gone,
  packs_gone,
  record_gone,
  sought_gone,
  span_gone,
}
use Rattle.staged_rows.proofs.laws.what_no_record_has_is_not_seen.Goals as goal

pub returns-clause-lines : goal.returns-clause-lines
returns-clause-lines c = lines_gone

pub returns-clause-packs : goal.returns-clause-packs
returns-clause-packs c = packs_gone

pub returns-clause-spans : goal.returns-clause-spans
returns-clause-spans c = span_gone

pub returns-clause-soughts : goal.returns-clause-soughts
returns-clause-soughts c = sought_gone

pub returns-clause-links : goal.returns-clause-links
returns-clause-links c = link_gone

pub returns-clause-record_row : goal.returns-clause-record_row
returns-clause-record_row c = record_gone

pub returns-clause-batch_row : goal.returns-clause-batch_row
returns-clause-batch_row c = batch_gone
