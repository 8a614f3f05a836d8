use Rattle.date_spans.proofs.KeptSpans.{put_spans, removed_spans}
use Rattle.date_spans.proofs.laws.one_record_changes_one_span.Goals as goal

pub returns-clause-put : goal.returns-clause-put
returns-clause-put c = put_spans

pub returns-clause-removed : goal.returns-clause-removed
returns-clause-removed c = removed_spans
