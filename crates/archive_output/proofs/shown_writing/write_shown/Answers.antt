use Rattle.archive_output.proofs.Own.{own_refusal, own_writing}
use Rattle.archive_output.proofs.shown_writing.write_shown.Goals as goal

pub returns-in-Ok-clause-own : goal.returns-in-Ok-clause-own
returns-in-Ok-clause-own g c = own_writing c.write_text.result c.write_text.ensures.why

pub returns-in-Err-clause-own : goal.returns-in-Err-clause-own
returns-in-Err-clause-own g c =
    own_refusal c.args.shown.now.records c.args.sheet.now c.in-Err.kind c.in-Err.ensures.refused
