use Rattle.std.proofs.Common.{ap, ◌∙◌}
use Rattle.record_fields.proofs.Worded.{role_read}
use Rattle.record_fields.specs.Words.{role_of}
use Rattle.table_pages.proofs.Roles.{no_role}
use Rattle.table_pages.proofs.headers.role_of.Goals as goal

pub returns-in-Ok : goal.returns-in-Ok
returns-in-Ok c = role_read c.in-Ok.word.now c.from_word.result c.from_word.ensures ∙ ap role_of c.in-Ok.ensures.cases.0

pub returns-in-Err : goal.returns-in-Err
returns-in-Err c = no_role c.args.word.now c.in-Err.ensures.cases.0
