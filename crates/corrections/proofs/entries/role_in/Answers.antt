use Rattle.std.proofs.Common.{ap, None}
use Rattle.record_fields.proofs.Worded.{role_read}
use Rattle.corrections.specs.Corrections.{role_for}
use Rattle.corrections.proofs.entries.role_in.Goals as goal

pub returns-in_default : goal.returns-in_default
returns-in_default c = ap (role_for c.args.kind) (role_read c.args.word.now None c.in_default.ensures)
