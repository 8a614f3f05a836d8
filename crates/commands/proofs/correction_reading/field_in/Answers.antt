use Rattle.std.proofs.Common.{ap, ◌∙◌}
use Rattle.record_text.specs.declared.refusal.RefusalKind.TheVariants.{BadRow}
use Rattle.commands.specs.FieldWords.{field_of}
use Rattle.commands.specs.Rows.{ok_or, field_in}
use Rattle.commands.proofs.FieldWords.{field_read}
use Rattle.commands.proofs.Outcomes.{decided_is}
use Rattle.commands.proofs.correction_reading.field_in.Goals as goal

pub returns : goal.returns
unfolding field_in
returns c =
    decided_is c.field_found.result (ok_or BadRow (field_of c.args.word.now))
    (c.field_found.ensures ∙ ap (ok_or BadRow) (field_read c.args.word.now c.in_ok-found.found c.in_ok-found.ensures))
