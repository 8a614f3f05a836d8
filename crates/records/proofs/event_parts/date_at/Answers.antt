use Rattle.std.proofs.Common.{sym, ◌∙◌}
use Rattle.records.specs.Reading.{text_from}
use Rattle.records.specs.declared.field.Field.TheVariants as field
use Rattle.record_fields.proofs.Dated.{date_ok}
use Rattle.records.proofs.event_parts.date_at.Goals as goal

pub returns : goal.returns
returns c = date_ok c.of_text.result c.in-Some.text (text_from field.Date c.args.branches.now) c.of_text.ensures
    (sym c.in_ok-text.ensures ∙ c.in-Some.is)
