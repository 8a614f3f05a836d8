use Rattle.std.proofs.Common.{ap, ◌∙◌}
use Rattle.gedcom_date.proofs.Deciding.{some_value}
use Rattle.gedcom_date.specs.View.{view}
use Rattle.record_fields.specs.Dated.{one_said}
use Rattle.page_entries.specs.Dates.{is_form}
use Rattle.page_entries.proofs.dates.is_said.Goals as goal

pub returns-in-Ok : goal.returns-in-Ok
returns-in-Ok c =
    let said = some_value c.args.text.now in
    c.is_form.ensures ∙ ap is_form (one_said c.args.text.now (view c.in-Ok.value) said.0 c.in-Ok.ensures said.1)
