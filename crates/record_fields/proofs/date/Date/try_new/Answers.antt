use Rattle.gedcom_date.specs.View.{view}
use Rattle.record_fields.proofs.Dates.{said_new}
use Rattle.record_fields.proofs.date.Date.try_new.Goals as goal

pub returns-in-Ok : goal.returns-in-Ok
returns-in-Ok c = said_new c.args.words.now (view c.in-Ok.value) c.of_value.result c.in-Ok.ensures c.of_value.ensures
