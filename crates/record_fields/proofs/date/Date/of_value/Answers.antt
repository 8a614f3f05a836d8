use Rattle.std.specs.Prelude.{string_bytes}
use Rattle.gedcom_date.specs.View.{view}
use Rattle.record_fields.proofs.Dates.{written_same}
use Rattle.record_fields.proofs.date.Date.of_value.Goals as goal

pub invariant_of-result : goal.invariant_of-result
invariant_of-result c = record {
  written = written_same c.in-Some.text (string_bytes c.in-Ok.words)
      (view c.args.value.now) c.in-Some.ensures c.in-Ok.ensures.canonical c.in-Ok.ensures.again;
}
