use Rattle.std.proofs.Common.{rules, ◌≡◌, ◌↔◌, IsTrue}
use Rattle.std.specs.Prelude.{string_bytes}
use Rattle.gedcom_date.specs.View.{view}
use Rattle.record_fields.proofs.Dates.{written_exact}
use Rattle.record_fields.proofs.date.is_written.Goals as goal

pub returns-in-Ok-write_date : goal.returns-in-Ok-write_date
returns-in-Ok-write_date c =
    let same : IsTrue c.eq.result ↔ (string_bytes c.in-Ok-write_date.spelt ≡ c.args.words.now) = search rules in
    written_exact c.args.words.now (string_bytes c.in-Ok-write_date.spelt) (view c.in-Ok.value) c.eq.result
    c.in-Ok.ensures c.in-Ok-write_date.ensures.canonical same
