use Rattle.std.proofs.Common.{◌∙◌, ap}
use Rattle.entry_tables.specs.Tables.{table}
use Rattle.record_lists.proofs.rows.entry_table.Goals as goal

pub returns-clause-shows : goal.returns-clause-shows
returns-clause-shows g c = λ honest.
    let first = c.in_ok-entries.ensures.shows honest in (
      first.0,
      (λ held shown.
          let entries = first.1 held shown in (
            entries.0,
            c.in_ok-table.ensures ∙ ap table (c.deref.ensures.value ∙ entries.1),
          )),
    )
