use Rattle.std.proofs.Common.{ap, ◌∙◌}
use Rattle.std.specs.FinMap.{get}
use Rattle.record_kinds.specs.Model as model
use Rattle.archive_state.specs.Content.{Content}
use Rattle.place_names.proofs.Entered.{right_after}
use Rattle.place_names.proofs.entries.names_right.Goals as goal

pub returns-clause-shows : goal.returns-clause-shows
returns-clause-shows g c honest =
    let persons = c.name_persons.ensures.shows honest in
    let source = c.in_ok-record_at.ensures.shows persons.0 in (
      source.0,
      λ held shown.
          let before : Content = g.V.View.content held in
          let there = source.1 held shown in
          let after = persons.1 held there.0 in (
            after.0,
            right_after before c.args.entry.now c.name_persons.result c.in_ok-record_at.field-0
                c.is_written_as.result c.deref.result.now
                (there.1 ∙ ap (λ (x : model.Entry). get before.records x.source) c.entry.view_is)
                c.is_written_as.ensures
                c.if-not-is_written_as.false
                (c.deref.ensures.value ∙ ap (λ (x : model.Entry). x.mentions) c.entry.view_is) after.1,
          ),
    )
