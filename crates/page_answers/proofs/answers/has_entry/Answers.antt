use Rattle.std.specs.Prelude.{Result}
use Rattle.std.proofs.Common.{ap, sym}
use Rattle.record_text.specs.declared.refusal.RefusalKind.{RefusalKind}
use Rattle.archive_state.specs.Content.{Content}
use Rattle.command_checks.proofs.Likes.{key_taken}
use Rattle.page_answers.specs.Answers.{is_refused}
use Rattle.page_answers.proofs.answers.has_entry.Goals as goal

pub returns-in-Some-clause-shows : goal.returns-in-Some-clause-shows
returns-in-Some-clause-shows g c honest =
    let look = c.in_ok-entry_at.ensures.shows honest in
    let key = c.args.key.now in (
      look.0,
      λ held shown.
          let found = look.1 held shown in
          let before : Content = g.V.View.content held in (
            found.0,
            sym (ap (λ (r : Result (Unit {0}) RefusalKind). is_refused r)
                (key_taken c.args.source key.kind key.page key.item before.records c.in_ok-entry_at.field-0
                c.in-Some.field-0 c.in-Some.is found.1)),
          ),
    )
