use Rattle.std.proofs.Common.{Some, ap, subst, sym, ◌∙◌}
use Rattle.std.specs.Prelude.{Option}
use Rattle.std.specs.BTreeSet.{contains_text}
use Rattle.archive_state.specs.Looks.{Looked}
use Rattle.record_text.specs.declared.refusal.RefusalKind.{RefusalKind}
use Rattle.page_answers.specs.Answers.{IsNoted, news_by}
use Rattle.page_answers.proofs.news.path_news.Goals as goal

pub returns-in-Some-NoSuch-clause-shows : goal.returns-in-Some-NoSuch-clause-shows
returns-in-Some-NoSuch-clause-shows g c = λ honest.
    let new = c.new_news.ensures.shows honest in
    let look = c.in_ok-path_refusal.ensures.shows new.0 in (
      look.0,
      λ held shown.
          let found = look.1 held shown in
          let added = new.1 held found.0 in (
            added.0,
            subst (λ (r : Option RefusalKind). Looked c.new_news.result (λ n. IsNoted
                (news_by (g.V.View.content held) (contains_text c.args.made.now) c.args.path.now r) n
                (contains_text c.args.made.now) (contains_text c.new_news.new.made)))
                (sym (c.in-Some-NoSuch.is ∙ ap Some c.in-Some-NoSuch.field-0-is) ∙ found.1) added.1,
          ),
    )
