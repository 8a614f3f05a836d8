use Rattle.std.proofs.Common.{sym, ◌∙◌}
use Rattle.page_answers.proofs.Liked.{liked, unliked}
use Rattle.page_answers.proofs.likes.likes_for.Goals as goal

pub returns-clause-shows : goal.returns-clause-shows
returns-clause-shows g c = λ honest. (
  honest,
  λ held shown. (
    shown,
    unliked (g.V.View.content held) c.new.result c.args.answers.now (sym c.has_news.ensures ∙ c.if-has_news.false)
        c.new.ensures,
  ),
)
