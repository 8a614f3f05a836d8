use Rattle.request_words.proofs.failing.FailingView.slip.Goals as goal

pub returns-clause-shows : goal.returns-clause-shows
returns-clause-shows c = λ _. (tt, λ held shown. (shown, ((c.slip.ensures.shows tt).1 held shown).1))
