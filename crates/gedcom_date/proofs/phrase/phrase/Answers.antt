use Rattle.gedcom_date.proofs.Phrases.{no_phrase, no_end}
use Rattle.gedcom_date.proofs.phrase.phrase.Goals as goal

pub returns-in_err-front-clause-every : goal.returns-in_err-front-clause-every
returns-in_err-front-clause-every c = λ front phrase is.
    let t = c.trimmed.ensures.parts in
    absurd (no_phrase c.args.text.now c.trimmed.result.now t.0 front phrase t.1 t.2 c.in_err-front.ensures is)

pub returns-in_err-phrase-clause-every : goal.returns-in_err-phrase-clause-every
returns-in_err-phrase-clause-every c = λ front phrase is.
    let t = c.trimmed.ensures.parts in
    let cut = c.in_ok-front.ensures in
    absurd (no_end c.args.text.now c.trimmed.result.now t.0 c.in_ok-front.front.now c.in_ok-front.rest.now front phrase
    t.1 t.2 c.trimmed.ensures.ends cut.0 cut.1 c.in_err-phrase.ensures is)
