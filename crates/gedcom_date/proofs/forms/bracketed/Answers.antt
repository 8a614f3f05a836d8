use Rattle.std.proofs.Common.{◌∙◌, sym}
use Rattle.std.proofs.lemmas.Result.{IfOk-weaker}
use Rattle.gedcom_date.specs.View.{view}
use Rattle.gedcom_date.proofs.Common.{some_weaker}
use Rattle.gedcom_date.proofs.Behind.{empty_found, empty_every, int_found, int_every, not_int}
use Rattle.gedcom_date.proofs.forms.bracketed.Goals as goal

pub returns-in-empty-clause-found : goal.returns-in-empty-clause-found
returns-in-empty-clause-found c =
    IfOk-weaker c.phrase_alone.result _ _
    (λ found h. some_weaker found _ _ (λ v is. empty_found c.args.words.now c.args.phrase.now
    (view v) c.in-empty.len_below is) h) c.phrase_alone.ensures.found

pub returns-in-empty-clause-every : goal.returns-in-empty-clause-every
returns-in-empty-clause-every c =
    IfOk-weaker c.phrase_alone.result _ _
    (λ found h form is good. h (empty_every c.args.words.now c.args.phrase.now form c.in-empty.len_below is good))
    c.phrase_alone.ensures.every

pub returns-then-is_word-clause-found : goal.returns-then-is_word-clause-found
returns-then-is_word-clause-found c =
    IfOk-weaker c.interpreted.result _ _
    (λ found h. some_weaker found _ _
    (λ v is. (
      int_found c.args.words.now _ c.args.phrase.now is.0 (view v) c.in-len1-up.len_at_least
          (sym c.is_word.ensures ∙ c.if-is_word.true) is.1 is.2,
      is.3,
    )) h) c.interpreted.ensures.found

pub returns-then-is_word-clause-every : goal.returns-then-is_word-clause-every
returns-then-is_word-clause-every c =
    IfOk-weaker c.interpreted.result _ _ (λ found h form is good.
    let at = int_every c.args.words.now _ c.args.phrase.now form c.in-len1-up.len_at_least
    (sym c.is_word.ensures ∙ c.if-is_word.true) is good in
    h at.0 at.1 at.2 at.3) c.interpreted.ensures.every

pub returns-else-is_word-clause-every : goal.returns-else-is_word-clause-every
returns-else-is_word-clause-every c = λ form is good. absurd
    (not_int c.args.words.now _ c.args.phrase.now form c.in-len1-up.len_at_least
    (sym c.is_word.ensures ∙ c.if-is_word.false) is)
