use Rattle.std.proofs.Common.{inl, inr, ◌∙◌, sym, ap}
use Rattle.std.proofs.lemmas.Result.{IfOk-weaker}
use Rattle.gedcom_date.specs.Words.{words, views}
use Rattle.gedcom_date.specs.View.{view}
use Rattle.gedcom_date.specs.Reading.{word_form}
use Rattle.gedcom_date.proofs.Common.{none_some, some_weaker}
use Rattle.gedcom_date.proofs.Fitting.{either, apart, of_phrase, same_phrasal, word_is, word_only, of_words}
use Rattle.gedcom_date.proofs.forms.form.Goals as goal

pub returns-in-Some-clause-found : goal.returns-in-Some-clause-found
returns-in-Some-clause-found c =
    IfOk-weaker c.phrase_value.result _ _
    (λ found h. some_weaker found _ _
    (λ v is. (
      of_phrase c.args.text.now c.in-Some.front.now c.in-Some.phrase.now (view v) c.in-Some.ensures.found
          is.0,
      is.1,
    )) h) c.phrase_value.ensures.found

pub returns-in-Some-clause-every : goal.returns-in-Some-clause-every
returns-in-Some-clause-every c =
    IfOk-weaker c.phrase_value.result _ _ (λ found h form fits.
    elim (either c.args.text.now form fits.0) [
      | inl worded ↦ absurd (apart c.args.text.now c.in-Some.front.now c.in-Some.phrase.now form worded
          c.in-Some.ensures.found)
      | inr phrased ↦ h form (same_phrasal c.args.text.now c.in-Some.front.now c.in-Some.phrase.now form
          c.in-Some.ensures.found phrased) fits.1
    ]) c.phrase_value.ensures.every

pub returns-clause-found : goal.returns-clause-found
returns-clause-found c =
    let e = ap views c.deref.ensures.value ∙ c.in_ok-words.ensures in
    some_weaker c.word_value.result _ _
    (λ v is. (
      of_words c.args.text.now (view v)
          (word_is (words c.args.text.now) (view v) (ap word_form (sym e) ∙ is.0)),
      is.1,
    )) c.word_value.ensures.found

pub returns-clause-every : goal.returns-clause-every
returns-clause-every c = λ form fits.
    let e = ap views c.deref.ensures.value ∙ c.in_ok-words.ensures in
    elim (either c.args.text.now form fits.0) [
      | inl worded ↦ c.word_value.ensures.every form
          (ap word_form e ∙ word_only (words c.args.text.now) form worded) fits.1
      | inr phrased ↦ none_some (c.in_default.ensures.every phrased.0 phrased.1 phrased.2)
    ]
