-- Words that say a date are said again by what is read of them.
use Rattle.std.specs.Prelude.{List, ℕ, refl, ◌≡◌, ◌⊎◌}
use Rattle.std.proofs.Common.{subst, ap, ◌∙◌, inr, sym, inl}
use Rattle.gedcom_date.specs.Form.{
  SinceDate,
  InterpretedDate,
  Form,
  BeforeDate,
  UntilDate,
  FromToDates,
  NearDate,
  AfterDate,
  BetweenDates,
  PhraseAlone,
  VerbatimText,
  OnDate,
}
use Rattle.gedcom_date.proofs.Again.{IsRead, form_back}
use Rattle.gedcom_date.specs.Grammar.{IsOfForm, FitsNone, Fits, Says}
use Rattle.gedcom_date.specs.Spelling.{spelling}

-- what has a form is no kept text
read_if : (text : List ℕ) (f : Form) → IsOfForm text f → IsRead f
unfolding IsOfForm
read_if text (VerbatimText t) h = h
read_if text (OnDate d) h = tt
read_if text (NearDate how d) h = tt
read_if text (BeforeDate d) h = tt
read_if text (AfterDate d) h = tt
read_if text (BetweenDates d e) h = tt
read_if text (SinceDate d) h = tt
read_if text (UntilDate d) h = tt
read_if text (FromToDates d e) h = tt
read_if text (InterpretedDate d phrase) h = tt
read_if text (PhraseAlone phrase) h = tt

kept-as : (text : List ℕ) → text ≡ spelling (VerbatimText text)
unfolding spelling
kept-as text = refl

-- what is written of a form that words have is read as the same form
pub said_again : (text : List ℕ) (f : Form) → Fits text f ⊎ ((f ≡ VerbatimText text) × FitsNone text)
    → Says (spelling f) f
said_again text f (inl h) = inl (form_back f (read_if text f h.0) h.1, h.1)
said_again text f (inr h) =
    let kept : Says text f = inr h in
    subst (λ (t : List ℕ). Says t f) (kept-as text ∙ ap spelling (sym h.0)) kept

pub says_again : (text : List ℕ) (f : Form) → Says text f → Says (spelling f) f
says_again text f h = said_again text f h
