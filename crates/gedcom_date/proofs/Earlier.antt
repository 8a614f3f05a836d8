-- The grammar before French Republican dates is a part of the grammar.
use Rattle.std.proofs.Common.{◌≡◌, ◌⊎◌, inl, inr, ◌∙◌, refl, sym, subst, List, ℕ}
use Rattle.calendar_days.specs.declared.calendar.Calendar.{Calendar}
use Rattle.calendar_days.specs.declared.calendar.Calendar.TheVariants.{Gregorian, Julian, Republican}
use Rattle.gedcom_date.specs.Form.{
  Form,
  OnDate,
  NearDate,
  BeforeDate,
  AfterDate,
  BetweenDates,
  SinceDate,
  UntilDate,
  FromToDates,
  InterpretedDate,
  PhraseAlone,
  VerbatimText,
}
use Rattle.gedcom_date.specs.Grammar.{Fits, FitsNone, Says}
use Rattle.gedcom_date.specs.Before.{FitsBefore, FittedNone, IsEarlier, IsEarlierForm, SaysBefore}
use Rattle.gedcom_date.proofs.Deciding.{some_value}
use Rattle.gedcom_date.proofs.Fitting.{one_form}

-- a text says one thing
one : (text : List ℕ) (f g : Form) → Fits text f ⊎ ((f ≡ VerbatimText text) × FitsNone text)
    → Fits text g ⊎ ((g ≡ VerbatimText text) × FitsNone text) → f ≡ g
one text f g (inl h) (inl k) = one_form text f g h.0 k.0
one text f g (inl h) (inr k) = absurd (k.1 f h)
one text f g (inr h) (inl k) = absurd (h.1 g k)
one text f g (inr h) (inr k) = h.0 ∙ sym k.0

pub one_said : (text : List ℕ) (f g : Form) → Says text f → Says text g → f ≡ g
one_said text f g h k = one text f g h k

-- what is said now, where it is of that grammar and where it is not
pub found_before : (text : List ℕ) (f : Form) → Fits text f ⊎ ((f ≡ VerbatimText text) × FitsNone text)
    → IsEarlierForm f → FitsBefore text f
found_before text f (inl h) is = (h, is)
found_before text f (inr h) is = absurd (subst IsEarlierForm h.0 is)

pub none_before : (text : List ℕ) (f : Form) → Says text f → (IsEarlierForm f → ⊥) → FittedNone text
none_before text f h lacks = λ g fits. lacks (subst IsEarlierForm (one_said text g f (inl fits.0) h) fits.1)

-- each text had one value
earlier : (c : Calendar) → IsEarlier c ⊎ ¬ (IsEarlier c)
earlier Gregorian = inl tt
earlier Julian = inl tt
earlier Republican = inr (λ h. h)

both : (a b : Calendar) → IsEarlier a ⊎ ¬ (IsEarlier a) → IsEarlier b ⊎ ¬ (IsEarlier b) → (IsEarlier a × IsEarlier b)
    ⊎ ¬ (IsEarlier a × IsEarlier b)
both a b (inl h) (inl k) = inl (h, k)
both a b (inl h) (inr lacks) = inr (λ h. lacks h.1)
both a b (inr lacks) k = inr (λ h. lacks h.0)

earlier_form : (f : Form) → IsEarlierForm f ⊎ ¬ (IsEarlierForm f)
earlier_form (OnDate d) = earlier d.calendar
earlier_form (NearDate how d) = earlier d.calendar
earlier_form (BeforeDate d) = earlier d.calendar
earlier_form (AfterDate d) = earlier d.calendar
earlier_form (BetweenDates d e) = both d.calendar e.calendar (earlier d.calendar) (earlier e.calendar)
earlier_form (SinceDate d) = earlier d.calendar
earlier_form (UntilDate d) = earlier d.calendar
earlier_form (FromToDates d e) = both d.calendar e.calendar (earlier d.calendar) (earlier e.calendar)
earlier_form (InterpretedDate d phrase) = earlier d.calendar
earlier_form (PhraseAlone phrase) = inl tt
earlier_form (VerbatimText t) = inr (λ h. h)

pub some_before : (text : List ℕ) → (f : Form) × SaysBefore text f
some_before text =
    let said = some_value text in
    elim (earlier_form said.0) [
      | inl is ↦ (said.0, inl (found_before text said.0 said.1 is))
      | inr lacks ↦ (VerbatimText text, inr (refl, none_before text said.0 said.1 lacks))
    ]

one_by : (text : List ℕ) (f g : Form) → FitsBefore text f ⊎ ((f ≡ VerbatimText text) × FittedNone text)
    → FitsBefore text g ⊎ ((g ≡ VerbatimText text) × FittedNone text) → f ≡ g
one_by text f g (inl h) (inl k) = one_form text f g h.0.0 k.0.0
one_by text f g (inl h) (inr k) = absurd (k.1 f h)
one_by text f g (inr h) (inl k) = absurd (h.1 g k)
one_by text f g (inr h) (inr k) = h.0 ∙ sym k.0

pub one_before : (text : List ℕ) (f g : Form) → SaysBefore text f → SaysBefore text g → f ≡ g
one_before text f g h k = one_by text f g h k
