-- What the texts of that time say today.
use Rattle.std.proofs.Common.{◌≡◌, ◌⊎◌, ℕ, List, sym, ap, ◌∙◌, inl, inr}
use Rattle.gedcom_date.specs.Before.{FitsBefore, FittedNone}
use Rattle.gedcom_date.specs.Form.{Form, VerbatimText}
use Rattle.gedcom_date.specs.Spelling.{spelling}
use Rattle.gedcom_date.proofs.Earlier.{one_said}
use Rattle.record_fields.specs.Dates.{IsWritten}
use Rattle.older_archives.specs.Dates.{WasWritten}

-- a text that fitted none stood for itself
itself : (text : List ℕ) (form : Form) → form ≡ VerbatimText text → text ≡ spelling form
unfolding spelling
itself text form is = sym (ap spelling is)

none_said : (text : List ℕ) → FittedNone text → (form : Form)
    → FitsBefore text form ⊎ ((form ≡ VerbatimText text) × FittedNone text) → text ≡ spelling form
none_said text none form (inl fits) = absurd (none form fits)
none_said text none form (inr is) = itself text form is.0

pub none_was_written : (text : List ℕ) → FittedNone text → WasWritten text
none_was_written text none form says = none_said text none form says

-- a spelling of today was one of that time
was_said : (text : List ℕ) → IsWritten text → (form : Form)
    → FitsBefore text form ⊎ ((form ≡ VerbatimText text) × FittedNone text) → text ≡ spelling form
was_said text written form (inl fits) = written form (inl fits.0)
was_said text written form (inr is) = itself text form is.0

pub written_was : (text : List ℕ) → IsWritten text → WasWritten text
written_was text written form says = was_said text written form says

-- the spelling of a form that was fitted then is that of today
pub fitted_is_written : (text : List ℕ) (form : Form) → FitsBefore text form → WasWritten text → IsWritten text
fitted_is_written text form fits was g says = was form (inl fits) ∙ ap spelling
    (one_said text form g (inl fits.0) says)
