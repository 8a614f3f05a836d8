-- The date of a text in canonical spelling, by the value of the text. No clause that callers see names it.
use Rattle.std.specs.Prelude.{◌≡◌, ◌⊎◌, ℕ, List, Bool, true, false, Option, Some, None, bytes_eq, refl}
use Rattle.std.proofs.Common.{ap, sym, ◌∙◌, inl, inr}
use Rattle.gedcom_date.specs.Form.{Form, VerbatimText}
use Rattle.gedcom_date.specs.Grammar.{Says, Fits, FitsNone}
use Rattle.gedcom_date.specs.Spelling.{spelling}
use Rattle.gedcom_date.proofs.Fitting.{one_form}
use Rattle.gedcom_date.proofs.Deciding.{some_value}
use Rattle.record_fields.specs.Bytes.{bytes_are}
use Rattle.record_fields.specs.Dates.{IsWritten}
use Rattle.record_fields.specs.declared.date.Date.{Date}

-- a text says one thing
one : (text : List ℕ) (f g : Form) → Fits text f ⊎ ((f ≡ VerbatimText text) × FitsNone text)
    → Fits text g ⊎ ((g ≡ VerbatimText text) × FitsNone text) → f ≡ g
one text f g (inl h) (inl k) = one_form text f g h.0 k.0
one text f g (inl h) (inr k) = absurd (k.1 f h)
one text f g (inr h) (inl k) = absurd (h.1 g k)
one text f g (inr h) (inr k) = h.0 ∙ sym k.0

pub one_said : (text : List ℕ) (f g : Form) → Says text f → Says text g → f ≡ g
one_said text f g h k = one text f g h k

-- a text is written where it is the spelling of what it says
pub written_by : (text : List ℕ) (f : Form) → Says text f → text ≡ spelling f → IsWritten text
written_by text f h e = λ g k. e ∙ ap spelling (one_said text f g h k)

pub spelt_is : (text : List ℕ) (said : (f : Form) × Says text f) → bytes_eq (spelling said.0) text ≡ true
    → IsWritten text
spelt_is text said e = written_by text said.0 said.1 (sym (bytes_are (spelling said.0) text e))

-- the canonical spelling of what a text says
abbrev pub spelt : List ℕ → List ℕ
spelt text = spelling (some_value text).0

abbrev pub date_if : (text : List ℕ) (b : Bool) → bytes_eq (spelt text) text ≡ b → Option Date
date_if text true e = Some (record { text = text; written = spelt_is text (some_value text) e })
date_if text false e = None

unfoldable pub date_of : List ℕ → Option Date
date_of text = date_if text (bytes_eq (spelt text) text) refl

abbrev pub date_text : Date → List ℕ
date_text d = d.text

-- the date in canonical spelling, where there is a text and it is one
abbrev pub date_from : Option (List ℕ) → Option Date
date_from None = None
date_from (Some text) = date_of text
