-- The dates of tables that were written before the grammar had French Republican dates: texts, in the spelling that the
-- grammar of that time gave them.
use Rattle.std.specs.Prelude.{◌≡◌, ◌≢◌, ℕ, List, Some}
use Rattle.gedcom_date.specs.Before.{FitsBefore, FittedNone, SaysBefore}
use Rattle.gedcom_date.specs.Form.{Form}
use Rattle.gedcom_date.specs.Spelling.{spelling}
use Rattle.record_fields.specs.declared.date.Date.{Date}
use Rattle.record_shapes.specs.Reading.{dated}

-- the text is the canonical spelling of the form that it fitted then; one that fitted none stands for itself
abbrev pub WasWritten : List ℕ → Type 0
WasWritten text = (form : Form) → SaysBefore text form → text ≡ spelling form

-- it fitted a form of that grammar
abbrev pub FittedSome : List ℕ → Type 0
FittedSome text = (form : Form) × FitsBefore text form

-- it fitted none, and says this date today, in another spelling
pub record IsNewDate (text : List ℕ) (date : Date) : Type 0 where
  pub fitted_none : FittedNone text
  pub is : dated text ≡ Some date
  pub other : text ≢ date.text
