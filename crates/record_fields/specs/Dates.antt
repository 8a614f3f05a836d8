-- Dates of records: texts in canonical spelling, by the grammar of `gedcom_date`.
use Rattle.std.specs.Prelude.{◌≡◌, ℕ, List}
use Rattle.std.proofs.Props.{props}
use Rattle.gedcom_date.specs.Form.{Form}
use Rattle.gedcom_date.specs.Grammar.{Says}
use Rattle.gedcom_date.specs.Spelling.{spelling}

-- the text is the canonical spelling of what it says
abbrev pub IsWritten : List ℕ → Type 0
IsWritten text = (form : Form) → Says text form → text ≡ spelling form

-- this has at most one proof
pub IsWritten-prop : (text : List ℕ) → IsProp (IsWritten text)
IsWritten-prop text = hlevel props
