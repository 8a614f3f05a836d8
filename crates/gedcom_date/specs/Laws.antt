-- The laws of values.
use Rattle.std.specs.Prelude.{◌≡◌, ℕ, List}
use Rattle.gedcom_date.specs.Form.{Form}
use Rattle.gedcom_date.specs.Grammar.{Says}
use Rattle.gedcom_date.specs.Before.{SaysBefore, FitsBefore}

-- each text has a value
abbrev pub IsSomeValue : Type 0
IsSomeValue = (text : List ℕ) → (f : Form) × Says text f

-- no text has two values
abbrev pub IsOneValue : Type 0
IsOneValue = (text : List ℕ) (f g : Form) → Says text f → Says text g → f ≡ g

-- by the grammar before French Republican dates too each text had a value, and no text had two
abbrev pub HadOneValue : Type 0
HadOneValue =
    ((text : List ℕ) → (f : Form) × SaysBefore text f)
    × ((text : List ℕ) (f g : Form) → SaysBefore text f → SaysBefore text g → f ≡ g)

-- what it read as a form, the grammar reads as that form
abbrev pub ReadsAsBefore : Type 0
ReadsAsBefore = (text : List ℕ) (f : Form) → FitsBefore text f → Says text f
