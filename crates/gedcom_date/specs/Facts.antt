-- What the texts of a value say of themselves has at most one proof.
use Rattle.std.specs.Prelude.{ℕ, List}
use Rattle.std.proofs.Props.{props}
use Rattle.gedcom_date.specs.Form.{Form}
use Rattle.gedcom_date.specs.Grammar.{IsShort, FitsNone}

-- the fact of a phrase
pub IsShort-prop : (form : Form) → IsProp (IsShort form)
unfolding IsShort
IsShort-prop form = hlevel props

-- the fact of a text that is kept as it stands
pub FitsNone-prop : (text : List ℕ) → IsProp (FitsNone text)
FitsNone-prop text = hlevel props
