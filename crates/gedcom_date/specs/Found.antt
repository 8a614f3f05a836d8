-- What a reader of a part answers, in the words of its contract.
use Rattle.std.specs.Prelude.{◌≡◌, Option, Some, IsSome}
use Rattle.gedcom_date.specs.Form.{Form}
use Rattle.gedcom_date.specs.Grammar.{IsGood}
use Rattle.gedcom_date.specs.View.{view}
use Rattle.gedcom_date.specs.declared.value.DateValue.{DateValue}

-- the value has the form that was read, and is good
abbrev pub Holds : Option Form → DateValue → Type 0
Holds form value = (form ≡ Some (view value)) × IsGood (view value)

-- where the form that was read is good, a value is found
abbrev pub FindsEach : Option Form → Option DateValue → Type 0
FindsEach form found = (f : Form) → form ≡ Some f → IsGood f → IsSome found
