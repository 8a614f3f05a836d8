-- What a date says, by its text.
use Rattle.std.proofs.Common.{◌≡◌, ℕ, List, ap}
use Rattle.gedcom_date.specs.Form.{Form}
use Rattle.gedcom_date.specs.Grammar.{Says}
use Rattle.gedcom_date.proofs.Deciding.{some_value}
use Rattle.record_fields.specs.Dated.{one_said}
use Rattle.doubts.specs.Doubts.{is_words, said_by}

-- what a text says is what it is said by the definition to say
pub same_said : (text : List ℕ) (f : Form) → Says text f → f ≡ said_by text
unfolding said_by
same_said text f h = one_said text f (some_value text).0 h (some_value text).1

pub same_words : (text : List ℕ) (f : Form) → Says text f → is_words f ≡ is_words (said_by text)
same_words text f h = ap is_words (same_said text f h)
