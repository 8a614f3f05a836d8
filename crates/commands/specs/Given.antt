-- A date as a request gives it: in the canonical spelling of `gedcom_date`.
use Rattle.std.specs.Prelude.{◌≡◌, ◌≢◌, ℕ, List, [], Option, Some, None, option_map}
use Rattle.gedcom_date.specs.Form.{Form}
use Rattle.gedcom_date.specs.Grammar.{Says}
use Rattle.gedcom_date.specs.Spelling.{spelling}
use Rattle.record_fields.specs.Dated.{date_text}
use Rattle.record_fields.specs.Dates.{IsWritten}
use Rattle.record_fields.specs.declared.date.Date.{Date}
use Rattle.commands.specs.Fields.{text_of}

-- the canonical spelling, and the date that it is
pub record GivenDate : Type 0 where
  pub spelling : List ℕ
  pub date : Option Date

-- the spelling is not empty, and is that of what it says; the date is of the text that it is, none where it is none
pub record IsGiven (spelling : List ℕ) (date : Option Date) : Type 0 where
  pub some : spelling ≢ []
  pub written : IsWritten spelling
  pub said : option_map date_text date ≡ text_of spelling

-- the date that words give: none where there are no words, and else in the canonical spelling of what they say
abbrev pub Gives : List ℕ → Option GivenDate → Type 0
Gives words None = words ≡ []
Gives words (Some given) =
    (words ≢ []) × IsGiven given.spelling given.date
    × ((form : Form) → Says words form → given.spelling ≡ spelling form)
