-- What each value of the program says.
use Rattle.std.specs.Prelude.{string_bytes}
use Rattle.calendar_days.specs.Told.{told}
use Rattle.gedcom_date.specs.Form.{
  Form,
  OnDate,
  NearDate,
  BeforeDate,
  AfterDate,
  BetweenDates,
  SinceDate,
  UntilDate,
  FromToDates,
  InterpretedDate,
  PhraseAlone,
  VerbatimText,
}
use Rattle.gedcom_date.specs.declared.value.DateValue.{DateValue}
use Rattle.gedcom_date.specs.declared.value.DateValue.TheVariants.{
  On,
  Near,
  Before,
  After,
  Between,
  From,
  To,
  FromTo,
  Interpreted,
  Phrase,
  Verbatim,
}

-- the form of a value
abbrev pub view : DateValue → Form
view (On date) = OnDate (told date)
view (Near how date) = NearDate how (told date)
view (Before date) = BeforeDate (told date)
view (After date) = AfterDate (told date)
view (Between p) = BetweenDates (told p.first) (told p.last)
view (From date) = SinceDate (told date)
view (To date) = UntilDate (told date)
view (FromTo p) = FromToDates (told p.first) (told p.last)
view (Interpreted i) = InterpretedDate (told i.date) (string_bytes i.phrase)
view (Phrase p) = PhraseAlone (string_bytes p.text)
view (Verbatim v) = VerbatimText (string_bytes v.text)
