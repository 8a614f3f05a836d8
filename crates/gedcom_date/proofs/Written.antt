-- What is written of a value is read as the same value.
use Rattle.std.proofs.Common.{inl, inr, refl}
use Rattle.gedcom_date.specs.View.{view}
use Rattle.gedcom_date.specs.Spelling.{spelling}
use Rattle.gedcom_date.specs.Grammar.{Says}
use Rattle.gedcom_date.specs.declared.value.DateValue.{DateValue}
use Rattle.gedcom_date.specs.declared.value.DateValue.TheVariants.{
  On,
  Near,
  Before,
  After,
  Between,
  From,
  To,
  FromTo,
  Interpreted,
  Phrase,
  Verbatim,
}
use Rattle.gedcom_date.proofs.Again.{form_back}

pub again : (value : DateValue) → Says (spelling (view value)) (view value)
unfolding spelling
again (On date) = inl (form_back (view (On date)) tt date.exists, date.exists)
again (Near how date) = inl (form_back (view (Near how date)) tt date.exists, date.exists)
again (Before date) = inl (form_back (view (Before date)) tt date.exists, date.exists)
again (After date) = inl (form_back (view (After date)) tt date.exists, date.exists)
again (Between p) = inl (
  form_back (view (Between p)) tt (p.first.exists, p.last.exists, p.ordered),
  (p.first.exists, p.last.exists, p.ordered),
)
again (From date) = inl (form_back (view (From date)) tt date.exists, date.exists)
again (To date) = inl (form_back (view (To date)) tt date.exists, date.exists)
again (FromTo p) = inl (
  form_back (view (FromTo p)) tt (p.first.exists, p.last.exists, p.ordered),
  (p.first.exists, p.last.exists, p.ordered),
)
again (Interpreted i) = inl (form_back (view (Interpreted i)) tt (i.date.exists, i.short), (i.date.exists, i.short))
again (Phrase p) = inl (form_back (view (Phrase p)) tt p.short, p.short)
again (Verbatim v) = inr (refl, v.fits_none)
