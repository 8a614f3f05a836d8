-- The date of a text is found exactly where the text is written.
use Rattle.std.specs.Prelude.{
  ◌≡◌,
  ℕ,
  List,
  Bool,
  true,
  false,
  Option,
  Some,
  None,
  bytes_eq,
  refl,
  MatchOption,
  option_map,
  Result,
  Ok,
  Err,
  IfOk,
}
use Rattle.std.proofs.Common.{ap, sym, ◌∙◌}
use Rattle.gedcom_date.proofs.Deciding.{some_value}
use Rattle.record_fields.specs.Dates.{IsWritten}
use Rattle.record_fields.specs.Codes.{same_date}
use Rattle.record_fields.specs.Dated.{spelt_is, spelt, date_if, date_of, date_text, date_from}
use Rattle.record_fields.specs.Bytes.{bytes_same}
use Rattle.record_fields.specs.declared.date.Date.{Date}

spelt-again : (d : Date) → spelt d.text ≡ d.text
spelt-again d = sym (d.written (some_value d.text).0 (some_value d.text).1)

date-if : (d : Date) (b : Bool) (e : bytes_eq (spelt d.text) d.text ≡ b) → date_if d.text b e ≡ Some d
date-if d true e = ap Some
    (same_date (record { text = d.text; written = spelt_is d.text (some_value d.text) e }) d refl)
date-if d false e = let same : bytes_eq (spelt d.text) d.text ≡ true = bytes_same (spelt d.text) d.text
    (spelt-again d) in absurd cc

date-of : (d : Date) → date_of d.text ≡ Some d
unfolding date_of
date-of d = date-if d (bytes_eq (spelt d.text) d.text) refl

date-not : (text : List ℕ) (b : Bool) (e : bytes_eq (spelt text) text ≡ b) → ¬ (IsWritten text)
    → date_if text b e ≡ None
date-not text true e lacks = absurd (lacks (spelt_is text (some_value text) e))
date-not text false e lacks = refl

date_found : (text : List ℕ) (found : Option Date) → MatchOption found (¬ (IsWritten text)) (λ d. d.text ≡ text)
    → found ≡ date_of text
unfolding date_of
date_found text None lacks = sym (date-not text (bytes_eq (spelt text) text) refl lacks)
date_found text (Some d) is = sym (date-of d) ∙ ap date_of is

pub date_ok : {E : Type 0} (r : Result (Option Date) E) (text : List ℕ) (o : Option (List ℕ))
    → IfOk r (λ found. MatchOption found (¬ (IsWritten text)) (λ d. d.text ≡ text)) → o ≡ Some text
    → IfOk r (λ d. d ≡ date_from o)
date_ok (Ok found) text o is e = date_found text found is ∙ ap date_from (sym e)
date_ok (Err x) text o is e = tt

pub date_back : (o : Option Date) → date_from (option_map date_text o) ≡ o
date_back None = refl
date_back (Some d) = date-of d
