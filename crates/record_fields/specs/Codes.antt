-- The codes by which the values of fields are distinguished.
use Rattle.std.specs.Prelude.{◌≡◌, ℕ, List}
use Rattle.std.proofs.Common.{ap, subst}
use Rattle.std.specs.Coded.{Coded, coded_list, coded_ℕ}
use Rattle.record_fields.specs.Dates.{IsWritten, IsWritten-prop}
use Rattle.record_fields.specs.declared.date.Date.{Date}

-- dates are one where their texts are
pub same_date : (a b : Date) → a.text ≡ b.text → a ≡ b
same_date a b e =
    let date : (text : List ℕ) → IsWritten text → Date = λ text written. record { text = text; written = written } in
    subst (λ (t : List ℕ). (w : IsWritten t) → a ≡ date t w) e
    (λ w. ap (date a.text) (IsWritten-prop a.text a.written w)) b.written

abbrev pub date_code : Coded Date
date_code = record {
  code = λ d. (coded_list coded_ℕ).code d.text;
  inj = λ a b e. same_date a b ((coded_list coded_ℕ).inj a.text b.text e);
}
