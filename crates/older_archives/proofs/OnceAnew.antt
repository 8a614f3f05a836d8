-- What is anew stays as it is, and an archive of that time is one archive today.
use Rattle.std.proofs.Common.{◌≡◌, ◌⊎◌, ℕ, List, [], ◌∷◌, refl, sym, ap, ◌∙◌, inl, inr}
use Rattle.std.specs.Prelude.{Option, Some, None, map, option_map, IfSome}
use Rattle.std.specs.FinMap.{get, nat_cmp-IsAntisymmetric, same_map}
use Rattle.std.specs.Cmp.{nat_cmp_total}
use Rattle.gedcom_date.specs.Before.{FitsBefore, FittedNone}
use Rattle.gedcom_date.specs.Form.{Form, VerbatimText}
use Rattle.gedcom_date.specs.Grammar.{Fits, FitsNone}
use Rattle.gedcom_date.specs.Spelling.{spelling}
use Rattle.gedcom_date.proofs.Deciding.{some_value}
use Rattle.gedcom_date.proofs.Earlier.{one_said, some_before}
use Rattle.record_fields.specs.Dated.{date_text, written_by}
use Rattle.record_fields.specs.Dates.{IsWritten}
use Rattle.record_fields.specs.declared.date.Date.{Date}
use Rattle.record_kinds.specs.declared.record.Record.{Record}
use Rattle.record_shapes.specs.Reading.{dated, read_by}
use Rattle.records.specs.Stored.{stored}
use Rattle.archive_state.specs.Content.{Content}
use Rattle.archive_state.specs.Slips.{Slip}
use Rattle.archive_state.specs.declared.slip.Change.{Change}
use Rattle.older_archives.specs.Anew.{
  IsAnew,
  IsAsBefore,
  OldContent,
  anew,
  change_anew,
  old_by,
  old_change_by,
  old_slip_by,
  slip_anew,
  with_date,
}
use Rattle.older_archives.specs.Dates.{WasWritten}
use Rattle.older_archives.specs.Old.{OldRecord, stored_with}
use Rattle.older_archives.proofs.KeptAnew.{anew_itself}
use Rattle.older_archives.proofs.OldLines.{with_spelling}
use Rattle.older_archives.proofs.OldTexts.{fitted_is_written}
use Rattle.older_archives.proofs.SoundAnew.{dated_is, said}
use Rattle.record_shapes.proofs.Events.{date-read}

-- ---- one archive
same_content : (c d : Content) → ((n : ℕ) → get c.records n ≡ get d.records n) → c.next ≡ d.next
    → c.receipts ≡ d.receipts → ((n : ℕ) → get c.slips n ≡ get d.slips n) → c ≡ d
same_content c d records next receipts slips =
    let one : c.records ≡ d.records = same_map nat_cmp_total nat_cmp-IsAntisymmetric c.records d.records records in
    let two : c.slips ≡ d.slips = same_map nat_cmp_total nat_cmp-IsAntisymmetric c.slips d.slips slips in
    λ i. record { records = one i; next = next i; receipts = receipts i; slips = two i }

pub one_anew : (before : OldContent) (c d : Content) → IsAnew before c → IsAnew before d → c ≡ d
one_anew before c d h k = same_content c d (λ n. h.records n ∙ sym (k.records n)) (h.next ∙ sym k.next)
    (h.receipts ∙ sym k.receipts) (λ n. h.slips n ∙ sym (k.slips n))

-- ---- anew again
found_again : (o : Option Record) → option_map anew (option_map (old_by date_text) o) ≡ o
found_again None = refl
found_again (Some r) = ap Some (anew_itself r)

change_again : (c : Change) → change_anew (old_change_by date_text c) ≡ c
change_again c = λ i. record { number = c.number; old = anew_itself c.old i; «new» = found_again c.«new» i }

changes_again : (cs : List Change) → map change_anew (map (old_change_by date_text) cs) ≡ cs
changes_again [] = refl
changes_again (c ∷ cs) = λ i. change_again c i ∷ changes_again cs i

slip_again : (o : Option Slip) → option_map slip_anew (option_map (old_slip_by date_text) o) ≡ o
slip_again None = refl
slip_again (Some s) = λ i. Some (record {
  keep = s.keep;
  gone = s.gone;
  changes = changes_again s.changes i;
  is_undone = s.is_undone;
})

pub anew_again : (c : Content) (before : OldContent) (d : Content) → IsAsBefore c before → IsAnew before d → d ≡ c
anew_again c before d was is = same_content d c
    (λ n. is.records n ∙ ap (option_map anew) (was.records n) ∙ found_again (get c.records n)) (is.next ∙ was.next)
    (is.receipts ∙ was.receipts)
    (λ n. is.slips n ∙ ap (option_map slip_anew) (was.slips n) ∙ slip_again (get c.slips n))

-- ---- the texts of that time
none_fits : (text : List ℕ) (form : Form) → form ≡ VerbatimText text → FitsNone text → IsWritten text
unfolding spelling
none_fits text form is none = written_by text (VerbatimText text) (inr (refl, none)) refl

said_now : (text : List ℕ) (form : Form) → FittedNone text
    → Fits text form ⊎ ((form ≡ VerbatimText text) × FitsNone text)
    → IsWritten text ⊎ (FittedNone text × ((g : Form) × Fits text g))
said_now text form none (inl fits) = inr (none, (form, fits))
said_now text form none (inr is) = inl (none_fits text form is.0 is.1)

said_then : (text : List ℕ) (form : Form) → WasWritten text
    → FitsBefore text form ⊎ ((form ≡ VerbatimText text) × FittedNone text)
    → IsWritten text ⊎ (FittedNone text × ((g : Form) × Fits text g))
said_then text form was (inl fits) = inl (fitted_is_written text form fits was)
said_then text form was (inr is) = let value = some_value text in said_now text value.0 is.1 value.1

pub text_cases : (text : List ℕ) → WasWritten text → IsWritten text ⊎ (FittedNone text × ((g : Form) × Fits text g))
text_cases text was = let value = some_before text in said_then text value.0 was value.1

-- what fits a form is the date of that form
pub new_date_is : (text : List ℕ) (form : Form) → Fits text form → (d : Date) × (dated text ≡ Some d)
    × (d.text ≡ spelling form)
new_date_is text form fits =
    let value = some_value text in
    (said text, dated_is text, ap spelling (one_said text value.0 form value.1 (inl fits)))

-- ---- a record that stays
lines_stay : (rest : Record) (d : Option (List ℕ)) → IfSome d IsWritten
    → stored (with_date (read_by dated d) rest) ≡ stored_with d rest
lines_stay rest None h = sym (with_spelling None rest)
lines_stay rest (Some t) h =
    let date : Date = record { text = t; written = h } in
    ap (λ d. stored (with_date d rest)) (date-read (Some date)) ∙ sym (with_spelling (Some date) rest)

pub record_stays : (o : OldRecord) → IfSome o.date IsWritten → stored (anew o) ≡ stored_with o.date o.rest
record_stays o h = lines_stay o.rest o.date h
