-- Lines are those of one record of that time at the most.
use Rattle.std.proofs.Common.{◌≡◌, ℕ, List, refl, sym, ap, subst, ◌∙◌, true}
use Rattle.std.specs.Prelude.{Option, Some, None, option_map, IfSome}
use Rattle.stored_lines.specs.Line.{Label}
use Rattle.record_fields.specs.Dated.{date_text}
use Rattle.record_fields.specs.declared.date.Date.{Date}
use Rattle.record_kinds.specs.declared.record.Record.{Record}
use Rattle.records.proofs.Shallow.{stored_one}
use Rattle.date_spans.specs.Spans.{date_in}
use Rattle.older_archives.specs.Anew.{with_date}
use Rattle.older_archives.specs.Lines.{date_line_at, lines_with, place_in}
use Rattle.older_archives.specs.Old.{IsOld, OldRecord, WasKeptAs, has_dates, stored_with}
use Rattle.older_archives.proofs.KeptAnew.{HasDateLine, has_line, some_place}
use Rattle.older_archives.proofs.OldLines.{place_is, place_of, put_back, put_twice, with_spelling}
use Rattle.older_archives.proofs.SoundAnew.{said}

-- a record without a date is the same without one
bare : (r : Record) → date_in r ≡ None → with_date None r ≡ r
bare r none = sym (put_twice None None r) ∙ ap (λ d. with_date d (with_date None r)) (sym none) ∙ put_back r

-- two records without dates are one where they are kept as the same lines with some date
one_rest : (d : Option Date) (r s : Record) → date_in r ≡ None → date_in s ≡ None
    → stored_with (option_map date_text d) r ≡ stored_with (option_map date_text d) s → r ≡ s
one_rest d r s none other same =
    let dated : with_date d r ≡ with_date d s = stored_one (with_date d r) (with_date d s)
    (sym (with_spelling d r) ∙ same ∙ with_spelling d s) in
    sym (bare r none) ∙ sym (put_twice None d r) ∙ ap (with_date None) dated ∙ put_twice None d s ∙ bare s other

line_of : (o : OldRecord) (t : List ℕ) → IsOld o → o.date ≡ Some t → (at : ℕ) × (place_of o.rest ≡ Some at)
line_of o t is e = some_place o.rest
    (subst (λ (d : Option (List ℕ)). IfSome d (λ _. has_dates o.rest ≡ true)) e is.held)

-- a date on the one is a date on the other
module _ (r s : Record) (a b : Option (List ℕ)) (same : stored_with a r ≡ stored_with b s) where
  one_place : (at : ℕ) → place_of r ≡ Some at → place_of s ≡ Some at
  one_place at e = sym (place_is b s) ∙ ap place_in (sym same) ∙ place_is a r ∙ e

  one_text : (at : ℕ) → HasDateLine at r → HasDateLine at s → a ≡ b
  one_text at h k = sym (h.line a) ∙ ap (λ ls. date_line_at ls (Some at)) same ∙ k.line b

one_dated : (r s : Record) (t u : List ℕ) (at : ℕ) → date_in r ≡ None → date_in s ≡ None → HasDateLine at r
    → HasDateLine at s → t ≡ u → stored_with (Some t) r ≡ stored_with (Some u) s → r ≡ s
one_dated r s t u at none other h k one same =
    one_rest (Some (said t)) r s none other
    (sym (h.put t (said t).text) ∙ ap (lines_with at (said t).text) same ∙ k.put u (said t).text)

same_old : (o p : OldRecord) (a b : Option (List ℕ)) → o.date ≡ a → p.date ≡ b → IsOld o → IsOld p
    → stored_with o.date o.rest ≡ stored_with p.date p.rest → (o.rest ≡ p.rest) × (o.date ≡ p.date)
same_old o p None None e f is also same = (
  one_rest None o.rest p.rest is.apart also.apart
      (sym (ap (λ d. stored_with d o.rest) e) ∙ same ∙ ap (λ d. stored_with d p.rest) f),
  e ∙ sym f,
)
same_old o p (Some t) b e f is also same =
    let (at, place) = line_of o t is e in
    let there : place_of p.rest ≡ Some at = one_place o.rest p.rest o.date p.date same at place in
    let h : HasDateLine at o.rest = has_line at o.rest place in
    let k : HasDateLine at p.rest = has_line at p.rest there in
    let date : o.date ≡ p.date = one_text o.rest p.rest o.date p.date same at h k in (
      one_dated o.rest p.rest t t at is.apart also.apart h k refl
          (sym (ap (λ d. stored_with d o.rest) e) ∙ same ∙ ap (λ d. stored_with d p.rest) (sym date ∙ e)),
      date,
    )
same_old o p None (Some u) e f is also same =
    let (at, place) = line_of p u also f in
    let there : place_of o.rest ≡ Some at = one_place p.rest o.rest p.date o.date (sym same) at place in
    let date : o.date ≡ p.date = one_text o.rest p.rest o.date p.date same at (has_line at o.rest there)
    (has_line at p.rest place) in
    let wrong : ◌≡◌ {A = Option (List ℕ)} None (Some u) = sym e ∙ date ∙ f in absurd cc

pub one_old : (lines : List (ℕ × Label)) (o p : OldRecord) → WasKeptAs lines o → WasKeptAs lines p → o ≡ p
one_old lines o p h k =
    let both = same_old o p o.date p.date refl refl h.is k.is (sym h.lines ∙ k.lines) in
    λ i. record { rest = both.0 i; date = both.1 i }
