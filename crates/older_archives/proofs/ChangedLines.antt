-- Lines with another text on one of them, and the record of today that is kept as these.
use Rattle.std.proofs.Common.{
  ◌≡◌,
  ℕ,
  zero,
  suc,
  List,
  [],
  ◌∷◌,
  ◌++◌,
  take,
  drop,
  add-one,
  append_assoc,
  length,
  length-drop,
  arith,
  ◌+◌,
  ◌-◌,
  refl,
  sym,
  ap,
  subst,
  ◌∙◌,
}
use Rattle.std.specs.Prelude.{
  ◌&&◌,
  ◌==◌,
  ◌≢◌,
  Bool,
  true,
  false,
  Option,
  Some,
  None,
  option_map,
  MatchOption,
  Result,
  Ok,
  Err,
  IfOk,
  bytes_eq,
  codes,
  slice_get,
  if◌then◌else◌,
}
use Rattle.std.proofs.lemmas.List.{take_all}
use Rattle.stored_lines.specs.Line.{Label}
use Rattle.record_fields.specs.Codes.{same_date}
use Rattle.record_fields.specs.Dated.{date_text}
use Rattle.record_fields.specs.declared.date.Date.{Date}
use Rattle.record_kinds.specs.declared.record.Record.{Record}
use Rattle.records.specs.Stored.{stored}
use Rattle.date_spans.specs.Spans.{date_in}
use Rattle.older_archives.specs.Anew.{with_date}
use Rattle.older_archives.specs.Dates.{IsNewDate}
use Rattle.older_archives.specs.Lines.{date_line_at, line_with, lines_at, lines_with, place_in, text_on}
use Rattle.older_archives.specs.Old.{stored_with}
use Rattle.older_archives.specs.RecordReading.{IsAnewOf, IsKeptAsNone, WasKeptAsNone}
use Rattle.older_archives.proofs.KeptAnew.{HasDateLine, has_line, kept_as_before, no_changed}
use Rattle.older_archives.proofs.OldLines.{date_taken, place_is, put_back}
use Rattle.older_archives.proofs.OldTexts.{none_was_written}

-- ---- one line
text_if : (b : Bool) (found : Option (List ℕ)) (text : List ℕ) → (if b then found else None) ≡ Some text
    → found ≡ Some text
text_if true found text e = e
text_if false found text e = absurd cc

put_again : (u text : List ℕ) (l : ℕ × Label) → text_on (Some l) ≡ Some text → line_with text (line_with u l) ≡ l
put_again u text l e =
    let is : l.1.text ≡ Some text = text_if ((l.0 == 1) && bytes_eq l.1.tag (codes "date")) l.1.text text e in
    λ i. (l.0, record l.1 { text = sym is i })

test_if : (b : Bool) (found : Option (List ℕ)) (text u : List ℕ) → (if b then found else None) ≡ Some text
    → (if b then Some u else None) ≡ Some u
test_if true found text u e = refl
test_if false found text u e = absurd cc

put_shown : (u text : List ℕ) (l : ℕ × Label) → text_on (Some l) ≡ Some text → text_on (Some (line_with u l)) ≡ Some u
put_shown u text l e = test_if ((l.0 == 1) && bytes_eq l.1.tag (codes "date")) l.1.text text u e

-- ---- all lines
below_first : (at : ℕ) (u : List ℕ) (l : ℕ × Label) (found : Option (ℕ × Label)) (ls : List (ℕ × Label))
    → lines_at (suc at) u found (l ∷ ls) ≡ l ∷ lines_at at u found ls
below_first at u l None ls = refl
below_first at u l (Some x) ls = ap (λ xs. l ∷ (take at ls ++ (line_with u x ∷ xs)))
    (ap (λ n. drop n (l ∷ ls)) (add-one (suc at)) ∙ ap (λ n. drop n ls) (sym (add-one at)))

step : (at : ℕ) (u : List ℕ) (l : ℕ × Label) (ls : List (ℕ × Label)) → lines_with (suc at) u (l ∷ ls)
    ≡ l ∷ lines_with at u ls
step at u l ls = below_first at u l (slice_get ls at) ls

back : (at : ℕ) (u text : List ℕ) (ls : List (ℕ × Label)) → date_line_at ls (Some at) ≡ Some text
    → lines_with at text (lines_with at u ls) ≡ ls
back at u text [] e = absurd cc
back zero u text (l ∷ ls) e = ap (λ x. x ∷ ls) (put_again u text l e)
back (suc at) u text (l ∷ ls) e =
    ap (lines_with (suc at) text) (step at u l ls) ∙ step at text l (lines_with at u ls)
    ∙ ap (λ xs. l ∷ xs) (back at u text ls e)

put_there : (at : ℕ) (u text : List ℕ) (ls : List (ℕ × Label)) → date_line_at ls (Some at) ≡ Some text
    → date_line_at (lines_with at u ls) (Some at) ≡ Some u
put_there at u text [] e = absurd cc
put_there zero u text (l ∷ ls) e = put_shown u text l e
put_there (suc at) u text (l ∷ ls) e =
    ap (λ xs. date_line_at xs (Some (suc at))) (step at u l ls) ∙ put_there at u text ls e

-- the first line stays
place_stays : (at : ℕ) (u : List ℕ) (ls : List (ℕ × Label)) → place_in (lines_with (suc at) u ls) ≡ place_in ls
place_stays at u [] = refl
place_stays at u (l ∷ ls) = ap place_in (step at u l ls)

place_if : (a b : Bool) (at : ℕ) → (if a then Some 2 else (if b then Some 4 else None)) ≡ Some at
    → (k : ℕ) × (at ≡ suc k)
place_if true b at e = (1, let same : 2 ≡ at = cc in sym same)
place_if false true at e = (3, let same : 4 ≡ at = cc in sym same)
place_if false false at e = absurd cc

not_first : (at : ℕ) (ls : List (ℕ × Label)) → place_in ls ≡ Some at → (k : ℕ) × (at ≡ suc k)
not_first at [] e = absurd cc
not_first at (l ∷ ls) e = place_if (bytes_eq l.1.tag (codes "event")) (bytes_eq l.1.tag (codes "entry")) at e

place_still : (at : ℕ) (u : List ℕ) (ls : List (ℕ × Label)) → place_in ls ≡ Some at
    → place_in (lines_with at u ls) ≡ place_in ls
place_still at u ls e =
    let (k, same) = not_first at ls e in
    ap (λ n. place_in (lines_with n u ls)) same ∙ place_stays k u ls

-- ---- the record that is kept as the changed lines
there_is : (o : Option Date) (text : List ℕ) → option_map date_text o ≡ Some text → (d : Date) × (o ≡ Some d)
    × (d.text ≡ text)
there_is None text e = absurd cc
there_is (Some d) text e = (d, refl, let same : d.text ≡ text = cc in same)

module _ (lines : List (ℕ × Label)) (at : ℕ) (text : List ℕ) (date : Date) (r : Record)
    (place : place_in lines ≡ Some at) (line : date_line_at lines (Some at) ≡ Some text)
    (new_date : IsNewDate text date)
    (kept : lines_with at date.text lines ≡ stored r) where
  spelt : Option (List ℕ)
  spelt = option_map date_text (date_in r)

  kept_with : lines_with at date.text lines ≡ stored_with (option_map date_text (date_in r)) (with_date None r)
  kept_with = kept ∙ kept_as_before r

  has : HasDateLine at (with_date None r)
  has = has_line at (with_date None r) (sym (place_is (option_map date_text (date_in r)) (with_date None r))
      ∙ ap place_in (sym kept_with) ∙ place_still at date.text lines place ∙ place)

  now_text : option_map date_text (date_in r) ≡ Some date.text
  now_text = sym (has.line (option_map date_text (date_in r)))
      ∙ ap (λ ls. date_line_at ls (Some at)) (sym kept_with) ∙ put_there at date.text text lines line

  now_date : date_in r ≡ Some date
  now_date = let there = there_is (date_in r) date.text now_text in
      there.1 ∙ ap Some (same_date there.0 date there.2)

  was_with : lines ≡ stored_with (Some text) (with_date None r)
  was_with = sym (back at date.text text lines line)
      ∙ ap (lines_with at text) (kept_with ∙ ap (λ d. stored_with d (with_date None r)) now_text)
      ∙ has.put date.text text

  pub changes : IsAnewOf lines r
  changes = (
    record { rest = with_date None r; date = Some text },
    record {
      is = record {
        apart = date_taken r;
        held = has.held;
        written = none_was_written text new_date.fitted_none;
      };
      lines = was_with;
    },
    sym (ap (λ d. with_date d (with_date None r)) (new_date.is ∙ sym now_date) ∙ put_back r),
  )

  pub is_other : lines ≢ stored r
  is_other same =
      let here : Some text ≡ Some date.text = sym line ∙ ap (λ ls. date_line_at ls (Some at)) (same ∙ kept_as_before r)
      ∙ has.line (option_map date_text (date_in r)) ∙ now_text in
      new_date.other cc

-- what is kept as the changed lines was kept as those of before
pub kept_changed : {E : Type 0} (lines changed : List (ℕ × Label)) (at : ℕ) (text : List ℕ) (date : Date)
    → place_in lines ≡ Some at → date_line_at lines (Some at) ≡ Some text → IsNewDate text date
    → changed ≡ lines_with at date.text lines → (result : Result (Option Record) E)
    → IfOk result (λ found. MatchOption found (IsKeptAsNone changed) (λ r. changed ≡ stored r)) → IsKeptAsNone lines
    → IfOk result (λ found. MatchOption found (WasKeptAsNone lines) (λ r. IsAnewOf lines r × (lines ≢ stored r)))
kept_changed lines changed at text date place line is same (Err e) h none = tt
kept_changed lines changed at text date place line is same (Ok None) h none =
    no_changed lines none at text date place line (subst IsKeptAsNone same h)
kept_changed lines changed at text date place line is same (Ok (Some r)) h none = (
  changes lines at text date r place line is (sym same ∙ h),
  is_other lines at text date r place line is (sym same ∙ h),
)

-- ---- lines that are copied, one of them with another text
to_end : (at : ℕ) (ls : List (ℕ × Label)) → take (length ls - (at + 1)) (drop (at + 1) ls) ≡ drop (at + 1) ls
to_end at ls = take_all (length ls - (at + 1)) (drop (at + 1) ls) (omega (arith, length-drop (at + 1) ls))

pub made : (at : ℕ) (text : List ℕ) (lines : List (ℕ × Label)) (l p : ℕ × Label) (a b c d : List (ℕ × Label))
    → slice_get lines at ≡ Some l → a ≡ [] → b ≡ a ++ take at lines → p ≡ line_with text l → c ≡ b ++ (p ∷ [])
    → d ≡ c ++ take (length lines - (at + 1)) (drop (at + 1) lines) → d ≡ lines_with at text lines
made at text lines l p a b c d there none front is more back =
    back ∙ ap (λ x. c ++ x) (to_end at lines) ∙ ap (λ x. x ++ drop (at + 1) lines) more
    ∙ ap (λ x. (x ++ (p ∷ [])) ++ drop (at + 1) lines) (front ∙ ap (λ y. y ++ take at lines) none)
    ∙ append_assoc (take at lines) (p ∷ []) (drop (at + 1) lines)
    ∙ ap (λ x. take at lines ++ (x ∷ drop (at + 1) lines)) is
    ∙ sym (ap (λ o. lines_at at text o lines) there)
