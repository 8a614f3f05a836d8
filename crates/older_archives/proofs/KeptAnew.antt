-- What a record is today, of the lines that it was kept as.
use Rattle.std.proofs.Common.{◌≡◌, ◌⊎◌, ℕ, List, refl, sym, ap, subst, ◌∙◌, inl, inr}
use Rattle.std.specs.Prelude.{true, Option, Some, None, option_map, IfSome}
use Rattle.stored_lines.specs.Line.{Label}
use Rattle.record_fields.specs.Dated.{date_text}
use Rattle.record_fields.specs.Dates.{IsWritten}
use Rattle.record_fields.specs.declared.date.Date.{Date}
use Rattle.record_kinds.specs.Model as model
use Rattle.record_kinds.specs.declared.record.Record.{Record}
use Rattle.record_kinds.specs.declared.record.Record.TheVariants as kind
use Rattle.records.specs.Shallow.{IsShallow}
use Rattle.records.specs.Stored.{stored}
use Rattle.date_spans.specs.Spans.{date_in}
use Rattle.older_archives.specs.Anew.{anew, old_by, with_date}
use Rattle.older_archives.specs.Dates.{FittedSome, WasWritten}
use Rattle.older_archives.specs.Lines.{date_line_at, lines_with, place_in}
use Rattle.older_archives.specs.Old.{IsOld, OldRecord, WasKeptAs, has_dates, stored_with}
use Rattle.older_archives.specs.RecordReading.{IsAnewOf, IsKeptAsNone, WasKeptAsNone}
use Rattle.older_archives.proofs.OldLines.{
  date_taken,
  entry_line,
  entry_with,
  event_line,
  event_with,
  held_there,
  place_is,
  place_of,
  put_back,
  shallow_still,
  with_spelling,
}
use Rattle.older_archives.proofs.OldTexts.{fitted_is_written, written_was}
use Rattle.record_shapes.proofs.Events.{date-read}

-- ---- a record of today, as one of that time
spelt_was : (o : Option Date) → IfSome (option_map date_text o) WasWritten
spelt_was None = tt
spelt_was (Some d) = written_was d.text d.written

pub is_as_before : (r : Record) → IsOld (old_by date_text r)
is_as_before r = record { apart = date_taken r; held = held_there r; written = spelt_was (date_in r) }

pub kept_as_before : (r : Record) → stored r ≡ stored_with (option_map date_text (date_in r)) (with_date None r)
kept_as_before r = sym (with_spelling (date_in r) (with_date None r) ∙ ap stored (put_back r))

pub anew_itself : (r : Record) → anew (old_by date_text r) ≡ r
anew_itself r = ap (λ d. with_date d (with_date None r)) (date-read (date_in r)) ∙ put_back r

pub stays : (lines : List (ℕ × Label)) (r : Record) → lines ≡ stored r → IsAnewOf lines r
stays lines r is = (
  old_by date_text r,
  record { is = is_as_before r; lines = is ∙ kept_as_before r },
  sym (anew_itself r),
)

-- ---- the record has the line of a date there
pub record HasDateLine (at : ℕ) (r : Record) : Type 0 where
  pub line : (date : Option (List ℕ)) → date_line_at (stored_with date r) (Some at) ≡ date
  pub put : (t u : List ℕ) → lines_with at u (stored_with (Some t) r) ≡ stored_with (Some u) r
  pub held : has_dates r ≡ true
  pub apart : (date : Option (List ℕ)) → stored_with date (with_date None r) ≡ stored_with date r

of_event : (e : model.Event) → HasDateLine 2 (kind.Event e)
of_event e = record {
  line = λ date. event_line date e;
  put = λ t u. event_with t u e;
  held = refl;
  apart = λ date. refl;
}

of_entry : (e : model.Entry) → HasDateLine 4 (kind.Entry e)
of_entry e = record {
  line = λ date. entry_line date e;
  put = λ t u. entry_with t u e;
  held = refl;
  apart = λ date. refl;
}

pub has_line : (at : ℕ) (r : Record) → place_of r ≡ Some at → HasDateLine at r
has_line at (kind.Event e) is = let same : 2 ≡ at = cc in subst (λ k. HasDateLine k (kind.Event e)) same (of_event e)
has_line at (kind.Entry e) is = let same : 4 ≡ at = cc in subst (λ k. HasDateLine k (kind.Entry e)) same (of_entry e)
has_line at (kind.Place p) is = absurd cc
has_line at (kind.Repo p) is = absurd cc
has_line at (kind.Source p) is = absurd cc
has_line at (kind.Person p) is = absurd cc
has_line at (kind.Family p) is = absurd cc
has_line at (kind.Citation p) is = absurd cc
has_line at (kind.Other p) is = absurd cc

-- a record that may have a date has a place for it
pub some_place : (r : Record) → has_dates r ≡ true → (at : ℕ) × (place_of r ≡ Some at)
some_place (kind.Event e) h = (2, refl)
some_place (kind.Entry e) h = (4, refl)
some_place (kind.Place p) h = absurd cc
some_place (kind.Repo p) h = absurd cc
some_place (kind.Source p) h = absurd cc
some_place (kind.Person p) h = absurd cc
some_place (kind.Family p) h = absurd cc
some_place (kind.Citation p) h = absurd cc
some_place (kind.Other p) h = absurd cc

-- ---- where no record of today is kept as the lines, none was, but with a text for its date
module _ (lines : List (ℕ × Label)) (none : IsKeptAsNone lines) where
  undated : (o : OldRecord) → IsShallow o.rest → WasKeptAs lines o → o.date ≡ None → ⊥
  undated o shallow was e = none (with_date None o.rest) (shallow_still None o.rest shallow)
      (was.lines ∙ ap (λ d. stored_with d o.rest) e ∙ with_spelling None o.rest)

  -- a date, in a spelling of today
  spelt_today : (o : OldRecord) (text : List ℕ) → IsShallow o.rest → WasKeptAs lines o → o.date ≡ Some text
      → IsWritten text → ⊥
  spelt_today o text shallow was e written =
      let date : Date = record { text = text; written = written } in
      none (with_date (Some date) o.rest) (shallow_still (Some date) o.rest shallow)
      (was.lines ∙ ap (λ d. stored_with d o.rest) e ∙ with_spelling (Some date) o.rest)

  -- a text for its date stands on the line that has it
  shown : (o : OldRecord) (text : List ℕ) → WasKeptAs lines o → o.date ≡ Some text
      → (at : ℕ) × (place_in lines ≡ Some at) × HasDateLine at o.rest × (date_line_at lines (Some at) ≡ Some text)
  shown o text was e =
      let held : has_dates o.rest ≡ true = subst (λ (d : Option (List ℕ)). IfSome d (λ _. has_dates o.rest ≡ true)) e
      was.is.held in
      let (at, place) = some_place o.rest held in
      let has : HasDateLine at o.rest = has_line at o.rest place in (
        at,
        ap place_in was.lines ∙ place_is o.date o.rest ∙ place,
        has,
        ap (λ ls. date_line_at ls (Some at)) was.lines ∙ has.line o.date ∙ e,
      )

  dated_or_not : (o : OldRecord) (d : Option (List ℕ)) → o.date ≡ d → IsShallow o.rest → WasKeptAs lines o
      → ((text : List ℕ) → o.date ≡ Some text → ⊥) → ⊥
  dated_or_not o None e shallow was other = undated o shallow was e
  dated_or_not o (Some text) e shallow was other = other text e

  pub no_place : place_in lines ≡ None → WasKeptAsNone lines
  no_place place o shallow was = dated_or_not o o.date refl shallow was
      (λ text e. let there = shown o text was e in let wrong : None ≡ Some there.0 = sym place ∙ there.1 in absurd cc)

  pub no_text : (at : ℕ) → place_in lines ≡ Some at → date_line_at lines (Some at) ≡ None → WasKeptAsNone lines
  no_text at place line o shallow was = dated_or_not o o.date refl shallow was (λ text e.
      let there = shown o text was e in
      let same : at ≡ there.0 = let both : Some at ≡ Some there.0 = sym place ∙ there.1 in cc in
      let wrong : None ≡ Some text = sym line ∙ ap (λ k. date_line_at lines (Some k)) same ∙ there.3 in absurd cc)

  -- the text on the line is that of the date
  one_text : (at : ℕ) (text : List ℕ) → place_in lines ≡ Some at → date_line_at lines (Some at) ≡ Some text
      → (o : OldRecord) (t : List ℕ) → WasKeptAs lines o → o.date ≡ Some t
      → (o.date ≡ Some text) × HasDateLine at o.rest
  one_text at text place line o t was e =
      let there = shown o t was e in
      let same : there.0 ≡ at = let both : Some there.0 ≡ Some at = sym there.1 ∙ place in cc in (
        e ∙ sym there.3 ∙ ap (λ k. date_line_at lines (Some k)) same ∙ line,
        subst (λ k. HasDateLine k o.rest) same there.2,
      )

  written_of : (text : List ℕ) (o : OldRecord) → WasKeptAs lines o → o.date ≡ Some text → WasWritten text
  written_of text o was e = subst (λ (d : Option (List ℕ)). IfSome d WasWritten) e was.is.written

  pub no_new : (at : ℕ) (text : List ℕ) → place_in lines ≡ Some at → date_line_at lines (Some at) ≡ Some text
      → IsWritten text ⊎ FittedSome text → WasKeptAsNone lines
  no_new at text place line is o shallow was = dated_or_not o o.date refl shallow was (λ t e.
      let same = (one_text at text place line o t was e).0 in
      elim is as (λ _. ⊥) [
        | inl written ↦ spelt_today o text shallow was same written
        | inr fitted ↦ spelt_today o text shallow was same
            (fitted_is_written text fitted.0 fitted.1 (written_of text o was same))
      ])

  pub no_changed : (at : ℕ) (text : List ℕ) (date : Date) → place_in lines ≡ Some at
      → date_line_at lines (Some at) ≡ Some text → IsKeptAsNone (lines_with at date.text lines) → WasKeptAsNone lines
  no_changed at text date place line no_more o shallow was = dated_or_not o o.date refl shallow was (λ t e.
      let there = one_text at text place line o t was e in
      no_more (with_date (Some date) o.rest) (shallow_still (Some date) o.rest shallow)
      (ap (lines_with at date.text) (was.lines ∙ ap (λ d. stored_with d o.rest) there.0)
      ∙ there.1.put text date.text ∙ with_spelling (Some date) o.rest))
