use Rattle.std.proofs.Common.{◌≡◌, ◌⊎◌, sym, ap, subst, ◌∙◌}
use Rattle.std.specs.Prelude.{Option, Some, MatchOption}
use Rattle.record_fields.specs.Dates.{IsWritten}
use Rattle.record_fields.specs.declared.date.Date.{Date}
use Rattle.older_archives.specs.Dates.{FittedSome, IsNewDate}
use Rattle.older_archives.specs.Lines.{date_line_at, lines_with, place_in}
use Rattle.older_archives.proofs.ChangedLines.{kept_changed}
use Rattle.older_archives.proofs.KeptAnew.{no_new}
use Rattle.older_archives.proofs.reading.changed.Goals as goal

pub returns-in_default-3 : goal.returns-in_default-3
returns-in_default-3 c = λ none.
    let place : place_in c.args.lines.now ≡ Some c.in-Some.at = sym c.place_in.ensures ∙ c.in-Some.is in
    let line : date_line_at c.args.lines.now (Some c.in-Some.at) ≡ Some c.in-Some-2.text =
    sym c.in_ok-text.ensures ∙ c.in-Some-2.is in
    let is : IsWritten c.in-Some-2.text ⊎ FittedSome c.in-Some-2.text = subst
    (λ (o : Option Date). MatchOption o (IsWritten c.in-Some-2.text ⊎ FittedSome c.in-Some-2.text)
    (IsNewDate c.in-Some-2.text)) c.in_default-3.is c.in_ok-date.ensures in
    no_new c.args.lines.now none c.in-Some.at c.in-Some-2.text place line is

pub returns : goal.returns
returns c = λ none.
    let place : place_in c.args.lines.now ≡ Some c.in-Some.at = sym c.place_in.ensures ∙ c.in-Some.is in
    let line : date_line_at c.args.lines.now (Some c.in-Some.at) ≡ Some c.in-Some-2.text =
    sym c.in_ok-text.ensures ∙ c.in-Some-2.is in
    let is : IsNewDate c.in-Some-2.text c.in-Some-3.date = subst
    (λ (o : Option Date). MatchOption o (IsWritten c.in-Some-2.text ⊎ FittedSome c.in-Some-2.text)
    (IsNewDate c.in-Some-2.text)) c.in-Some-3.is c.in_ok-date.ensures in
    let same : c.deref.result.now ≡ lines_with c.in-Some.at c.in-Some-3.date.text c.args.lines.now =
    c.deref.ensures.value ∙ c.in_ok-lines.ensures
    ∙ ap (λ t. lines_with c.in-Some.at t c.args.lines.now) c.in_ok-written.ensures in
    kept_changed c.args.lines.now c.deref.result.now c.in-Some.at c.in-Some-2.text c.in-Some-3.date place line is same
    c.kept.result c.kept.ensures none
