use Rattle.std.proofs.Common.{◌≡◌, ◌∙◌, sym}
use Rattle.std.proofs.lemmas.Option.{same_Some}
use Rattle.calendar_days.specs.Told.{told}
use Rattle.gedcom_date.proofs.Dates.{ordered_same}
use Rattle.gedcom_date.proofs.forms.period.Goals as goal

pub returns-clause-every : goal.returns-clause-every
returns-clause-every c = λ d e hd he xd xe ordered.
    let a = told c.in_ok-date.field-0 in
    let b = told c.in_ok-date-2.field-0 in
    let x : a ≡ d = same_Some a d (sym c.in_ok-date.ensures.found ∙ hd) in
    let y : b ≡ e = same_Some b e (sym c.in_ok-date-2.ensures.found ∙ he) in
    c.new.ensures.every (ordered_same a b d e x y ordered)
