use Rattle.std.proofs.Common.{refl, inr, ap, sym, subst, ◌∙◌, ℕ}
use Rattle.std.specs.List.{list_all}
use Rattle.store_rows.specs.Meaning.{side_lines}
use Rattle.store_rows.specs.Sides.{SideLine, is_of, side_lines_in}
use Rattle.std.proofs.lemmas.Result.{err_from_is_err_and}
use Rattle.store_rows.proofs.SidesRead.{all_of_side, weaker}
use Rattle.older_archives.specs.Reading.{IsSideAnewOf}
use Rattle.older_archives.specs.Renewing.{Anew}
use Rattle.older_archives.proofs.Parted.{mixed, no_side, one_side_anew}
use Rattle.older_archives.proofs.sides.side_anew.Goals as goal

pub returns-then-not-are_of_side-clause-refused : goal.returns-then-not-are_of_side-clause-refused
returns-then-not-are_of_side-clause-refused c = inr (
  refl,
  mixed c.args.lines.now c.in-Some.first.now c.in-Some.ensures.value
      (ap (λ (r : ℕ × SideLine). list_all (λ (x : ℕ × SideLine). is_of r.1.0 r.1.1.0 x.1) c.args.lines.now)
      (sym c.first-2.view_is)
      ∙ sym c.are_of_side.ensures ∙ c.if-not-are_of_side.true),
)

pub returns-in_err-anew_of-clause-refused : goal.returns-in_err-anew_of-clause-refused
returns-in_err-anew_of-clause-refused c =
    let p = err_from_is_err_and c.from_residual-in_err-anew_of.result c.from_residual-in_err-anew_of.ensures.1 in
    rw (p.1, p.2) (weaker c.in_err-anew_of.field-0.0
    (no_side c.args.lines.now c.deref.result.now (c.deref.ensures.value ∙ c.in_ok-stored.ensures))
    c.in_err-anew_of.ensures.refused)

pub returns-clause-read : goal.returns-clause-read
returns-clause-read c =
    let b = c.first-2.inside.is_new in
    let n = c.first-2.inside.number in
    let stored = c.deref.ensures.value ∙ c.in_ok-stored.ensures in
    let lines = side_lines_in c.args.lines.now in
    subst (λ (a : Anew). IsSideAnewOf lines (b, (n, a.lines))) (sym c.result.view_is)
    (one_side_anew c.args.lines.now b n c.deref.result.now _ stored
    (all_of_side b n c.args.lines.now (sym c.are_of_side.ensures ∙ c.if-not-are_of_side.false)
    ∙ ap (side_lines b n) (sym stored)) c.in_ok-anew_of.ensures.read)
