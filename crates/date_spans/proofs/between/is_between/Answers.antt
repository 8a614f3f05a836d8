use Rattle.std.proofs.Common.{◌≡◌, ◌↔◌, ◌∙◌, sym, ap, subst, w32, to_z, of_z}
use Rattle.std.specs.Prelude.{IsTrue, Some, option_copied, ℤ}
use Rattle.std.specs.FinMap.{get}
use Rattle.std.proofs.lemmas.Int.{to_z-of_z}
use Rattle.date_spans.specs.Meeting.{Meets}
use Rattle.date_spans.proofs.KeptSpans.{judged}
use Rattle.date_spans.proofs.between.is_between.Goals as goal

pub returns-in-Some-2 : goal.returns-in-Some-2
returns-in-Some-2 c =
    let at : get c.args.state.now.records c.args.number ≡ Some c.in-Some.found.now =
    sym c.record.ensures ∙ ap option_copied c.in-Some.is in
    let test : IsTrue c.meets.result ↔ Meets c.in-Some-2.span c.args.first c.args.last =
    subst (λ (x : ℤ). IsTrue c.meets.result ↔ Meets c.in-Some-2.span x c.args.last)
    (to_z-of_z w32 c.args.first c.ranges.first)
    (subst (λ (x : ℤ). IsTrue c.meets.result ↔ Meets c.in-Some-2.span (to_z w32 (of_z w32 c.args.first)) x)
    (to_z-of_z w32 c.args.last c.ranges.last) c.meets.ensures) in
    judged c.args.state.now.records c.args.first c.args.last c.args.number c.in-Some.found.now
    c.in_ok-span_of.field-0 c.in-Some-2.span c.meets.result at c.in_ok-span_of.ensures c.in-Some-2.is test
