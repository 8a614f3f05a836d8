use Rattle.std.proofs.Common.{◌≡◌, sym, subst, ◌∙◌}
use Rattle.std.specs.Prelude.{IfOk, MatchOption}
use Rattle.record_shapes.specs.Lists.{Ascends}
use Rattle.sound_records.specs.Knowing.{HasAll}
use Rattle.audit.specs.Olds.{records_before}
use Rattle.audit.specs.Parts.{BreaksInside, KeepsInside, changed}
use Rattle.audit.proofs.BeforeAll.{all_listed}
use Rattle.audit.proofs.judging.broken_inside.Goals as goal

pub returns : goal.returns
returns c = λ asc.
    let cs = c.args.changes.now in
    let numbers : c.as_slice.result.now ≡ changed cs = c.as_slice.ensures.value ∙ c.in_ok-numbers.ensures in
    subst (λ m. IfOk c.broken_by_olds.result (λ o. MatchOption o
    (KeepsInside c.args.next m c.args.keep c.args.gone cs)
    (BreaksInside c.args.next m c.args.keep c.args.gone cs))) c.in_ok-olds.ensures
    (c.broken_by_olds.ensures (subst Ascends (sym numbers) asc)
    (subst (HasAll c.as_slice.result.now) (sym c.in_ok-olds.ensures)
    (subst (λ ns. HasAll ns (records_before cs)) (sym numbers) (all_listed cs))))
