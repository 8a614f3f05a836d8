use Rattle.merging.proofs.Planning.{undo_exact}
use Rattle.merging.proofs.decide_undo.undo.Goals as goal

pub returns-in_ok-changes_of_undoing-in-Ok-clause-exact : goal.returns-in_ok-changes_of_undoing-in-Ok-clause-exact
returns-in_ok-changes_of_undoing-in-Ok-clause-exact g c honest =
    let next = c.in-Ok.ensures.shows honest in
    let may = c.check_slip-may.ensures.decides next.0 in
    let slip = c.in_ok-slip.ensures.decides may.0 in (
      slip.0,
      λ held shown.
          let found = slip.1 held shown in
          let agrees = may.1 held found.0 in
          let now = next.1 held agrees.0 in (
            now.0,
            undo_exact (g.V.View.content held) c.args.number c.in-Ok.next c.in_ok-slip.slip c.in_ok-slip-2.slip
                c.check_slip-may.result c.in_ok-changes_of_undoing-in-Ok.field-0
                found.1 agrees.1 c.in_ok-slip-2.ensures.passed c.in_ok-slip-2.ensures.same now.1
                c.in_ok-changes_of_undoing-in-Ok.ensures,
          ),
    )
