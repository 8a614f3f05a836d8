use Rattle.merging.proofs.Planning.{merge_exact, merge_planned}
use Rattle.merging.proofs.decide_merge.merge.Goals as goal

pub returns-clause-decides : goal.returns-clause-decides
returns-clause-decides g c honest =
    let made = c.made_changes.ensures.shows honest in
    let room = c.in_ok-number.ensures.decides made.0 in
    let families = c.in_ok-check_families.ensures.decides room.0 in
    let second = c.in_ok-person_at-2.ensures.decides families.0 in
    let first = c.in_ok-person_at.ensures.decides second.0 in (
      first.0,
      λ held shown.
          let keeps = first.1 held shown in
          let goes = second.1 held keeps.0 in
          let free = families.1 held goes.0 in
          let next = room.1 held free.0 in
          let done = made.1 held next.0 in (
            done.0,
            merge_planned (g.V.View.content held) c.args.keep c.args.gone c.in_ok-number.number
                c.in_ok-person_at.field-0 c.in_ok-person_at-2.field-0 keeps.1 goes.1 c.if-keep-gone.false free.1 next.1
                c.person_adds_nothing-adds_nothing.result c.person_adds_nothing-adds_nothing.ensures
                c.made_changes.result done.1,
          ),
    )

pub returns-clause-exact : goal.returns-clause-exact
returns-clause-exact g c honest =
    let made = c.made_changes.ensures.shows honest in
    let room = c.in_ok-number.ensures.decides made.0 in
    let families = c.in_ok-check_families.ensures.decides room.0 in
    let second = c.in_ok-person_at-2.ensures.decides families.0 in
    let first = c.in_ok-person_at.ensures.decides second.0 in (
      first.0,
      λ held shown.
          let keeps = first.1 held shown in
          let goes = second.1 held keeps.0 in
          let free = families.1 held goes.0 in
          let next = room.1 held free.0 in
          let done = made.1 held next.0 in (
            done.0,
            merge_exact (g.V.View.content held) c.args.keep c.args.gone c.in_ok-number.number c.in_ok-person_at.field-0
                c.in_ok-person_at-2.field-0 keeps.1 goes.1 c.if-keep-gone.false free.1 next.1
                c.person_adds_nothing-adds_nothing.result c.person_adds_nothing-adds_nothing.ensures
                c.made_changes.result done.1,
          ),
    )
