use Rattle.std.proofs.Common.{◌∙◌, ap}
use Rattle.merging.specs.Looks.{changes_of}
use Rattle.merging.proofs.Planning.{changes_made}
use Rattle.merging.proofs.decide_merge.made_changes.Goals as goal

pub returns-clause-shows : goal.returns-clause-shows
returns-clause-shows g c honest =
    let changes = c.in_ok-changes.ensures.shows honest in
    let numbers = c.in_ok-numbers.ensures.shows changes.0 in (
      numbers.0,
      λ held shown.
          let named = numbers.1 held shown in
          let changed = changes.1 held named.0 in (
            changed.0,
            λ k g' at_k at_g adds. changes_made c.args.keep c.args.gone c.args.number (g.V.View.content held) k g'
                c.args.adds_nothing c.in_ok-numbers.numbers.items c.in_ok-changes.changes.items
                c.in_ok-changes_of_merge.field-0
                at_k at_g adds named.1
                (changed.1 ∙ ap (changes_of c.args.keep c.args.gone (g.V.View.content held).records)
                c.as_slice.ensures.value) c.in_ok-changes_of_merge.ensures,
          ),
    )
