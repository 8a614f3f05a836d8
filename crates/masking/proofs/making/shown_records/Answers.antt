use Rattle.std.proofs.Common.{◌+◌, ◌∙◌, sym, subst, take}
use Rattle.std.specs.FinMap as map
use Rattle.archive_state.specs.Content.{Content}
use Rattle.masking.specs.Showing.{shown_there}
use Rattle.masking.proofs.Among.{AreShown, next_shown, whole_shown}
use Rattle.masking.proofs.making.shown_records.Goals as goal

pub numbers-preserved : goal.numbers-preserved
numbers-preserved c = λ knows.
    let j = c.args.judgement.now in
    let m = c.args.state.now.records in
    let at = shown_there m j.living j.open_entries in
    let items = c.deref-number-items in
    subst (λ (s : Content). AreShown at (take (c.numbers.number-index + 1) (map.keys m)) s.records)
    (sym (c.in_ok-put_shown.ensures knows))
    (next_shown at (map.keys m) items.result.now c.numbers.number-index c.numbers.masked.records
    (items.ensures.value ∙ c.in_ok-numbers.ensures) c.numbers-test.true (c.numbers.invariant knows))

pub returns : goal.returns
returns c = λ knows.
    let j = c.args.judgement.now in
    let items = c.deref-number-items in
    whole_shown c.args.state.now.records j.living j.open_entries c.numbers.masked.records items.result.now
    c.numbers.number-index (items.ensures.value ∙ c.in_ok-numbers.ensures) c.numbers-test.false
    (c.numbers.invariant knows)
