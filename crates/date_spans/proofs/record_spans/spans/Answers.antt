use Rattle.std.proofs.Common.{◌≡◌, ◌∙◌, arith, take}
use Rattle.std.specs.BTreeMap as tree
use Rattle.std.specs.FinMap.{keys}
use Rattle.std.specs.Ordering.{nat_cmp}
use Rattle.std.proofs.lemmas.List.{take_all}
use Rattle.date_spans.proofs.KeptSpans.{all_spans, more_spans}
use Rattle.date_spans.proofs.record_spans.spans.Goals as goal

pub numbers-preserved : goal.numbers-preserved
numbers-preserved c = more_spans c.args.state.now.records (tree.get nat_cmp c.numbers.spans)
    (tree.get nat_cmp c.add_span.new.spans) c.deref-number-items.result.now c.numbers.number-index 0
    c.numbers-test.true c.numbers.invariant c.in_ok-add_span.ensures

pub returns : goal.returns
returns c =
    let all : take c.numbers.number-index c.deref-number-items.result.now ≡ keys c.args.state.now.records =
    take_all c.numbers.number-index c.deref-number-items.result.now (omega (arith, c.numbers-test.false))
    ∙ c.deref-number-items.ensures.value ∙ c.in_ok-numbers.ensures in
    all_spans c.args.state.now.records (take c.numbers.number-index c.deref-number-items.result.now)
    (tree.get nat_cmp c.numbers.spans) all c.numbers.invariant
