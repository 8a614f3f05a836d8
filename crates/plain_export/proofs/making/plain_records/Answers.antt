use Rattle.std.proofs.Common.{◌≡◌, ◌+◌, ◌∙◌, Err, get_or, rules, sym, subst, take}
use Rattle.std.specs.FinMap.{keys}
use Rattle.archive_state.specs.Content.{Records}
use Rattle.gedcom_export.specs.Shown.{around_in}
use Rattle.plain_export.specs.Made.{made_at}
use Rattle.plain_export.proofs.Among.{ArePut, next_put, whole_made}
use Rattle.plain_export.proofs.Failing.{weaker}
use Rattle.plain_export.proofs.making.plain_records.Goals as goal

pub numbers-preserved : goal.numbers-preserved
numbers-preserved c =
    let m = c.args.state.now.records in
    let at = made_at m (around_in c.args.index.now) c.args.added.now in
    let items = c.deref-number-items in
    subst (λ (made : Records). ArePut at (take (c.numbers.number-index + 1) (keys m)) made)
    (sym c.in_ok-put_plain.ensures.made)
    (next_put at (keys m) items.result.now c.numbers.number-index c.numbers.plain.records
    (items.ensures.value ∙ c.in_ok-numbers.ensures) c.numbers-test.true c.numbers.invariant)

pub returns-clause-made : goal.returns-clause-made
returns-clause-made c =
    let items = c.deref-number-items in
    whole_made c.args.state.now.records (around_in c.args.index.now) c.args.added.now c.numbers.plain.records
    items.result.now c.numbers.number-index (items.ensures.value ∙ c.in_ok-numbers.ensures) c.numbers-test.false
    c.numbers.invariant

pub returns-in_err-put_plain-clause-refused : goal.returns-in_err-put_plain-clause-refused
returns-in_err-put_plain-clause-refused c =
    let n = get_or c.deref-number-items.result.now c.numbers.number-index 0 in
    let same : c.from_residual-in_err-put_plain.result ≡ Err c.in_err-put_plain.field-0.0 = search rules in
    rw same (weaker _ (λ whole. whole n) c.in_err-put_plain.ensures.refused)
