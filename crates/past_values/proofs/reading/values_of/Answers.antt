use Rattle.std.proofs.Common.{rules, drop, inl, inr, subst, sym, Err, IfErr, ◌+◌, ◌≡◌, ◌⊎◌}
use Rattle.std.specs.List.{AllByRecursion}
use Rattle.record_text.specs.declared.refusal.RefusalKind.TheVariants.{BadStored, OutOfMemory}
use Rattle.list_laws.proofs.Lists.{none_left}
use Rattle.store_tables.proofs.Loops.{item_left}
use Rattle.past_values.specs.Recalling.{HasRecord, IsValueOf}
use Rattle.past_values.proofs.Made.{all_made, holds_of, one_more}
use Rattle.past_values.proofs.reading.values_of.Goals as goal

pub rows-preserved : goal.rows-preserved
rows-preserved c =
    let rows = c.args.rows.now in
    let i = c.rows.row-index in
    let row = c.row-item.result in
    one_more IsValueOf rows (drop i rows) (drop (i + 1) rows) c.rows.values.items c.push_value.new.values.items row
    c.in_ok-value.value (item_left rows i row row c.rows-test.true c.row-item.is) c.in_ok-push_value.ensures
    c.in_ok-value.ensures.read c.rows.invariant

pub returns-clause-read : goal.returns-clause-read
returns-clause-read c =
    let rows = c.args.rows.now in
    all_made IsValueOf rows (drop c.rows.row-index rows) c.rows.values.items
    (none_left rows c.rows.row-index c.rows-test.false) c.rows.invariant

pub returns-in_err-value-clause-refused : goal.returns-in_err-value-clause-refused
returns-in_err-value-clause-refused c =
    let rows = c.args.rows.now in
    let i = c.rows.row-index in
    let row = c.row-item.result in
    let same : c.from_residual.result ≡ Err c.in_err-value.field-0.0 = search rules in
    subst (λ result. IfErr result (λ kind. (kind ≡ OutOfMemory)
    ⊎ ((kind ≡ BadStored) × ¬ (AllByRecursion HasRecord rows)))) (sym same) (elim c.in_err-value.ensures.refused [
      | inl want ↦ inl want
      | inr bad ↦ inr (
        bad.0,
        λ all. bad.1 (holds_of HasRecord i rows (drop (i + 1) rows) row
            (item_left rows i row row c.rows-test.true c.row-item.is) all),
      )
    ])
