use Rattle.std.proofs.Common.{rules, ap, ◌∙◌, ◌≡◌, ◌++◌, ◌∷◌, [], Ok, inl, refl, length, w32}
use Rattle.std.proofs.lemmas.Int.{to_z-of_z}
use Rattle.std.proofs.lemmas.Result.{err_from_is_err_and}
use Rattle.sqlite.specs.Held.{state}
use Rattle.store_tables.specs.Rows.{SpanRow}
use Rattle.store_tables.proofs.ReadingRows.{looks_then, looks_with}
use Rattle.table_looks.proofs.Seen.{all_seen, begun, none_more, one_more, sees_failed, sees_refused}
use Rattle.table_looks.proofs.finding.between_days.Goals as goal

pub rows-init : goal.rows-init
rows-init g c = (
  c.in_ok-spans.ensures.ended,
  looks_with (Ok tt) c.in_ok-spans.ensures.looks
      (λ rows is has. begun _ _ rows c.in_ok-spans.spans.items
      c.into_iter-row-iterator.result.rest.items c.new-found.result.items
      c.into_iter-row-iterator.ensures.into_iter_gives.0 c.new-found.ensures.items (is has)) tt,
)

pub is_found-requires : goal.is_found-requires
is_found-requires g c = record { autocommit = c.rows.invariant.0 }

pub returns-in_err-is_found-clause-sees : goal.returns-in_err-is_found-clause-sees
returns-in_err-is_found-clause-sees g c = sees_refused c.from_residual-in_err-is_found.result (search rules)
    (looks_then c.rows.invariant.1 c.in_err-is_found.ensures.looks)

pub rows-preserved-in-Continue-branch-3 : goal.rows-preserved-in-Continue-branch-3
rows-preserved-in-Continue-branch-3 g c = (
  c.is_found.ensures.ended,
  looks_with (Ok tt) (looks_then c.rows.invariant.1 c.in_ok-is_found.ensures.looks)
      (λ rows is has. one_more _ _ rows c.rows.yielded c.rows.row-iterator.rest.items c.in-Some.row
      c.next.new.self.rest.items c.rows.found.items c.in-Some.ensures.steps.0 (is.0 has) c.in_ok-is_found.field-0 is.1
      c.if-branch.true c.push.new.numbers.items
      (c.in_ok-push.ensures ∙ ap (λ (s : SpanRow). c.rows.found.items ++ s.no ∷ []) c.row.view_is)) tt,
)

pub returns-in_err-push-clause-sees : goal.returns-in_err-push-clause-sees
returns-in_err-push-clause-sees g c =
    let p = err_from_is_err_and c.from_residual-in_err-push.result c.from_residual-in_err-push.ensures.1 in
    rw p.1 (sees_failed _ (inl p.2) (looks_then c.rows.invariant.1 c.in_ok-is_found.ensures.looks))

pub rows-preserved : goal.rows-preserved
rows-preserved g c = (
  c.is_found.ensures.ended,
  looks_with (Ok tt) (looks_then c.rows.invariant.1 c.in_ok-is_found.ensures.looks)
      (λ rows is has. none_more _ _ rows c.rows.yielded c.rows.row-iterator.rest.items c.in-Some.row
      c.next.new.self.rest.items c.rows.found.items c.in-Some.ensures.steps.0 (is.0 has) c.in_ok-is_found.field-0 is.1
      c.if-branch.false) tt,
)

pub returns-clause-sees : goal.returns-clause-sees
returns-clause-sees g c =
    let none : length c.rows.row-iterator.rest.items ≡ 0 = search rules in
    all_seen _ _ c.args.first c.args.last (λ v. v.items) c.rows.yielded c.rows.row-iterator.rest.items
    c.rows.found.items (state g.S.Store c.args.conn.now) (state g.S.Store c.rows.conn) c.rows.found
    (to_z-of_z w32 c.args.first c.ranges.first) (to_z-of_z w32 c.args.last c.ranges.last) refl none c.rows.invariant.1
