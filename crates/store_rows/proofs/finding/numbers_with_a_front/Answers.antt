use Rattle.std.proofs.Common.{rules, arith, Ok, Err, inl, ap, ◌∙◌, ◌++◌}
use Rattle.std.proofs.lemmas.Result.{err_from_is_err_and}
use Rattle.store_tables.proofs.ReadingRows.{looks_with, looks_then, looks_lost}
use Rattle.store_rows.proofs.Found.{first_fronts, more_fronts, all_fronts}
use Rattle.store_rows.proofs.finding.numbers_with_a_front.Goals as goal

pub bytes-init : goal.bytes-init
bytes-init g c = (
  c.in_ok-found.ensures.ended,
  looks_with (Ok tt) c.in_ok-found.ensures.looks
      (λ rows is. first_fronts c.args.path.now rows _ is) tt,
)

pub numbers_before-requires-clause-autocommit : goal.numbers_before-requires-clause-autocommit
numbers_before-requires-clause-autocommit g c = c.bytes.invariant.0

pub returns-in_err-more-clause-looks : goal.returns-in_err-more-clause-looks
returns-in_err-more-clause-looks g c = looks_lost c.from_residual-in_err-more.result (search rules) c.bytes.invariant.1
    c.in_err-more.ensures.looks

pub returns-in_err-append-clause-looks : goal.returns-in_err-append-clause-looks
returns-in_err-append-clause-looks g c =
    let p = err_from_is_err_and c.from_residual-in_err-append.result c.from_residual-in_err-append.ensures.1 in
    rw p.1 (looks_with (Err _) (looks_then c.bytes.invariant.1 c.in_ok-more.ensures.looks) tt (λ rows is. inl p.2))

pub bytes-preserved : goal.bytes-preserved
bytes-preserved g c = (
  c.numbers_before.ensures.ended,
  looks_with (Ok tt) (looks_then c.bytes.invariant.1 c.in_ok-more.ensures.looks)
      (λ rows is. more_fronts c.bytes.at c.args.path.now rows c.bytes.found.items c.in_ok-more.more.items _ is.0 is.1
      (c.in_ok-append.ensures ∙ ap (λ t. c.bytes.found.items ++ t) c.deref.ensures.value)) tt,
)

pub returns-clause-looks : goal.returns-clause-looks
returns-clause-looks g c = looks_with (Ok _) c.bytes.invariant.1
    (λ rows is. all_fronts c.bytes.at c.args.path.now rows _ (omega arith) is) tt

pub returns-clause-ended : goal.returns-clause-ended
returns-clause-ended g c = c.bytes.invariant.0
