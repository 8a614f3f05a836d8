-- The span that its number had is removed, and its own one put there.
use Rattle.std.proofs.Common.{refl, arith, [], ◌∷◌}
use Rattle.store_tables.specs.Rows.{without_span}
use Rattle.store_rows.specs.Spans.{with_span_if}
use Rattle.store_rows.proofs.Dated.{dated_then}
use Rattle.store_rows.proofs.writing.span_rows.put_span.Goals as goal

pub returns-clause-ok : goal.returns-clause-ok
returns-clause-ok g c clean =
    let n = c.args.put.now.number in
    let span = c.in_ok-span.span in
    let one = c.in_ok-delete_span.ensures.ok (omega (arith, c.insert_if.ensures.survives.clean)) in
    let two = c.in_ok-insert_if.ensures.ok clean in (
      (n, span) ∷ [],
      ((refl, c.in_ok-span.ensures), tt),
      dated_then _ _ _ (without_span n) (with_span_if n span) (λ rows has. has) one two,
    )
