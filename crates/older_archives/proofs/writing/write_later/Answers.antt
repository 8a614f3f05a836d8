-- The span, what is looked for, and then the links.
use Rattle.std.proofs.Common.{arith, ◌∙◌}
use Rattle.store_rows.specs.Links.{with_links}
use Rattle.store_rows.specs.Sought.{with_sought_if}
use Rattle.store_rows.specs.Spans.{with_span_if}
use Rattle.store_rows.proofs.SpansAside.{sought_has}
use Rattle.older_archives.proofs.Rest.{span_keeps}
use Rattle.older_archives.proofs.Steps.{dated_three}
use Rattle.older_archives.proofs.writing.write_later.Goals as goal

pub returns-clause-ok : goal.returns-clause-ok
returns-clause-ok g c clean =
    let anew = c.anew.inside in
    let n = c.args.number in
    let links = rw c.deref.ensures.value at (c.link_lines.ensures.ok clean) in
    let sought = c.in_ok-write_sought.ensures.ok (omega (arith, c.link_lines.ensures.survives.clean)) in
    let span = c.in_ok-write_span.ensures.ok
    (omega (arith, c.write_sought.ensures.survives.clean, c.link_lines.ensures.survives.clean)) in
    rw (← c.anew.view_is) (dated_three c.link_lines.result _ _ _ _ (with_span_if n anew.span)
    (with_sought_if n anew.sought) (with_links n anew.lines.items) (span_keeps n anew.span)
    (λ rows has. sought_has n anew.sought rows ∙ has) span sought links)
