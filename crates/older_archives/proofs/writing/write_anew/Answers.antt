-- The lines, and then what goes with them.
use Rattle.std.proofs.Common.{arith, ap, ◌∙◌}
use Rattle.store_tables.specs.Rows.{with_changed_lines}
use Rattle.older_archives.specs.Renewing.{Anew, with_later_anew}
use Rattle.older_archives.proofs.Steps.{dated_last}
use Rattle.older_archives.proofs.writing.write_anew.Goals as goal

pub returns-clause-ok : goal.returns-clause-ok
returns-clause-ok g c clean =
    let anew = c.args.anew.now in
    let n = c.args.number in
    let are = c.deref.ensures.value ∙ ap (λ (a : Anew). a.lines) c.anew.view_is in
    let one = rw are at
    (c.in_ok-change_lines.ensures.ok (omega (arith, c.write_later.ensures.survives.clean))) in
    dated_last c.write_later.result _ _ _ (with_changed_lines n anew.lines) (with_later_anew n anew)
    (λ rows has. has) one
    (c.write_later.ensures.ok clean)
