-- The tables and the version, the records, and then the slips.
use Rattle.std.proofs.Common.{arith}
use Rattle.older_archives.specs.Renewing.{with_records_anew, with_slips_anew}
use Rattle.older_archives.proofs.Rest.{records_keep}
use Rattle.older_archives.proofs.Steps.{renewed}
use Rattle.older_archives.proofs.writing.write_renewal.Goals as goal

pub returns-clause-ok : goal.returns-clause-ok
returns-clause-ok g c clean =
    let renewal = c.renewal.inside in
    let last = rw c.deref-2.ensures.value at (c.write_slips.ensures.ok clean) in
    let three = rw c.deref.ensures.value at (c.in_ok-write_records.ensures.ok
    (omega (arith, c.write_slips.ensures.survives.clean))) in
    let two = c.in_ok-set_version.ensures.ok
    (omega (arith, c.write_records.ensures.survives.clean, c.write_slips.ensures.survives.clean)) in
    let one = c.in_ok-create_later_tables.ensures.ok
    (omega (
      arith,
      c.set_version.ensures.survives.clean,
      c.write_records.ensures.survives.clean,
      c.write_slips.ensures.survives.clean,
    )) in
    rw (← c.renewal.view_is) (renewed c.write_slips.result _ _ _ _ _ (with_records_anew renewal.records.items)
    (with_slips_anew renewal.slips.items) (records_keep renewal.records.items) one two three last)
