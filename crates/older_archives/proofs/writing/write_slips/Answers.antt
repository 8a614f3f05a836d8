-- One turn more.
use Rattle.std.proofs.Common.{drop, ap, ◌∙◌, ◌+◌}
use Rattle.store_tables.proofs.Loops.{item_left}
use Rattle.store_rows.proofs.Dated.{goes_on}
use Rattle.older_archives.specs.Renewing.{with_slip_anew, with_slips_anew}
use Rattle.older_archives.proofs.writing.write_slips.Goals as goal

pub slips-preserved : goal.slips-preserved
slips-preserved g c =
    let slips = c.args.slips.now in
    let slip = c.slip-item.result in
    let rest = drop (c.slips.slip-index + 1) slips in
    let left = item_left slips c.slips.slip-index slip slip c.slips-test.true c.slip-item.is in (
      c.write_slip.ensures.same_reference ∙ c.slips.invariant.0,
      goes_on _ _ _ _ _ (with_slip_anew slip) (with_slips_anew rest) c.slips.invariant.1
          (λ rows has. has) c.in_ok-write_slip.ensures.ok c.write_slip.ensures.survives
          (λ rows. ap (λ all. with_slips_anew all rows) left),
    )
