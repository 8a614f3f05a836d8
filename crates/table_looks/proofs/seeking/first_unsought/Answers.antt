use Rattle.std.proofs.Common.{◌∙◌}
use Rattle.table_looks.proofs.Found.{first_found}
use Rattle.table_looks.proofs.seeking.first_unsought.Goals as goal

pub returns : goal.returns
returns c = first_found c.args.held.now _ c.args.rows.items c.as_slice.result.now c.first_without.result
    c.in_ok-soughts.ensures (c.as_slice.ensures.value ∙ c.in_ok-numbers.ensures) c.first_without.ensures
