use Rattle.std.proofs.Common.{◌∙◌}
use Rattle.table_looks.proofs.Spanned.{first_found}
use Rattle.table_looks.proofs.spanning.first_unspanned.Goals as goal

pub returns : goal.returns
returns c = first_found c.args.held.now _ c.args.rows.items c.as_slice.result.now c.first_without.result
    c.in_ok-spans.ensures (c.as_slice.ensures.value ∙ c.in_ok-numbers.ensures) c.first_without.ensures
