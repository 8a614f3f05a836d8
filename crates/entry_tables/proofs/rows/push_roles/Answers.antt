use Rattle.std.proofs.Common.{ℕ, ◌<◌, ◌++◌, ◌∙◌, ap, length, arith}
use Rattle.std.proofs.lemmas.Grind.{common_steps}
use Rattle.record_fields.specs.declared.entry_words.Role.{Role}
use Rattle.entry_tables.specs.Tables.{role_cells}
use Rattle.entry_tables.proofs.Steps.{then_next}
use Rattle.entry_tables.proofs.rows.push_roles.Goals as goal

pub each-preserved : goal.each-preserved
each-preserved c =
    let less : c.each.width-index < length c.args.widths.now = grind (arith, common_steps) in
    then_next (λ (w : Role × ℕ). role_cells w.0 w.1 c.args.mentions.now) c.args.widths.now c.each.width-index
    c.width-item.result c.args.row.now c.each.row c.push_role.new.row less c.width-item.is
    (c.in_ok-push_role.ensures
    ∙ ap (λ (w : Role × ℕ). c.each.row ++ role_cells w.0 w.1 c.args.mentions.now) c.width.view_is)
    c.each.invariant
