use Rattle.std.proofs.Common.{◌≡◌, ◌<◌, rules, sym, arith}
use Rattle.std.proofs.lemmas.Grind.{common_steps}
use Rattle.stored_lines.specs.Tree.{forest_of}
use Rattle.stored_lines.specs.Levels.{forest_levels}
use Rattle.stored_lines.specs.Line.{Line}
use Rattle.plain_export.proofs.Trimming.{few_below, kept_each, trimmed_again}
use Rattle.plain_export.proofs.kept.+kept_line.Goals as goal

pub returns : goal.returns
returns t c =
    let m = c.args.state.now.records in
    let line : Line = record { tag = c.line.inside.tag; value = c.line.inside.value } in
    let made : Line = record { tag = c.in_ok-copy.field-0; value = c.in_ok-copy-2.field-0 } in
    let top : made ≡ line = search rules in
    let below : c.children.children.items ≡ kept_each m c.line.inside.children.items = grind (arith, common_steps) in
    trimmed_again m c.args.line.now line made c.line.inside.children.items c.children.children.items
    (sym c.line.view_is) top below

pub invariant_of-result : goal.invariant_of-result
invariant_of-result t c =
    let m = c.args.state.now.records in
    let below : c.children.children.items ≡ kept_each m c.line.inside.children.items = grind (arith, common_steps) in
    let few : forest_levels (forest_of c.line.inside.children.items) < 99 = c.line.invariant in
    few_below m c.line.inside.children.items c.children.children.items 99 below few
