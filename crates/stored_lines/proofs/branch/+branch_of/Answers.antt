use Rattle.std.proofs.Common.{◌≡◌, map, rules, sym, arith, Some, None}
use Rattle.stored_lines.specs.Tree.{relabel}
use Rattle.stored_lines.specs.Line.{Line, Label, label_of}
use Rattle.std.proofs.lemmas.Grind.{common_steps}
use Rattle.stored_lines.proofs.Relabel.{relabelled}
use Rattle.stored_lines.proofs.branch.+branch_of.Goals as goal

pub returns-in_ok-copy-in-Text : goal.returns-in_ok-copy-in-Text
returns-in_ok-copy-in-Text t c =
    let line : Line = record { tag = c.carried.inside.tag; value = c.carried.inside.value } in
    let label : Label = record { tag = c.in_ok-tag.tag; text = Some c.in_ok-copy-in-Text.field-0; target = None } in
    let top : label ≡ label_of line = search rules in
    let below : c.children.children.items ≡ map (relabel label_of) c.carried.inside.children.items = grind
    (arith, common_steps) in
    relabelled label_of c.args.carried.now line c.carried.inside.children.items label c.children.children.items
    (sym c.carried.view_is) top below

pub returns-in-Ref : goal.returns-in-Ref
returns-in-Ref t c =
    let line : Line = record { tag = c.carried.inside.tag; value = c.carried.inside.value } in
    let label : Label = record { tag = c.in_ok-tag.tag; text = None; target = Some c.in-Ref.number } in
    let top : label ≡ label_of line = search rules in
    let below : c.children.children.items ≡ map (relabel label_of) c.carried.inside.children.items = grind
    (arith, common_steps) in
    relabelled label_of c.args.carried.now line c.carried.inside.children.items label c.children.children.items
    (sym c.carried.view_is) top below
