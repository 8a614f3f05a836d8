use Rattle.std.proofs.Common.{◌++◌, ◌∙◌, ap, List, ℕ, string_bytes}
use Rattle.sheet_lines.specs.Lines as lines
use Rattle.sheets.proofs.Appending.{side_text}
use Rattle.sheets.proofs.persons.push_child_families.Goals as goal
use Rattle.list_laws.proofs.Outcomes.{ok_then}

pub returns : goal.returns
returns c = ok_then c.push_children_in.result (λ e. e ∙ ap (λ (t : List ℕ). string_bytes c.args.out.now ++ t)
    (side_text lines.child_of_line c.args.person c.child_in.result.now c.args.index.now.child_in
    (c.child_in.ensures c.requires))) c.push_children_in.ensures
