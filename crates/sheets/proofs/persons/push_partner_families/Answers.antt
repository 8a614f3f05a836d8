use Rattle.std.proofs.Common.{◌++◌, ◌∙◌, ap, List, ℕ, string_bytes}
use Rattle.sheet_lines.specs.Lines as lines
use Rattle.sheets.proofs.Appending.{side_text}
use Rattle.sheets.proofs.persons.push_partner_families.Goals as goal
use Rattle.list_laws.proofs.Outcomes.{ok_then}

pub returns : goal.returns
returns c = ok_then c.push_partners_in.result (λ e. e ∙ ap (λ (t : List ℕ). string_bytes c.args.out.now ++ t)
    (side_text lines.partner_in_line c.args.person c.partner_in.result.now c.args.index.now.partner_in
    (c.partner_in.ensures c.requires))) c.push_partners_in.ensures
