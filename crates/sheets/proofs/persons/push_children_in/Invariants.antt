use Rattle.std.proofs.Common.{◌≡◌, ◌++◌, take, string_bytes}
use Rattle.std.specs.List.{flat_map}
use Rattle.gedcom_export.specs.declared.membership.Membership as membership
use Rattle.sheet_lines.specs.Lines as lines
use Rattle.sheets.proofs.persons.push_children_in.Given as goal

abbrev pub invariant-families : goal.invariant-families
invariant-families l =
    string_bytes l.out
    ≡ string_bytes l.fn.out ++ flat_map
    (λ (x : membership.Membership). lines.child_of_line x.side.family)
    (take l.family-index l.families)
