use Rattle.std.proofs.Common.{◌≡◌, ◌++◌, map, drop, string_bytes}
use Rattle.node_writing.specs.Pages.{page}
use Rattle.gedcom_export.specs.Shown.{names_in}
use Rattle.gedcom_export.proofs.Lines.{membership_line}
use Rattle.gedcom_export.proofs.page.push_families.Given as goal

abbrev pub invariant-families : goal.invariant-families
invariant-families l =
    string_bytes l.text ++ page (names_in l.index) 1 (map (membership_line l.tag) (drop l.family-index l.families))
    ≡ string_bytes l.fn.text ++ page (names_in l.index) 1 (map (membership_line l.tag) l.families)
