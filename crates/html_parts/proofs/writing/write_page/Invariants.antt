use Rattle.std.proofs.Common.{◌≡◌, ◌++◌, flat_map, take}
use Rattle.html_text.specs.Pages.{doctype}
use Rattle.html_parts.specs.Parts.{part_text}
use Rattle.html_parts.proofs.writing.write_page.Given as goal

abbrev pub invariant-parts : goal.invariant-parts
invariant-parts l = l.page ≡ doctype ++ flat_map part_text (take l.part-index l.parts)
