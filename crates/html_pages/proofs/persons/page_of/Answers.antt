use Rattle.std.proofs.Common.{◌∙◌}
use Rattle.list_laws.proofs.Outcomes.{ok_more}
use Rattle.sheet_lines.specs.Words.{display_of}
use Rattle.sheets.specs.Gathered.{gathered}
use Rattle.html_pages.specs.Pages.{person_parts}
use Rattle.html_pages.proofs.Framed.{framed_is}
use Rattle.html_pages.proofs.persons.page_of.Goals as goal

pub returns : goal.returns
returns c = ok_more _ _ (λ page e. framed_is c.args.society.now c.as_str.result.now (display_of c.args.person.now.names)
    c.new-main.result c.push_person.new.out
    (person_parts (gathered c.args.library.now.records) c.args.number c.args.person.now) page
    (c.as_str.ensures.value ∙ c.in_ok-title.ensures) c.new-main.ensures c.in_ok-push_person.ensures e)
    c.page_with.result c.page_with.ensures
