use Rattle.std.proofs.Common.{◌∙◌, ap, ◌++◌, ℕ, List}
use Rattle.list_laws.proofs.Outcomes.{ok_more}
use Rattle.sheet_lines.specs.Words.{display_of}
use Rattle.sheets.specs.Gathered.{gathered}
use Rattle.html_pages.specs.Pedigrees.{titled_tree}
use Rattle.html_pages.proofs.Framed.{framed_is}
use Rattle.html_pages.proofs.pedigrees.page_of.Goals as goal

pub returns : goal.returns
returns c =
    let g = gathered c.args.library.now.records in
    let title = display_of c.args.person.now.names in
    ok_more _ _ (λ page e. framed_is c.args.society.now c.as_str-2.result.now title c.new-main.result
    c.push_pedigree.new.out (titled_tree g title c.args.number c.args.generations) page
    (c.as_str-2.ensures.value ∙ c.in_ok-title.ensures) c.new-main.ensures
    (c.in_ok-push_pedigree.ensures
    ∙ ap (λ (t : List ℕ). c.new-main.result ++ titled_tree g t c.args.number c.args.generations)
    (c.as_str.ensures.value ∙ c.in_ok-title.ensures)) e)
    c.page_with.result c.page_with.ensures
