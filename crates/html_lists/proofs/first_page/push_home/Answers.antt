use Rattle.list_laws.proofs.Outcomes.{on_ok_more}
use Rattle.sheets.specs.Gathered.{gathered}
use Rattle.html_text.specs.declared.names.Element.TheVariants as element
use Rattle.html_parts.specs.Building.{element_parts, form_parts}
use Rattle.std.proofs.Common.{[]}
use Rattle.html_lists.specs.Home.{counts_parts, lists_parts}
use Rattle.html_lists.proofs.Places.{four_after}
use Rattle.html_lists.proofs.first_page.push_home.Goals as goal

pub returns : goal.returns
returns c =
    let g = gathered c.args.library.now.records in
    on_ok_more (λ e. four_after c.args.out.now c.element.new.self c.form.new.self c.push_counts.new.out
    c.push_lists.new.out (element_parts element.H1 c.args.society.now) (form_parts []) (counts_parts g)
    (lists_parts g) c.in_ok-element.ensures c.in_ok-form.ensures c.in_ok-push_counts.ensures e)
    c.push_lists.result c.push_lists.ensures
