use Rattle.std.proofs.Common.{ap, ◌∙◌}
use Rattle.list_laws.proofs.Outcomes.{ok_more}
use Rattle.html_parts.specs.Parts.{page_bytes}
use Rattle.html_lists.specs.Home.{home_page}
use Rattle.html_lists.specs.Listed.{Listed}
use Rattle.html_lists.proofs.lists.HtmlLists.home.Goals as goal

pub returns : goal.returns
returns c = ok_more _ _ (λ page e. e ∙ (c.as_str.ensures ∙ (c.self.invariant.0
    ∙ ap (λ (l : Listed). page_bytes (home_page l.state.records l.society)) c.self.view_is)))
    c.of.result c.of.ensures
