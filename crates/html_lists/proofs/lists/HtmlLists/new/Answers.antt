use Rattle.std.proofs.Common.{ap, ◌∙◌}
use Rattle.html_parts.specs.Parts.{page_bytes}
use Rattle.html_lists.specs.Home.{home_page}
use Rattle.html_lists.proofs.lists.HtmlLists.new.Goals as goal

pub invariant_of-result : goal.invariant_of-result
invariant_of-result c = (
  c.in_ok-first.ensures ∙ ap (λ s. page_bytes (home_page c.args.library.records s)) c.as_str.ensures,
  c.in_ok-names.ensures,
)
