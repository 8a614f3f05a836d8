use Rattle.std.proofs.Common.{ap, ◌∙◌}
use Rattle.doubts.specs.Facts.{Known}
use Rattle.doubts.specs.Gathered.{with_facts}
use Rattle.doubts.proofs.Gathered.{all_known}
use Rattle.doubts.proofs.known.known_by.Goals as goal

pub returns : goal.returns
returns c =
    c.in_ok-add_all.ensures ∙ ap (λ (k : Known). with_facts k c.args.facts.items) c.nothing-known.ensures
    ∙ all_known c.args.facts.items
