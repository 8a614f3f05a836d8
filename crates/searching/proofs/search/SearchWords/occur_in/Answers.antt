use Rattle.std.proofs.Common.{map, true, ap, ap₂, ◌∙◌}
use Rattle.std.specs.List.{list_all}
use Rattle.searching.proofs.Outcome.{scanned_all}
use Rattle.searching.proofs.search.SearchWords.occur_in.Goals as goal
use Rattle.searching.specs.Scans.{items, occurs_in}

pub returns : goal.returns
returns c = scanned_all c.args.self.now c.args.text.now c.all_occur.result (c.all_occur.ensures
    ∙ ap₂ (λ text words. list_all (λ w. occurs_in w true text) words) (c.deref-2.ensures.value ∙ c.text.view_is)
    (ap (map items) c.deref.ensures.value ∙ c.self.view_is))
