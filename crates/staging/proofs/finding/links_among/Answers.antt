use Rattle.std.proofs.Common.{ap, filter, sym, ◌++◌, ◌∷◌, [], ◌∙◌}
use Rattle.std.specs.BTreeSet as set
use Rattle.std.specs.Ordering.{nat_cmp}
use Rattle.store_tables.specs.Rows.{LinkRow}
use Rattle.staging.proofs.Owned.{filter_more}
use Rattle.staging.proofs.finding.links_among.Goals as goal

pub links-preserved : goal.links-preserved
links-preserved c =
    let q = λ (x : LinkRow). set.contains nat_cmp c.args.numbers.now x.no in
    c.in_ok-add_if.ensures ∙ ap (λ ls. ls ++ filter q (c.in-Some.link ∷ [])) c.links.invariant
    ∙ sym (filter_more q c.links.yielded (c.in-Some.link ∷ []))
