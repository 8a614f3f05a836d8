use Rattle.std.proofs.Common.{◌≡◌, arith, ◌∙◌}
use Rattle.std.proofs.lemmas.Grind.{common_steps}
use Rattle.std.specs.Prelude.{◌&&◌, not}
use Rattle.std.specs.BTreeSet as set
use Rattle.std.specs.FinMap.{get, keys}
use Rattle.std.specs.List.{filter}
use Rattle.std.specs.Ordering.{nat_cmp}
use Rattle.plain_export.specs.LeftOut.{is_place}
use Rattle.plain_export.proofs.naming.unnamed_places.Goals as goal

pub returns : goal.returns
returns c =
    let m = c.args.state.now.records in
    let found : c.numbers.found.items
    ≡ filter (λ n. is_place (get m n) && not (set.contains nat_cmp c.in_ok-named.named n)) (keys m)
    = grind (arith, common_steps) in
    found ∙ (λ j. filter (λ n. is_place (get m n) && not (c.in_ok-named.ensures n j)) (keys m))
