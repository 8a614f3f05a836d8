use Rattle.std.proofs.Common.{ap, sym, ◌∙◌, set}
use Rattle.std.proofs.lemmas.List.Edits.{map_over_more}
use Rattle.import_definitions.specs.Numbers.{number_at}
use Rattle.import_numbers.proofs.renumbering.renumber_all.Goals as goal

pub loop-part-preserved : goal.loop-part-preserved
loop-part-preserved g c =
    ap (set c.loop-part.parts c.loop-part.part-index) c.in_ok-renumber.ensures
    ∙ ap (λ x. set c.loop-part.parts c.loop-part.part-index (g.P.Renumber.with (number_at c.args.numbers.now) x))
    (sym c.part-item.is)
    ∙ map_over_more (g.P.Renumber.with (number_at c.args.numbers.now)) c.args.parts.now c.loop-part.parts
    c.loop-part.part-index c.part-item.result c.loop-part-test.true c.loop-part.invariant c.part-item.is
