use Rattle.std.proofs.Common.{◌∙◌}
use Rattle.merging.proofs.MergeComparing.{same_by_test}
use Rattle.merging.proofs.decide_undo.has_same_lines.Goals as goal

pub returns : goal.returns
returns c =
    same_by_test c.are_same.result c.deref.result.now c.deref-2.result.now c.args.found.now c.args.other.now
    (c.deref.ensures.value ∙ c.in_ok-a.ensures.kept) (c.deref-2.ensures.value ∙ c.in_ok-b.ensures.kept)
    c.are_same.ensures
