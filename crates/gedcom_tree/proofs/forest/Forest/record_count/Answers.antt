use Rattle.std.proofs.Common.{◌∙◌, ap, arith}
use Rattle.gedcom_tree.specs.Text.{record_count}
use Rattle.gedcom_tree.proofs.Recorded.{records_counted}
use Rattle.gedcom_tree.proofs.forest.Forest.record_count.Goals as goal

pub returns : goal.returns
returns c =
    records_counted c.self.inside.nodes.items _ c.self.invariant.0
    (omega (arith, c.saturating_sub.ensures, c.len.ensures, c.self.inside.nodes.ok.0))
    ∙ ap record_count c.self.view_is
