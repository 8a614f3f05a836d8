use Rattle.std.proofs.Common.{◌∙◌}
use Rattle.std.proofs.Math.Seq.{map-set_same}
use Rattle.node_reading.specs.Owners.{owned_tree}
use Rattle.file_records.proofs.fitted.fit_all_owned.Goals as goal

pub loop-one-preserved : goal.loop-one-preserved
loop-one-preserved c =
    map-set_same owned_tree c.loop-one.one-items c.loop-one.one-index c.fit_owned.new.one c.one-item.result
    c.fit_owned.ensures ∙ c.loop-one.invariant
