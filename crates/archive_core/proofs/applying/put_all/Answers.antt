use Rattle.std.proofs.Common.{rules, ◌≡◌}
use Rattle.std.specs.FinMap as map
use Rattle.std.specs.Vec.Iter.{into_iter_items}
use Rattle.record_shapes.specs.Lists.{EachOf}
use Rattle.archive_core.proofs.Room.{IsThereFor, each_stays}
use Rattle.archive_core.proofs.applying.put_all.Goals as goal

pub puts-preserved : goal.puts-preserved
puts-preserved c =
    let put : c.put_over.new.state.records ≡ map.insert c.puts.state.records c.in-Some.put.number
    c.in-Some.put.«record» = search rules in
    let still : EachOf (IsThereFor (map.insert c.puts.state.records c.in-Some.put.number c.in-Some.put.«record»))
    (into_iter_items c.next.new.self) = each_stays c.puts.state.records c.in-Some.put.number c.in-Some.put.«record»
    (into_iter_items c.next.new.self) (search rules) in
    record { made = search rules; there = search rules }
