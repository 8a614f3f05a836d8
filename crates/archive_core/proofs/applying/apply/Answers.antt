use Rattle.std.proofs.Common.{rules, ◌≡◌, subst}
use Rattle.record_shapes.specs.Lists.{EachOf}
use Rattle.archive_core.specs.Room.{with_room}
use Rattle.archive_core.proofs.Room.{IsThereFor, room_there}
use Rattle.archive_core.proofs.applying.apply.Goals as goal

pub put_all-requires : goal.put_all-requires
put_all-requires c =
    let ready : with_room c.args.state.now.records c.changes.inside.puts.items
    ≡ c.make_ready.new.state.records = search rules in
    subst (λ m. EachOf (IsThereFor m) c.changes.inside.puts.items) ready
    (room_there c.args.state.now.records c.changes.inside.puts.items)
