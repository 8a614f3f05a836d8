use Rattle.std.proofs.Common.{◌≡◌, take}
use Rattle.archive_state.specs.Applied.{without}
use Rattle.archive_core.specs.Room.{with_room}
use Rattle.archive_core.proofs.applying.make_room.Given as goal

abbrev pub invariant-puts : goal.invariant-puts
invariant-puts l = record {
  made : l.state ≡ record l.fn.state { records = with_room l.fn.state.records (take l.put-index l.puts) };
  back : without l.state.records l.blanks.items ≡ l.fn.state.records;
}
