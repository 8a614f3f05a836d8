use Rattle.std.proofs.Common.{SFits, rules, w32}
use Rattle.std.proofs.lemmas.Int.{to_z-of_z}
use Rattle.sqlite_wal.specs.Files.{image_at}
use Rattle.parish.proofs.Same.{library_on}
use Rattle.parish.proofs.archives.open_room.Goals as goal

pub returns : goal.returns
returns g c =
    let fits : SFits w32 c.args.today = search rules in (
      c.perform_on_file-status.result.1,
      library_on g.R.Read g.R.Device g.W.Write g.W.Device g.F.Write g.F.Device
          (image_at g.S.Start) _ _ _ _ _ _ c.args.today
          (to_z-of_z w32 c.args.today fits) c.perform_on_file-status.ensures,
      c.room_of.ensures,
    )
