use Rattle.archive_state.proofs.Maps.{one_set}
use Rattle.gedcom_export.proofs.maps.put_rank.Goals as goal

pub returns : goal.returns
returns c = one_set c.args.ranks.now.entries c.insert.new.self.entries c.args.number c.args.rank
    c.in_ok-insert.ensures.updates.0
