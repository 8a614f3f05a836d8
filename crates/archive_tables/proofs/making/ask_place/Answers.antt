use Rattle.std.proofs.Common.{◌∙◌}
use Rattle.archive_tables.proofs.Placed.{request_is}
use Rattle.archive_tables.proofs.making.ask_place.Goals as goal

pub returns : goal.returns
returns g c = request_is g.S.Store c.args.token.now c.args.path.now _ _ c.args.parent c.args.archive.now
    c.perform_once.new.archive c.perform_once.result c.in_ok-token.ensures
    (c.new-name.ensures ∙ (c.in_ok-from_str.ensures.ok ∙ c.place_name.ensures)) c.perform_once.ensures
