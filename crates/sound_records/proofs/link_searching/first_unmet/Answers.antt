use Rattle.archive_state.specs.Links.{links}
use Rattle.sound_records.proofs.Firsts.{first_says}
use Rattle.sound_records.proofs.link_searching.first_unmet.Goals as goal

pub returns : goal.returns
returns c = first_says c.args.may_miss c.args.state.now.records (links c.args.«record».now) c.first.result
    c.first.ensures
