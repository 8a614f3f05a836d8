use Rattle.node_reading.proofs.Spelt.{said_ok}
use Rattle.older_archives.proofs.dates.said.Goals as goal

pub returns : goal.returns
returns c = said_ok c.try_new.result c.args.text.now c.as_str.ensures.same c.as_str.ensures.text c.try_new.ensures
