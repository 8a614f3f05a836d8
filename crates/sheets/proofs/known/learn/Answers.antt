use Rattle.sheets.specs.Indexed.{indexed}
use Rattle.sheets.proofs.Knowing.{known_more}
use Rattle.sheets.proofs.known.learn.Goals as goal

pub returns : goal.returns
returns c = λ known. known_more (indexed c.args.state.now.records c.args.index.now) c.args.known.now.entries
    c.insert.new.self.entries c.args.person c.in_ok-ancestor.ancestor known c.in_ok-ancestor.ensures
    c.in_ok-insert.ensures.updates.0
