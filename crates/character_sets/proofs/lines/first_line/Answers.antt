use Rattle.character_sets.proofs.FirstLines.{is_first, is_more}
use Rattle.character_sets.proofs.lines.first_line.Goals as goal

pub returns-clause-lines : goal.returns-clause-lines
returns-clause-lines c = is_first c.args.units.now _ _ _ _ c.body_len-count.result c.requires
    c.body_len-count.ensures.count c.up_to.ensures c.from-more.ensures c.first.ensures c.past_first.ensures

pub returns-clause-more : goal.returns-clause-more
returns-clause-more c = is_more _ _ _ c.first.ensures c.past_first.ensures
