use Rattle.page_places.proofs.Upward.{above_cut, above_none, shorter}
use Rattle.page_places.proofs.ways.above.Goals as goal

pub returns-in-Some-clause-above : goal.returns-in-Some-clause-above
returns-in-Some-clause-above c = above_cut c.args.path.now c.in-Some.field-0-0.now c.in-Some.after.now
    c.past_space.result.now c.in-Some.ensures.0 c.in-Some.ensures.1 c.past_space.ensures

pub returns-in-Some-clause-shorter : goal.returns-in-Some-clause-shorter
returns-in-Some-clause-shorter c = shorter c.args.path.now c.in-Some.field-0-0.now c.in-Some.after.now
    c.past_space.result.now c.in-Some.ensures.0 c.past_space.ensures

pub returns-in-None-clause-above : goal.returns-in-None-clause-above
returns-in-None-clause-above c = above_none c.args.path.now c.in-None.ensures
