use Rattle.page_places.proofs.Upward.{name_cut, name_whole}
use Rattle.page_places.proofs.ways.place_name.Goals as goal

pub returns-in-Some : goal.returns-in-Some
returns-in-Some c = name_cut c.args.path.now c.in-Some.name.now c.in-Some.field-0-1.now c.in-Some.ensures.0
    c.in-Some.ensures.1

pub returns-in-None : goal.returns-in-None
returns-in-None c = name_whole c.args.path.now c.in-None.ensures
