use Rattle.store.proofs.Readable.{look_call}
use Rattle.store.proofs.laws.looks_are_a_call.Goals as goal

pub returns : goal.returns
returns g c old new was is kept same did =
    look_call g.S.Store c.an_import_that_is_begun_is_in_no_view.ensures old new was is kept same did
