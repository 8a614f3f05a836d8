use Rattle.sqlite.specs.Held.{state}
use Rattle.store.proofs.Imports.{has_the_archive}
use Rattle.store.proofs.laws.has_the_archive.Goals as goal

pub returns : goal.returns
returns g c = λ h society content o. has_the_archive c.an_import_that_is_begun_is_in_no_view.ensures society content o
    (state g.S.Store h)
