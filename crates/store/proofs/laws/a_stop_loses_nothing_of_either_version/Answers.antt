use Rattle.sqlite.specs.Held.{state}
use Rattle.store_tables.proofs.Queries.{only_committed}
use Rattle.store.proofs.Sessions.{of_life_of_either}
use Rattle.store.proofs.laws.a_stop_loses_nothing_of_either_version.Goals as goal

pub returns : goal.returns
returns g c' before after calls more society c life holds = of_life_of_either g.S.Store
    c'.an_import_that_is_begun_is_in_no_view.ensures (λ h rows was t l.
    only_committed (state g.S.Store h) rows t was (g.met.S.Store.settled h.store t was.is_open l))
    more before after calls society c life holds
