use Rattle.sqlite.specs.Held.{state}
use Rattle.store.proofs.Histories.{performs_then}
use Rattle.store.proofs.laws.calls_follow_each_other.Goals as goal

pub returns : goal.returns
returns g _ old between new first rest one none next = performs_then (state g.S.Store old) (state g.S.Store between)
    (state g.S.Store new) first rest one none next
