use Rattle.std.proofs.Common.{take}
use Rattle.std.specs.FinMap.{keys}
use Rattle.gedcom_export.specs.Shown.{around_in}
use Rattle.plain_export.specs.Made.{made_at}
use Rattle.plain_export.proofs.Among.{ArePut}
use Rattle.plain_export.proofs.making.plain_records.Given as goal

abbrev pub invariant-numbers : goal.invariant-numbers
invariant-numbers l = ArePut (made_at l.state.records (around_in l.index) l.added)
    (take l.number-index (keys l.state.records)) l.plain.records
