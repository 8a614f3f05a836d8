use Rattle.std.proofs.Common.{◌≡◌, take}
use Rattle.std.specs.BTreeMap.{get_by_text}
use Rattle.std.specs.List.{flat_map}
use Rattle.std.specs.FinMap.{keys}
use Rattle.gedcom_export.specs.Shown.{around_in}
use Rattle.plain_export.specs.Added.{added_at}
use Rattle.plain_export.proofs.gathering.gathered.Given as goal

abbrev pub invariant-numbers : goal.invariant-numbers
invariant-numbers l = l.made.items
    ≡ flat_map (added_at l.state.records (around_in l.index) (get_by_text l.firsts.numbers))
    (take l.number-index (keys l.state.records))
