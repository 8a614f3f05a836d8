use Rattle.std.proofs.Common.{take}
use Rattle.std.specs.Prelude.{None}
use Rattle.std.specs.BTreeMap.{get_by_text}
use Rattle.std.specs.FinMap.{keys}
use Rattle.std.specs.List.{flat_map}
use Rattle.plain_export.specs.Firsts.{Adds, marks_at}
use Rattle.plain_export.proofs.firsts.firsts_of.Given as goal

abbrev pub invariant-all : goal.invariant-all
invariant-all l = Adds (λ _. None) (get_by_text l.found)
    (flat_map (marks_at l.state.records) (take l.number-index (keys l.state.records)))
