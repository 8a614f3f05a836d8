use Rattle.std.proofs.Common.{◌≡◌, false, take}
use Rattle.std.specs.List.{list_any}
use Rattle.searching.specs.Words.{all_occur}
use Rattle.name_index.proofs.index.is_named.Given as goal

abbrev pub invariant-each : goal.invariant-each
invariant-each l = list_any (all_occur l.words) (take l.name-index l.names) ≡ false
