use Rattle.std.proofs.Common.{◌≡◌, true, map, take}
use Rattle.std.specs.List.{list_all}
use Rattle.searching.specs.Scans.{items, occurs_in}
use Rattle.searching.proofs.search.all_occur.Given as goal

abbrev pub invariant-each : goal.invariant-each
invariant-each l = list_all (λ w. occurs_in w true l.text) (map items (take l.word-index l.words)) ≡ true
