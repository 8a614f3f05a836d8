use Rattle.std.proofs.Common.{◌≡◌, drop, map}
use Rattle.std.specs.FinMap as maps
use Rattle.sheets.specs.Pedigrees as pedigrees
use Rattle.sheets.proofs.Finding.{number_of}
use Rattle.sheets.proofs.ancestors.first_date.Given as goal

abbrev pub invariant-events : goal.invariant-events
invariant-events l =
    pedigrees.first_date (maps.get l.state.records) l.tag (map number_of (drop l.event-index l.events))
    ≡ pedigrees.first_date (maps.get l.state.records) l.tag (map number_of l.events)
