use Rattle.std.proofs.Common.{◌≡◌, false, take}
use Rattle.std.specs.List.{list_any}
use Rattle.field_changes.specs.Carrying.{is_place}
use Rattle.field_changes.proofs.carrying.has_place.Given as goal

abbrev pub invariant-lines : goal.invariant-lines
invariant-lines l = list_any is_place (take l.line-index l.lines) ≡ false
