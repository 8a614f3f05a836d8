-- The place that a record is. No clause of a public call names it.
use Rattle.std.specs.Prelude.{Option, Some, None}
use Rattle.record_kinds.specs.Model as model
use Rattle.record_kinds.specs.declared.record.Record.{Record}
use Rattle.record_kinds.specs.declared.record.Record.TheVariants as kind

abbrev pub place_in : Option Record → Option model.Place
place_in (Some (kind.Place p)) = Some p
place_in _ = None
