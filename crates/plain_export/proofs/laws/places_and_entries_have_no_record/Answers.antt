use Rattle.plain_export.proofs.Whole.{there}
use Rattle.record_kinds.specs.declared.record.Record.TheVariants as kind
use Rattle.plain_export.proofs.laws.places_and_entries_have_no_record.Goals as goal

pub returns : goal.returns
returns c = record {
  places = λ m p n x h at. there m p n (kind.Place x) h at;
  entries = λ m p n x h at. there m p n (kind.Entry x) h at;
}
