use Rattle.plain_export.proofs.Whole.{there}
use Rattle.record_kinds.specs.declared.record.Record.TheVariants as kind
use Rattle.plain_export.proofs.laws.what_the_standard_has_is_in_a_plain_archive.Goals as goal

pub returns : goal.returns
returns c = record {
  persons = λ m p n x h at. there m p n (kind.Person x) h at;
  families = λ m p n x h at. there m p n (kind.Family x) h at;
  events = λ m p n x h at. there m p n (kind.Event x) h at;
  sources = λ m p n x h at. there m p n (kind.Source x) h at;
  repositories = λ m p n x h at. there m p n (kind.Repo x) h at;
  citations = λ m p n x h at. there m p n (kind.Citation x) h at;
}
