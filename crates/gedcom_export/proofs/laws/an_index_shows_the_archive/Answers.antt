use Rattle.gedcom_export.proofs.Places.{paths_are}
use Rattle.gedcom_export.proofs.Whole.{names_are}
use Rattle.gedcom_export.proofs.laws.an_index_shows_the_archive.Goals as goal

pub returns : goal.returns
returns c = record {
  names = λ m i h. names_are m i h.gathered;
  paths = λ m i h. paths_are m i h.gathered;
  child_in = λ m i h. h.gathered.child_in;
  partner_in = λ m i h. h.gathered.partner_in;
}
