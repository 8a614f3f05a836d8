use Rattle.gedcom_export.proofs.Texts.{text_of_exported}
use Rattle.gedcom_export.proofs.laws.the_text_of_an_export_is_that_of_its_records.Goals as goal

pub returns : goal.returns
returns c = text_of_exported
