-- The text of a sheet of what is shown, or its refusal: 50, no record that is shown has the number; 51, it is of
-- another kind. Rules of our own.
use Rattle.std.specs.Prelude.{ℕ, List, Result}
use Rattle.record_text.specs.declared.refusal.RefusalKind.{RefusalKind}
use Rattle.archive_state.specs.Content.{Records}
use Rattle.sheets.specs.Pedigrees.{pedigree}
use Rattle.sheets.specs.Sheets.{family_sheet, person_sheet, register_sheet}
use Rattle.archive_output.specs.declared.sheet.Sheet.{Sheet}
use Rattle.archive_output.specs.declared.sheet.Sheet.TheVariants as sheet

abbrev pub sheet_text : Records → Sheet → Result (List ℕ) RefusalKind
sheet_text m (sheet.Person n) = person_sheet m n
sheet_text m (sheet.Family n) = family_sheet m n
sheet_text m (sheet.Register n) = register_sheet m n
sheet_text m (sheet.Pedigree n generations) = pedigree m n generations.count
