use Rattle.std.proofs.Common.{refl}
use Rattle.character_sets.specs.declared.tables.TheConstants.{CODE_PAGE_437, CODE_PAGE_850, MACINTOSH, WINDOWS_1252}
use Rattle.character_sets.proofs.Pages.{again}
use Rattle.character_sets.proofs.laws.code_pages_are_read_again.Goals as goal

pub returns : goal.returns
returns c = record {
  windows = again WINDOWS_1252 refl refl;
  page_437 = again CODE_PAGE_437 refl refl;
  page_850 = again CODE_PAGE_850 refl refl;
  macintosh = again MACINTOSH refl refl;
}
