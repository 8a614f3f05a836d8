-- What a reading room shows of masked records: the sheet or the page that is asked for (docs/FORMATS.md, "The reading
-- room").
use Rattle.std.specs.Prelude.{ℕ, ◌≡◌, List, codes, Option, Some, None, Result, Ok, Err}
use Rattle.std.specs.FinMap.{get}
use Rattle.record_kinds.specs.Model as model
use Rattle.record_kinds.specs.declared.record.Record.TheVariants as kind
use Rattle.record_text.specs.declared.refusal.RefusalKind.{RefusalKind}
use Rattle.archive_state.specs.Content.{Records}
use Rattle.sheets.specs.Pages as pages
use Rattle.sheets.specs.Pedigrees.{pedigree}
use Rattle.sheets.specs.Sheets.{family_sheet, person_sheet, register_sheet}
use Rattle.room_requests.specs.Queries.{generations_of, value_of}
use Rattle.room_requests.specs.declared.page.Page.{Page}
use Rattle.room_requests.specs.declared.page.Page.TheVariants as page
use Rattle.room_requests.specs.declared.pages.PageFound.{PageFound}
use Rattle.room_requests.specs.declared.pages.PageFound.TheVariants as found

-- a person stands at the number
abbrev pub IsPersonIn : Records → ℕ → Type 0
IsPersonIn m n = (p : model.Person) × (get m n ≡ Some (kind.Person p))

-- a sheet; none where its number is no record of the kind that is shown
abbrev pub sheet_page : Result (List ℕ) RefusalKind → PageFound
sheet_page (Ok text) = found.Text text
sheet_page (Err e) = found.NotShown

-- a sheet that is there is asked for by a wrong query
abbrev pub wrongly_asked : Result (List ℕ) RefusalKind → PageFound
wrongly_asked (Ok text) = found.WrongQuery
wrongly_asked (Err e) = found.NotShown

-- a pedigree of so many generations; where the query has no right number, whether the person is shown comes first
abbrev pub pedigree_page : Records → ℕ → Option ℕ → PageFound
pedigree_page m person (Some generations) = sheet_page (pedigree m person generations)
pedigree_page m person None = wrongly_asked (pedigree m person 1)

-- the persons of a surname
abbrev pub surname_page : Records → Option (List ℕ) → PageFound
surname_page m (Some surname) = found.Text (pages.surname_page m surname)
surname_page m None = found.WrongQuery

-- each page with its query
abbrev pub room : Records → Page → List ℕ → PageFound
room m page.Index query = found.Text (pages.index_page m)
room m (page.Person number) query = sheet_page (person_sheet m number)
room m (page.Family number) query = sheet_page (family_sheet m number)
room m (page.Register number) query = sheet_page (register_sheet m number)
room m (page.Pedigree number) query = pedigree_page m number (generations_of query)
room m page.Surname query = surname_page m (value_of (codes "name") query)
