-- What a room of HTML shows of masked records: the page that is asked for.
use Rattle.std.specs.Prelude.{ℕ, List, [], codes, Option, Some, None, option_map, unwrap_or}
use Rattle.archive_state.specs.Content.{Records}
use Rattle.html_lists.specs.Home.{home_page}
use Rattle.html_lists.specs.Registers.{register_page}
use Rattle.html_lists.specs.Searches.{search_page}
use Rattle.html_lists.specs.Surnames.{surname_page}
use Rattle.html_pages.specs.Pages.{family_page, person_page}
use Rattle.html_pages.specs.Pedigrees.{pedigree_page}
use Rattle.html_parts.specs.declared.part.Part.{Part}
use Rattle.html_parts.specs.Parts.{page_bytes}
use Rattle.html_parts.specs.Style.{style_sheet}
use Rattle.room_requests.specs.Pages.{number_in}
use Rattle.room_requests.specs.Queries.{generations_of, value_of}
use Rattle.room_requests.specs.declared.page.Page.TheVariants as room
use Rattle.html_answers.specs.declared.asked.HtmlPage.{HtmlPage}
use Rattle.html_answers.specs.declared.asked.HtmlPage.TheVariants as page
use Rattle.html_answers.specs.declared.showing.HtmlFound.{HtmlFound}
use Rattle.html_answers.specs.declared.showing.HtmlFound.TheVariants as found

-- ---- queries
-- which page of a list a value asks for: the first where there is no value; none where that is no number
abbrev pub page_in : Option (List ℕ) → Option ℕ
page_in None = Some 1
page_in (Some text) = number_in 10 text

abbrev pub page_asked : List ℕ → Option ℕ
page_asked query = page_in (value_of (codes "page") query)

-- ---- pages
-- the bytes of a page, where there is one
abbrev pub bytes_of : Option (List Part) → Option (List ℕ)
bytes_of page = option_map page_bytes page

-- a page; none where its record is none that is shown, or outside of the pages of a list
abbrev pub page_found : Option (List ℕ) → HtmlFound
page_found None = found.NotShown
page_found (Some text) = found.Page text

-- a page that is there is asked for by a wrong query
abbrev pub wrongly_asked : Option (List ℕ) → HtmlFound
wrongly_asked None = found.NotShown
wrongly_asked (Some text) = found.WrongQuery

-- a pedigree of so many generations; where the query has no right number, whether the person is shown comes first
abbrev pub pedigree_found : Records → List ℕ → ℕ → Option ℕ → HtmlFound
pedigree_found m society n (Some generations) = page_found (bytes_of (pedigree_page m society n generations))
pedigree_found m society n None = wrongly_asked (bytes_of (pedigree_page m society n 1))

abbrev pub register_found : Records → List ℕ → ℕ → Option ℕ → HtmlFound
register_found m society n None = found.NotShown
register_found m society n (Some at) = page_found (bytes_of (register_page m society n at))

abbrev pub surname_found : Records → List ℕ → List ℕ → Option ℕ → HtmlFound
surname_found m society of None = found.NotShown
surname_found m society of (Some at) = page_found (bytes_of (surname_page m society of at))

-- the persons of the surname that a query names
abbrev pub surname_asked : Records → List ℕ → Option (List ℕ) → Option ℕ → HtmlFound
surname_asked m society None at = found.WrongQuery
surname_asked m society (Some of) at = surname_found m society of at

abbrev pub search_found : Records → List ℕ → List ℕ → Option ℕ → HtmlFound
search_found m society text None = found.NotShown
search_found m society text (Some at) = page_found (bytes_of (search_page m society text at))

-- what a query searches for; nothing where it does not say
abbrev pub text_asked : List ℕ → List ℕ
text_asked query = unwrap_or (value_of (codes "q") query) []

-- each page with its query
abbrev pub shown : Records → List ℕ → HtmlPage → List ℕ → HtmlFound
shown m society (page.Room room.Index) query = found.Page (page_bytes (home_page m society))
shown m society (page.Room (room.Person n)) query = page_found (bytes_of (person_page m society n))
shown m society (page.Room (room.Family n)) query = page_found (bytes_of (family_page m society n))
shown m society (page.Room (room.Pedigree n)) query = pedigree_found m society n (generations_of query)
shown m society (page.Room (room.Register n)) query = register_found m society n (page_asked query)
shown m society (page.Room room.Surname) query =
    surname_asked m society (value_of (codes "name") query) (page_asked query)
shown m society page.Search query = search_found m society (text_asked query) (page_asked query)
shown m society page.Style query = found.Style style_sheet
