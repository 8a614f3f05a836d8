-- What the room of these tests shows.
use Rattle.std.specs.Prelude.{ℕ, List, ◌++◌, ◌%◌, ◌==◌, codes, decimal, Option, Some, None, if◌then◌else◌}
use Rattle.room_requests.specs.Queries.{generations_of, value_of}
use Rattle.room_requests.specs.declared.page.Page.{Page}
use Rattle.room_requests.specs.declared.page.Page.TheVariants as page
use Rattle.room_requests.specs.declared.pages.PageFound.{PageFound}
use Rattle.room_requests.specs.declared.pages.PageFound.TheVariants as found

-- the word and the number of a record, of which those with an odd number are shown
abbrev pub record_page : List ℕ → ℕ → PageFound
record_page word number =
    if number % 2 == 1 then found.Text (word ++ codes " " ++ decimal number ++ codes "\n") else found.NotShown

abbrev pub generations_page : ℕ → Option ℕ → PageFound
generations_page number None = found.WrongQuery
generations_page number (Some count) =
    found.Text (decimal count ++ codes " generations of " ++ decimal number ++ codes "\n")

-- a pedigree of a person that is shown; its query is judged last
abbrev pub pedigree_page : ℕ → List ℕ → PageFound
pedigree_page number query =
    if number % 2 == 1 then generations_page number (generations_of query) else found.NotShown

abbrev pub surname_page : Option (List ℕ) → PageFound
surname_page None = found.WrongQuery
surname_page (Some name) = found.Text (codes "surname " ++ name ++ codes "\n")

abbrev pub room : Page → List ℕ → PageFound
room page.Index query = found.Text (codes "index\n")
room (page.Person number) query = record_page (codes "person") number
room (page.Family number) query = record_page (codes "family") number
room (page.Register number) query = record_page (codes "register") number
room (page.Pedigree number) query = pedigree_page number query
room page.Surname query = surname_page (value_of (codes "name") query)
