-- What an archive has for a page: for each entry the number of its place, or why there is none.
use Rattle.std.specs.Prelude.{ℕ, List, [], map, Option, Some, None, is_some, Result, Ok, Err, if◌then◌else◌}
use Rattle.std.specs.FinMap.{get}
use Rattle.record_text.specs.declared.refusal.RefusalKind.{RefusalKind}
use Rattle.record_text.specs.declared.refusal.RefusalKind.TheVariants.{BadText, NoSuch}
use Rattle.archive_state.specs.Content.{Content}
use Rattle.commands.specs.Fields.{text_of}
use Rattle.commands.specs.Rows.{and_then}
use Rattle.command_checks.specs.Checks.{demanded_at}
use Rattle.command_checks.specs.declared.kinds.Demand.TheVariants.{Source}
use Rattle.import_definitions.specs.Made.{lowest_place}
use Rattle.page_answers.specs.Answers.{made_first}
use Rattle.page_entries.specs.declared.entries.PageEntry.{PageEntry}
use Rattle.page_entries.specs.declared.places.PagePlace.{PagePlace}
use Rattle.page_entries.specs.declared.places.PagePlace.TheVariants.{Number, Token, Path}

-- the number of the place of an entry, none where it names none; or why there is no such place
abbrev pub Found : Type 0
Found = Result (Option ℕ) RefusalKind

abbrev pub or_none : Option ℕ → Found
or_none None = Err NoSuch
or_none (Some number) = Ok (Some number)

-- the lowest place that has the path
abbrev pub at_path : Content → Option (List ℕ) → Found
at_path c None = Err BadText
at_path c (Some path) = or_none (lowest_place c.records path)

-- a number as it is, which entering looks at; the first number that a request made; or the place of a path
abbrev pub number_of : Content → PagePlace → Found
number_of c (Number number) = Ok (Some number)
number_of c (Token token) = or_none (made_first (get c.receipts token))
number_of c (Path path) = at_path c (text_of path)

abbrev pub maybe_number : Content → Option PagePlace → Found
maybe_number c None = Ok None
maybe_number c (Some place) = number_of c place

abbrev pub place_of : Content → PageEntry → Found
place_of c e = maybe_number c e.place

-- the source has to be there, and then these are the places
abbrev pub found_of : Content → ℕ → List PageEntry → Result (List Found) RefusalKind
found_of c source entries = and_then (demanded_at c Source source) (λ u. Ok (map (place_of c) entries))

-- none, where an answer is kept under the token: it is given whatever the places are
abbrev pub looks_of : Content → List ℕ → ℕ → List PageEntry → Result (List Found) RefusalKind
looks_of c token source entries = if is_some (get c.receipts token) then Ok [] else found_of c source entries
