-- What is put back of a record: rules of our own.
use Rattle.std.specs.Prelude.{ℕ, List, []}
use Rattle.record_kinds.specs.declared.record.Record.{Record}
use Rattle.record_kinds.specs.declared.record.Record.TheVariants as kind
use Rattle.put_back.specs.Rows.{Cells}
use Rattle.put_back.specs.Persons.{person_back}
use Rattle.put_back.specs.Families.{family_back}
use Rattle.put_back.specs.Events.{event_back}
use Rattle.put_back.specs.Sources.{citation_back, place_back, repo_back, source_back}
use Rattle.put_back.specs.Entries.{entry_back}

-- the rows by which a record of now gets the fields, members and links that one of before had; of records of no other
-- kind there are none
abbrev pub rows_back : ℕ → Record → Record → List Cells
rows_back n (kind.Person old) (kind.Person now) = person_back n old now
rows_back n (kind.Family old) (kind.Family now) = family_back n old now
rows_back n (kind.Event old) (kind.Event now) = event_back n old now
rows_back n (kind.Place old) (kind.Place now) = place_back n old now
rows_back n (kind.Repo old) (kind.Repo now) = repo_back n old now
rows_back n (kind.Source old) (kind.Source now) = source_back n old now
rows_back n (kind.Citation old) (kind.Citation now) = citation_back n old now
rows_back n (kind.Entry old) (kind.Entry now) = entry_back n old now
rows_back n _ _ = []
