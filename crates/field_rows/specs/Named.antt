-- The kinds of records that lines of a record name (The GEDCOM Standard Release 5.5.1, chapter 2, record structures).
use Rattle.std.specs.Prelude.{ℕ, List, codes}
use Rattle.field_rows.specs.declared.known.Named.{Named}
use Rattle.field_rows.specs.declared.known.Named.TheVariants as named

-- the tag that such a record has at level 0
abbrev pub named_tag : Named → List ℕ
named_tag named.Repo = codes "REPO"
named_tag named.Source = codes "SOUR"
named_tag named.Person = codes "INDI"
named_tag named.Family = codes "FAM"
