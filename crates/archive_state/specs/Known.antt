-- What is known of the records of an archive: the tag that each is written with, and the paths of places.
use Rattle.std.specs.Prelude.{ℕ, ◌+◌, zero, suc, nat_lt, List, [], Option, Some, None, option_map, codes, if◌then◌else◌}
use Rattle.std.specs.FinMap.{get}
use Rattle.record_kinds.specs.declared.record.Record.{Record}
use Rattle.record_kinds.specs.declared.record.Record.TheVariants as kind
use Rattle.record_shapes.specs.Forms.{Known}
use Rattle.record_shapes.specs.Fields.{path_below}
use Rattle.archive_state.specs.Content.{Records}

-- the tag of a record at level 0 (The GEDCOM Standard Release 5.5.1, chapter 2, record structures; places and register
-- entries are ours); an event or a citation is written below another record
abbrev pub written_tag : Record → List ℕ
written_tag (kind.Place p) = codes "_LOC"
written_tag (kind.Repo r) = codes "REPO"
written_tag (kind.Source s) = codes "SOUR"
written_tag (kind.Person p) = codes "INDI"
written_tag (kind.Family f) = codes "FAM"
written_tag (kind.Entry e) = codes "_REG"
written_tag (kind.Other o) = o.tag
written_tag _ = []

abbrev pub tag_at : Option Record → List ℕ
tag_at None = []
tag_at (Some r) = written_tag r

-- the path of a place of that number and name: below another, that has to have a smaller number and a path
abbrev pub path_under : ℕ → (ℕ → Option (List ℕ)) → List ℕ → Option ℕ → Option (List ℕ)
path_under n above name None = Some name
path_under n above name (Some q) = if nat_lt q n then option_map (path_below name) (above q) else None

abbrev pub path_with : ℕ → (ℕ → Option (List ℕ)) → Option Record → Option (List ℕ)
path_with n above (Some (kind.Place p)) = path_under n above p.name p.parent
path_with n above _ = None

-- the path, of at most so many names
abbrev pub path_by : ℕ → Records → ℕ → Option (List ℕ)
path_by zero m n = None
path_by (suc steps) m n = path_with n (path_by steps m) (get m n)

-- the path of a place; none where there is no place, or it has no path
unfoldable pub path_of : Records → ℕ → Option (List ℕ)
path_of m n = path_by (n + 1) m n

-- what is known of all records
abbrev pub known_of : Records → Known
known_of m = record { tag = λ n. tag_at (get m n); path = path_of m }

-- the same, only with the paths of the places before a number
abbrev pub known_before : Records → ℕ → Known
known_before m k = record { tag = λ n. tag_at (get m n); path = λ n. if nat_lt n k then path_of m n else None }
