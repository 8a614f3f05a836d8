-- What contracts see of the code's values.
use Rattle.std.specs.Prelude.{◌≡◌, ◌≤◌, ◌*◌, List, ◌++◌, length}
use Rattle.gedcom_rules.specs.Views.{progress, IsStacked}
use Rattle.file_faults.specs.declared.listing.Listing.{Listing}
use Rattle.file_faults.specs.declared.reading.Course as code
use Rattle.file_faults.specs.Faults.{Faulty}
use Rattle.file_faults.specs.Reading.{Course}
use Rattle.file_faults.specs.Shown.{listed}

abbrev pub course : code.Course → Course
course c = record { number = c.number; lines = progress c.seen; other = c.other }

-- as many lines are kept open as there are, and each line that was read is at most two of those that count
pub record IsSound (c : code.Course) : Type 0 where
  pub stacked : IsStacked c.seen
  pub few : (progress c.seen).count ≤ 2 * c.number

-- the list so far is that of these faulty lines
pub record IsList (l : Listing) (fs : List Faulty) : Type 0 where
  pub text : l.text.items ≡ listed fs
  pub total : l.total ≡ length fs

-- the list so far is that of a front of all faulty lines, and these are still to come
pub record IsGoing (l : Listing) (all rest : List Faulty) : Type 0 where
  pub front : List Faulty
  pub list : IsList l front
  pub parts : all ≡ front ++ rest
