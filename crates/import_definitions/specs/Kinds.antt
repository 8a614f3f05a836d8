-- What a node of level 0 makes by its tag (The GEDCOM Standard Release 5.5.1, chapter 2, RECORD; places are `_LOC`, a
-- rule of our own).
use Rattle.std.specs.Prelude.{ℕ, Bool, true, false, List, codes, bytes_eq, if◌then◌else◌}
use Rattle.import_definitions.specs.declared.kinds.RootKind.{RootKind}
use Rattle.import_definitions.specs.declared.kinds.RootKind.TheVariants as kind

abbrev pub kind_named : List ℕ → RootKind
kind_named tag =
    if bytes_eq tag (codes "_LOC") then kind.Place
    else (if bytes_eq tag (codes "REPO") then kind.Repo
    else (if bytes_eq tag (codes "SOUR") then kind.Source
    else (if bytes_eq tag (codes "INDI") then kind.Person
    else (if bytes_eq tag (codes "FAM") then kind.Family
    else kind.Other))))

-- the kind of those that have none of their own
abbrev pub is_other : RootKind → Bool
is_other kind.Other = true
is_other k = false
