-- What is kept of a merge, as it is shown: rules of our own.
use Rattle.std.specs.Prelude.{ℕ, List, [], ◌++◌, codes, decimal, if◌then◌else◌}
use Rattle.std.specs.List.{flat_map}
use Rattle.archive_state.specs.Slips.{Slip}
use Rattle.archive_state.specs.declared.slip.Change.{Change}
use Rattle.showing.specs.Fields.{number_field}
use Rattle.showing.specs.Heads.{head}

-- who was merged into whom, and whether that was undone
abbrev pub slip_words : Slip → List ℕ
slip_words s = decimal s.gone ++ (codes " into " ++ (decimal s.keep
    ++ (if s.is_undone then codes "  undone" else [])))

-- a record as it was before
abbrev pub before : Change → List ℕ
before c = codes "before: " ++ head c.number c.old

-- its line; the person that was merged, the one that stays; and the records that were changed
abbrev pub slip_fields : ℕ → Slip → List ℕ
slip_fields n s = decimal n ++ (codes "  slip  " ++ (slip_words s ++ (codes "\n"
    ++ (number_field (codes "merged") s.gone ++ (number_field (codes "into") s.keep ++ flat_map before s.changes)))))
