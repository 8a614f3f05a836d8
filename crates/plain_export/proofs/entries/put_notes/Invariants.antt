use Rattle.std.proofs.Common.{◌≡◌, ◌++◌, take, map}
use Rattle.std.specs.List.{filter}
use Rattle.plain_export.specs.Added as adding
use Rattle.plain_export.specs.declared.noted.Noted.{Noted}
use Rattle.plain_export.proofs.entries.put_notes.Given as goal

abbrev pub invariant-noted : goal.invariant-noted
invariant-noted l = l.below.items ≡ l.fn.below.items ++ map adding.note_line
    (filter (λ (x : Noted). adding.is_of l.number x.at) (take l.x-index l.noted))
