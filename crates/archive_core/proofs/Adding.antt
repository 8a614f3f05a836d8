-- What is only added stays so, whatever is kept of it; and nothing is added where nothing changes.
use Rattle.std.specs.Prelude.{Option}
use Rattle.archive_state.specs.Changes.{Changes}
use Rattle.archive_state.specs.Content.{Content}
use Rattle.archive_state.specs.declared.changes.Kept.{Kept}
use Rattle.imports.specs.Imports.{OnlyAdds}

pub kept_adds : (c : Content) (changes : Changes) (kept : Option Kept) → OnlyAdds c changes
    → OnlyAdds c (record changes { kept = kept })
kept_adds c changes kept h = record {
  numbers = h.numbers;
  once = h.once;
  free = h.free;
  removals = h.removals;
  slip = h.slip;
}
