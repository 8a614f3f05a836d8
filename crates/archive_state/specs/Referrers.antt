-- Which records name a number.
use Rattle.std.specs.Prelude.{ℕ, List, map}
use Rattle.std.specs.List.{filter}
use Rattle.std.specs.FinMap.{entries}
use Rattle.record_kinds.specs.declared.record.Record.{Record}
use Rattle.archive_state.specs.Links.{links, is_among}
use Rattle.archive_state.specs.Content.{Content}

-- the numbers of those that name a number, of records in the order of their numbers
abbrev pub naming : ℕ → List (ℕ × Record) → List ℕ
naming n es = map (λ e. e.0) (filter (λ e. is_among n (links e.1)) es)

-- the numbers of the records that name a number, ascending
abbrev pub referrers : Content → ℕ → List ℕ
referrers c n = naming n (entries c.records)
