-- The slips of an archive, a line each: rules of our own.
use Rattle.std.specs.Prelude.{
  ℕ,
  ◌+◌,
  ◌-◌,
  ◌==◌,
  Bool,
  not,
  min,
  List,
  [],
  ◌∷◌,
  ◌++◌,
  codes,
  decimal,
  take,
  Option,
  Some,
  None,
}
use Rattle.std.specs.List.{filter, flat_map, list_any, range_with_len}
use Rattle.std.specs.FinMap.{get, keys}
use Rattle.archive_state.specs.Content.{Content}
use Rattle.archive_state.specs.Slips.{Slip}
use Rattle.showing.specs.Slips.{slip_words}

-- the line of a slip
abbrev pub slip_line : ℕ → Slip → List ℕ
slip_line n s = decimal n ++ (codes "  slip  " ++ slip_words s)

-- the numbers after one, below the next one, and of 32 bits
abbrev pub later_numbers : ℕ → ℕ → List ℕ
later_numbers after next = range_with_len (after + 1) (min next 4294967296 - (after + 1))

abbrev pub is_none_of : List ℕ → ℕ → Bool
is_none_of ks n = not (list_any (λ k. k == n) ks)

-- those of them that no record has
abbrev pub free_numbers : List ℕ → ℕ → ℕ → List ℕ
free_numbers ks after next = filter (is_none_of ks) (later_numbers after next)

-- the line of what is at a number, if it is a slip
abbrev pub line_at : ℕ → Option Slip → List (ℕ × List ℕ)
line_at n None = []
line_at n (Some s) = (n, slip_line n s) ∷ []

-- the lines of the slips after a number, by number, so many at most
abbrev pub slip_page : ℕ → ℕ → Content → List (ℕ × List ℕ)
slip_page after limit c =
    take limit (flat_map (λ n. line_at n (get c.slips n)) (free_numbers (keys c.records) after c.next))
