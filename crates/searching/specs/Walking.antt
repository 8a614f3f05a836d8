-- The same, a number at a time. No clause of a public call names it.
use Rattle.std.specs.Prelude.{ℕ, nat_lt, if◌then◌else◌, List, [], ◌++◌, fold, length, map, Option, Some, None}
use Rattle.std.specs.List.{flat_map}
use Rattle.record_kinds.specs.declared.record.Record.{Record}
use Rattle.searching.specs.Lines.{divided, line_of}
use Rattle.searching.specs.declared.wanted.Wanted.{Wanted}

-- the line of what stands at a number
abbrev pub line_at : Wanted → ℕ → Option Record → List (ℕ × List ℕ)
line_at w n None = []
line_at w n (Some r) = line_of w (n, r)

-- one more number, unless there are lines enough
abbrev pub with_found : Wanted → ℕ → ℕ → Option Record → List (ℕ × List ℕ) → List (ℕ × List ℕ)
with_found w limit n found lines = if nat_lt (length lines) limit then lines ++ line_at w n found else lines

-- the same, where the number is after another
abbrev pub with_later : Wanted → ℕ → ℕ → ℕ → Option Record → List (ℕ × List ℕ) → List (ℕ × List ℕ)
with_later w after limit n found lines = if nat_lt after n then with_found w limit n found lines else lines

-- the lines of those of these numbers that are after one
abbrev pub walked : (ℕ → Option Record) → Wanted → ℕ → ℕ → List ℕ → List (ℕ × List ℕ)
walked at w after limit = fold (λ lines n. with_later w after limit n (at n) lines) []

-- the line of what stands at a number, where it is after another
abbrev pub line_after : Wanted → ℕ → ℕ → Option Record → List (ℕ × List ℕ)
line_after w after n found = if nat_lt after n then line_at w n found else []

-- some lines more: after those that are there, or their numbers after the others, where there are lines enough
abbrev pub with_more : ℕ → List (ℕ × List ℕ) → List (ℕ × List ℕ) × List ℕ → List (ℕ × List ℕ) × List ℕ
with_more limit ls found =
    if nat_lt (length found.0) limit then (found.0 ++ ls, found.1) else (found.0, found.1 ++ map (λ l. l.0) ls)

-- the lines of those of these numbers that are after one, and the numbers of the others
abbrev pub counted : (ℕ → Option Record) → Wanted → ℕ → ℕ → List ℕ → List (ℕ × List ℕ) × List ℕ
counted at w after limit ns = divided limit (flat_map (λ n. line_after w after n (at n)) ns)
