-- What is made of the sides of slips, of which the second schema has a row for each.
use Rattle.std.specs.Prelude.{ℕ, ◌==◌, ◌+◌, List, [], ◌∷◌, ◌++◌, filter, not, nat_lt}
use Rattle.store_tables.specs.Rows.{Rows, SlipLineRow, SlipPackRow, SlipSide, put_by, slip_place}

-- sides of a slip, from a place on
abbrev pub placed : ℕ → ℕ → List SlipSide → List SlipPackRow
placed n at [] = []
placed n at (s ∷ ss) = record { slip = n; place = at; side = s } ∷ placed n (at + 1) ss

-- the sides of a slip from place 0 on, in place of all lines that it had, between those of the slips before it and
-- after it
abbrev pub with_slip_sides : ℕ → List SlipSide → Rows → Rows
with_slip_sides n sides rows =
    record rows {
      slip_lines = filter (λ (s : SlipLineRow). not (s.slip == n)) rows.slip_lines;
      slip_packs = filter (λ (p : SlipPackRow). nat_lt p.slip n) rows.slip_packs
          ++ (placed n 0 sides ++ filter (λ (p : SlipPackRow). nat_lt n p.slip) rows.slip_packs);
    }

-- ---- as one statement after the other makes it
-- no rows of a slip with lines
abbrev pub without_slip_sides : ℕ → Rows → Rows
without_slip_sides n rows =
    record rows {
      slip_lines = filter (λ (s : SlipLineRow). not (s.slip == n)) rows.slip_lines;
      slip_packs = filter (λ (p : SlipPackRow). not (p.slip == n)) rows.slip_packs;
    }

-- a side of a slip at a place, in place of one that stands there
abbrev pub with_slip_side : ℕ → ℕ → SlipSide → Rows → Rows
with_slip_side n at s rows =
    record rows { slip_packs = put_by slip_place (record { slip = n; place = at; side = s }) rows.slip_packs }
