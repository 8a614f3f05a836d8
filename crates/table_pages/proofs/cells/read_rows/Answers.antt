use Rattle.std.proofs.Common.{[], List, ap, arith, drop, length, sym, ◌++◌, ◌∙◌, ◌∷◌, ◌≡◌, ◌≤◌, ℕ}
use Rattle.std.proofs.Math.ListN.{drop_of_length-le}
use Rattle.std.proofs.lemmas.List.{append-nil}
use Rattle.table_pages.specs.Cells.{Row, is_open, is_quoted, joined, nothing, read, read_on, rows_of}
use Rattle.table_pages.specs.declared.cells.Mode.{Mode}
use Rattle.table_pages.proofs.cells.read_rows.Goals as goal

-- the last cell and the last row are ended
ended : (rows : List Row) (row : Row) (cell : List ℕ) (mode : Mode)
    → rows ++ (row ++ cell ∷ []) ∷ [] ≡ joined rows row cell (nothing mode)
ended rows row cell mode = ap (λ (c : List ℕ). rows ++ (row ++ c ∷ []) ∷ []) (sym (append-nil cell))

pub returns-clause-rows : goal.returns-clause-rows
unfolding rows_of
returns-clause-rows c =
    let r = c.loop-byte.reading in
    let all : length c.args.lines.now ≤ c.loop-byte.byte-index = omega arith in
    let none : drop c.loop-byte.byte-index c.args.lines.now ≡ [] = drop_of_length-le c.args.lines.now all in
    c.in_ok-end_row.ensures.rows ∙ ended r.rows.items r.row.items r.cell.items r.mode
    ∙ sym (ap (λ (bytes : List ℕ). read_on c.args.separator r.rows.items r.row.items r.cell.items r.mode bytes) none)
    ∙ c.loop-byte.invariant.rows

pub returns-clause-open : goal.returns-clause-open
unfolding is_open
returns-clause-open c =
    let r = c.loop-byte.reading in
    let all : length c.args.lines.now ≤ c.loop-byte.byte-index = omega arith in
    let none : drop c.loop-byte.byte-index c.args.lines.now ≡ [] = drop_of_length-le c.args.lines.now all in
    c.is_quoted-is_open.ensures
    ∙ ap is_quoted (sym (ap (λ (bytes : List ℕ). (read c.args.separator r.mode bytes).ends) none)
    ∙ c.loop-byte.invariant.ends)
