-- The links of an import that are written, by where the cursor stands.
use Rattle.std.proofs.Common.{
  ◌≡◌,
  ◌-◌,
  ℕ,
  List,
  [],
  ◌∷◌,
  ◌++◌,
  arith,
  drop,
  length,
  map,
  min,
  refl,
  sym,
  take,
  ap,
  ap₂,
  ◌∙◌,
}
use Rattle.std.proofs.lemmas.List.{length-drop}
use Rattle.archive_state.specs.declared.changes.Numbered.{Numbered}
use Rattle.store_tables.specs.Rows.{SoughtRow}
use Rattle.staged_rows.specs.Removing.{links_among}
use Rattle.staged_rows.specs.Staging.{a_link, lines_of_put, links_of, record_of}
use Rattle.staged_rows.proofs.LinksGone.{
  among_all_lines,
  among_links,
  among_records,
  none_behind,
  none_in_front,
}
use Rattle.staging.specs.Opened.{left_of, later_left, row_of_sought_row, row_of_span}
use Rattle.staging.specs.declared.cursor.Cursor.{Cursor}
use Rattle.staging.specs.declared.dated.Dated.{Dated}
use Rattle.staging.specs.declared.later.Later.{Later}

among_soughts : (ss : List SoughtRow) → links_among (map row_of_sought_row ss) ≡ []
among_soughts [] = refl
among_soughts (s ∷ ss) = among_soughts ss

among_spans : (ds : List Dated) → links_among (map row_of_span ds) ≡ []
among_spans [] = refl
among_spans (d ∷ ds) = among_spans ds

links_left : (batch : ℕ) (ps : List Numbered) (later : Later) (c : Cursor) → links_among (left_of batch ps later c)
    ≡ drop c.links later.links.items
links_left batch ps later c =
    let soughts = map row_of_sought_row (drop c.soughts later.soughts.items) in
    let spans = map row_of_span (drop c.spans later.spans.items) in
    none_in_front (map (record_of batch) (drop c.rows ps))
    (map lines_of_put (drop c.done ps) ++ later_left later c) (among_records batch (drop c.rows ps))
    ∙ none_in_front (map lines_of_put (drop c.done ps)) (later_left later c) (among_all_lines (drop c.done ps))
    ∙ none_behind (map a_link (drop c.links later.links.items)) (soughts ++ spans)
    (none_in_front soughts spans (among_soughts (drop c.soughts later.soughts.items))
    ∙ among_spans (drop c.spans later.spans.items))
    ∙ among_links (drop c.links later.links.items)

-- so many of them are written
pub written_are : (batch : ℕ) (ps : List Numbered) (later : Later) (c : Cursor) → later.links.items ≡ links_of ps
    → take (min c.links (length later.links.items)) later.links.items
    ≡ take (length (links_of ps) - length (links_among (left_of batch ps later c))) (links_of ps)
written_are batch ps later c are =
    let all = later.links.items in
    let left : length (links_among (left_of batch ps later c)) ≡ length all - c.links = ap length
    (links_left batch ps later c) ∙ length-drop c.links all in
    let same : length (links_of ps) ≡ length all = ap length (sym are) in
    let count : min c.links (length all) ≡ length (links_of ps) - length (links_among (left_of batch ps later c)) =
    omega (arith, left, same) in
    ap₂ take count are
