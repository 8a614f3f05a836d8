-- One turn more.
use Rattle.std.proofs.Common.{◌≡◌, ℕ, drop, ap, sym, ◌∙◌, ◌+◌}
use Rattle.stored_lines.specs.Line.{Label}
use Rattle.store_tables.proofs.Loops.{item_left}
use Rattle.store_rows.specs.Links.{with_link_if, with_links}
use Rattle.store_rows.proofs.Dated.{goes_on}
use Rattle.store_rows.proofs.SpansAside.{link_has}
use Rattle.store_rows.proofs.writing.link_rows.link_lines.Goals as goal

pub lines-preserved : goal.lines-preserved
lines-preserved g c =
    let lines = c.args.lines.now in
    let line = c.line-item.result in
    let n = c.args.number in
    let target = c.line.inside.target in
    let same : line.1.target ≡ target = ap (λ (l : ℕ × Label). l.1.target) (sym c.line.view_is) in
    let rest = drop (c.lines.line-index + 1) lines in
    let left = item_left lines c.lines.line-index line line c.lines-test.true c.line-item.is in (
      c.link_if.ensures.same_reference ∙ c.lines.invariant.0,
      goes_on _ _ _ _ _ (with_link_if n target) (with_links n rest) c.lines.invariant.1
          (λ rows has. link_has n target rows ∙ has) c.in_ok-link_if.ensures.ok c.link_if.ensures.survives
          (λ rows. ap (λ all. with_links n all rows) left
          ∙ ap (λ t. with_links n rest (with_link_if n t rows)) same),
    )
