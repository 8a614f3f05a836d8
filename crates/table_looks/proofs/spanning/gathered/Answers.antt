use Rattle.std.proofs.Common.{sym, ap, ◌∙◌, ◌∷◌, []}
use Rattle.table_looks.specs.Spanning.{first_there, spans_in}
use Rattle.table_looks.proofs.Spanned.{more_rows}
use Rattle.table_looks.proofs.spanning.gathered.Goals as goal

pub rows-preserved : goal.rows-preserved
rows-preserved c n =
    c.in_ok-add_span.ensures n
    ∙ ap (λ o. first_there o (spans_in (c.in-Some.row ∷ []) n)) (c.rows.invariant n)
    ∙ sym (more_rows n c.rows.yielded c.in-Some.row)
