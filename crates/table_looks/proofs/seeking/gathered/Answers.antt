use Rattle.std.proofs.Common.{sym, ap, ◌∙◌, ◌∷◌, []}
use Rattle.table_looks.specs.Seeking.{soughts_in}
use Rattle.table_looks.specs.Spanning.{first_there}
use Rattle.table_looks.proofs.Found.{more_rows}
use Rattle.table_looks.proofs.seeking.gathered.Goals as goal

pub rows-preserved : goal.rows-preserved
rows-preserved c n =
    c.in_ok-add_sought.ensures n
    ∙ ap (λ o. first_there o (soughts_in (c.in-Some.row ∷ []) n)) (c.rows.invariant n)
    ∙ sym (more_rows n c.rows.yielded c.in-Some.row)
