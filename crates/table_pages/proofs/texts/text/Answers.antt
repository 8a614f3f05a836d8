use Rattle.std.specs.Str.{IsUtf8}
use Rattle.std.proofs.Common.{List, None, Some, ap, subst, sym, ◌∙◌, ℕ}
use Rattle.table_pages.specs.Blanks.{trimmed}
use Rattle.table_pages.proofs.Decoded.{decoded, undecoded}
use Rattle.table_pages.proofs.texts.text.Goals as goal

pub returns-in_ok-string-in-Ok : goal.returns-in_ok-string-in-Ok
returns-in_ok-string-in-Ok c =
    let of_cell = c.in-Ok.ensures.cases in
    let good = subst (λ (t : List ℕ). IsUtf8 t) c.trimmed.ensures of_cell.1 in
    ap Some (c.new.ensures ∙ c.in_ok-string-in-Ok.ensures.ok ∙ of_cell.0 ∙ c.trimmed.ensures)
    ∙ decoded (trimmed c.args.cell.now) (Some (trimmed c.args.cell.now)) None good

pub returns-in-Err : goal.returns-in-Err
returns-in-Err c = undecoded (trimmed c.args.cell.now) (Some (trimmed c.args.cell.now)) None
    (λ good. c.in-Err.ensures.cases.0 (subst (λ (t : List ℕ). IsUtf8 t) (sym c.trimmed.ensures) good))
