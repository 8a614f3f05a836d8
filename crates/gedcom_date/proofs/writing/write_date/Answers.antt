use Rattle.std.proofs.Common.{◌++◌, ◌∙◌, ap, sym, subst, List, ℕ}
use Rattle.gedcom_date.specs.View.{view}
use Rattle.gedcom_date.specs.Spelling.{spelling}
use Rattle.gedcom_date.specs.Grammar.{Says}
use Rattle.gedcom_date.proofs.Written.{again}
use Rattle.gedcom_date.proofs.writing.write_date.Goals as goal

pub returns-in-Ok-clause-again : goal.returns-in-Ok-clause-again
returns-in-Ok-clause-again c =
    let value = c.args.value.now in
    let is = c.in-Ok.ensures ∙ ap (λ (l : List ℕ). l ++ spelling (view value)) c.new-text.ensures.bytes in
    subst (λ (l : List ℕ). Says l (view value)) (sym is) (again value)
