use Rattle.std.proofs.Common.{◌≡◌, ◌∙◌, ℕ, List, sym, subst, false}
use Rattle.std.specs.List.{list_any}
use Rattle.std.proofs.lemmas.Bool.{not-true}
use Rattle.gedcom_line.specs.Split.{is_lf}
use Rattle.gedcom_tree.proofs.Plain.{canonical_one}
use Rattle.gedcom_tree.proofs.writing.is_one_part.Goals as goal

pub returns-then-is_few : goal.returns-then-is_few
returns-then-is_few c = λ h.
    let none : list_any is_lf c.as_bytes.result.now ≡ false = sym c.contains.ensures.value
    ∙ not-true c.contains.result h in
    canonical_one c.args.text.now (c.is_few.ensures c.if-is_few.true)
    (subst (λ (t : List ℕ). list_any is_lf t ≡ false) c.as_bytes.ensures.value none)
