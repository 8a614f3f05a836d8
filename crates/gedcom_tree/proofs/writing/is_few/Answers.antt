use Rattle.std.proofs.Common.{◌≡◌, ◌∙◌, ℕ, List, eqb, sym, subst, false}
use Rattle.std.specs.List.{list_any}
use Rattle.std.proofs.lemmas.Bool.{not-true}
use Rattle.gedcom_tree.proofs.Plain.{few_short, plain_short}
use Rattle.gedcom_tree.proofs.writing.is_few.Goals as goal

pub returns-then-text-le-SHORT : goal.returns-then-text-le-SHORT
returns-then-text-le-SHORT c = λ h. few_short c.args.text.now c.if-text-le-SHORT.true

pub returns-then-text-le-PLAIN : goal.returns-then-text-le-PLAIN
returns-then-text-le-PLAIN c = λ h.
    let none : list_any (λ b. eqb b 64) c.as_bytes.result.now ≡ false = sym c.contains.ensures.value
    ∙ not-true c.contains.result h in
    plain_short c.args.text.now c.if-text-le-PLAIN.true
    (subst (λ (t : List ℕ). list_any (λ b. eqb b 64) t ≡ false) c.as_bytes.ensures.value none)
