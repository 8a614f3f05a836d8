use Rattle.std.proofs.Common.{◌≡◌, ◌∙◌, Err, List, ℕ, ap, rules, subst, sym}
use Rattle.std.specs.BTreeMap.{get_by_text}
use Rattle.gedcom_export.specs.Shown.{around_in}
use Rattle.plain_export.specs.Added.{cited, cited_or_noted, noted}
use Rattle.plain_export.specs.Fitting.{AddedFit}
use Rattle.plain_export.specs.declared.noted.Noted.{Noted}
use Rattle.plain_export.proofs.Failing.{fails_by, weaker}
use Rattle.plain_export.proofs.entries.add_entry.Goals as goal

pub returns-in_err-noted-clause-refused : goal.returns-in_err-noted-clause-refused
returns-in_err-noted-clause-refused c =
    let same : c.from_residual.result ≡ Err c.in_err-noted.field-0.0 = search rules in
    rw same (weaker _ (λ whole. whole.0) c.in_err-noted.ensures.refused)

pub returns-clause-refused : goal.returns-clause-refused
returns-clause-refused c =
    let a = around_in c.args.index.now in
    let e = c.args.entry.now in
    let xs : List Noted = noted (get_by_text c.args.firsts.now.numbers) e in
    let same : c.deref-2.result.now ≡ xs = c.deref-2.ensures.value ∙ c.in_ok-noted.ensures.made in
    let numbers : c.deref-3.result.now ≡ cited xs =
    c.deref-3.ensures.value ∙ c.in_ok-numbers.ensures
    ∙ ap (λ (ys : List Noted). cited ys) (c.deref.ensures.value ∙ c.in_ok-noted.ensures.made) in
    fails_by c.add_cited.result
    (λ whole. subst (λ (ns : List ℕ). AddedFit (cited_or_noted a e c.deref-2.result.now ns)) (sym numbers)
    (subst (λ (ys : List Noted). AddedFit (cited_or_noted a e ys (cited xs))) (sym same) whole.1))
    c.add_cited.ensures.refused
