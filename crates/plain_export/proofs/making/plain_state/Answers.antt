use Rattle.std.proofs.Common.{◌≡◌, Err, List, rules, subst, sym}
use Rattle.gedcom_export.specs.Shown.{around_in}
use Rattle.plain_export.specs.Made.{AreMade}
use Rattle.plain_export.specs.declared.added.Added.{Added}
use Rattle.record_shapes.specs.Shapes.{Around}
use Rattle.plain_export.specs.Firsts.{firsts}
use Rattle.plain_export.specs.Fitting.{AdditionsFit, PlacesFit}
use Rattle.plain_export.proofs.Failing.{weaker}
use Rattle.plain_export.proofs.Whole.{made_is, same_around}
use Rattle.plain_export.proofs.making.plain_state.Goals as goal

pub returns-clause-made : goal.returns-clause-made
returns-clause-made c =
    let m = c.args.state.now.records in
    made_is m c.in_ok-plain.plain.records c.in_ok-index.index c.in_ok-added.added.items c.in_ok-index.ensures.shows
    c.in_ok-added.ensures.made
    (subst (λ (xs : List Added). AreMade m (around_in c.in_ok-index.index) xs c.in_ok-plain.plain.records)
    c.deref.ensures.value c.in_ok-plain.ensures.made)

pub returns-in_err-added-clause-refused : goal.returns-in_err-added-clause-refused
returns-in_err-added-clause-refused c =
    let m = c.args.state.now.records in
    let shown = same_around m c.in_ok-index.index c.in_ok-index.ensures.shows in
    let same : c.from_residual-in_err-added.result ≡ Err c.in_err-added.field-0.0 = search rules in
    rw same (weaker _ (λ whole. subst (λ (a : Around). AdditionsFit m a (firsts m)) (sym shown) whole.additions)
    c.in_err-added.ensures.refused)

pub returns-in_err-plain-clause-refused : goal.returns-in_err-plain-clause-refused
returns-in_err-plain-clause-refused c =
    let m = c.args.state.now.records in
    let shown = same_around m c.in_ok-index.index c.in_ok-index.ensures.shows in
    let same : c.from_residual-in_err-plain.result ≡ Err c.in_err-plain.field-0.0 = search rules in
    rw same (weaker _ (λ whole. subst (λ (a : Around). PlacesFit m a) (sym shown) whole.places)
    c.in_err-plain.ensures.refused)
