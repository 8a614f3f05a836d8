use Rattle.std.proofs.Common.{◌≡◌, ◌∙◌, ◌≤◌, Err, ap, rules, subst, sym}
use Rattle.std.specs.Prelude.{string_bytes}
use Rattle.stored_lines.specs.Line.{Lines}
use Rattle.stored_lines.specs.Levels.{forest_levels}
use Rattle.stored_lines.specs.Tree.{forest_of}
use Rattle.record_text.specs.Text.{IsText}
use Rattle.record_kinds.specs.Model as model
use Rattle.gedcom_export.specs.Shown.{around_in}
use Rattle.plain_export.specs.Allowed.{one_line}
use Rattle.plain_export.specs.Kept.{kept}
use Rattle.plain_export.proofs.Failing.{fails_by, weaker}
use Rattle.plain_export.proofs.kinds.place_line.Goals as goal

pub returns-in_err-text-clause-refused : goal.returns-in_err-text-clause-refused
returns-in_err-text-clause-refused c =
    let path : string_bytes c.in_ok-path-2.path
    ≡ one_line ((around_in c.args.index.now).path c.args.place.now.place) = search rules in
    let same : c.from_residual-in_err-text.result ≡ Err c.in_err-text.field-0.0 = search rules in
    rw same (weaker _ (λ whole. subst IsText (sym path) whole.0) c.in_err-text.ensures.refused)

pub returns-clause-refused : goal.returns-clause-refused
returns-clause-refused c = fails_by c.line.result
    (λ whole. subst (λ (ts : Lines). forest_levels (forest_of ts) ≤ 98)
    (sym (c.in_ok-below.ensures ∙ ap (λ (ts : Lines). kept c.args.state.now.records ts)
    (c.deref.ensures.value ∙ ap (λ (p : model.EventPlace). p.carried) c.place.view_is))) whole.1.0)
    c.line.ensures.refused
