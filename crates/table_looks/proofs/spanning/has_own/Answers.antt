use Rattle.std.proofs.Common.{◌≡◌, ◌↔◌, sym, ap, subst, ◌∙◌}
use Rattle.std.specs.Prelude.{IsTrue, Option, Some, option_copied}
use Rattle.std.specs.BTreeMap as tree
use Rattle.std.specs.FinMap.{get}
use Rattle.std.specs.Ordering.{nat_cmp}
use Rattle.gedcom_date.specs.declared.value.Span.{Span}
use Rattle.record_kinds.specs.declared.record.Record.{Record}
use Rattle.store_rows.specs.Spans.{IsSpanned}
use Rattle.table_looks.proofs.Spanned.{tested}
use Rattle.table_looks.proofs.spanning.has_own.Goals as goal

pub returns : goal.returns
returns c =
    let kept = tree.get nat_cmp c.args.spans.now c.args.number in
    let at : get c.args.held.now.records c.args.number ≡ Some c.in-Some.found.now =
    sym c.record.ensures ∙ ap option_copied c.in-Some.is in
    let test : IsTrue c.is_same.result ↔ (c.in_ok-own.own ≡ kept) =
    subst (λ (o : Option Span). IsTrue c.is_same.result ↔ (c.in_ok-own.own ≡ o)) c.span_at.ensures c.is_same.ensures in
    subst (λ (found : Option Record). IsTrue c.is_same.result ↔ IsSpanned found kept) (sym at)
    (tested c.in-Some.found.now c.in_ok-own.own kept c.is_same.result c.in_ok-own.ensures test)
