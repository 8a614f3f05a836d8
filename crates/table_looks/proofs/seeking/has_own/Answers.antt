use Rattle.std.proofs.Common.{◌≡◌, ◌↔◌, sym, ap, subst, ◌∙◌}
use Rattle.std.specs.Prelude.{IsTrue, Option, Some, option_copied}
use Rattle.std.specs.BTreeMap as tree
use Rattle.std.specs.FinMap.{get}
use Rattle.std.specs.Ordering.{nat_cmp}
use Rattle.record_kinds.specs.declared.record.Record.{Record}
use Rattle.store_rows.specs.Sought.{IsSought}
use Rattle.table_looks.proofs.Found.{tested}
use Rattle.table_looks.proofs.seeking.has_own.Goals as goal

pub returns : goal.returns
returns c =
    let kept = tree.get nat_cmp c.args.soughts.now c.args.number in
    let at : get c.args.held.now.records c.args.number ≡ Some c.in-Some.found.now =
    sym c.record.ensures ∙ ap option_copied c.in-Some.is in
    subst (λ (found : Option Record). IsTrue c.is_kept.result ↔ IsSought found kept) (sym at)
    (tested c.in-Some.found.now c.in_ok-own.own kept c.is_kept.result c.in_ok-own.ensures c.is_kept.ensures)
