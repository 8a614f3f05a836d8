use Rattle.std.proofs.Common.{rules}
use Rattle.std.proofs.lemmas.List.Sorted.{IsNonDecreasingBy-from_sort_by_key, answers_always}
use Rattle.receipts.specs.declared.report.ReportLine.{ReportLine}
use Rattle.imports.proofs.Ordered.{arranged_is}
use Rattle.imports.proofs.reports.put_in_order.Goals as goal
use Rattle.list_laws.proofs.Sorted.{stable_is}

pub returns : goal.returns
returns c =
    arranged_is c.args.report.now.items c.sort_by_key.new.self.items
    (IsNonDecreasingBy-from_sort_by_key (λ (o : ReportLine). o.line) c.sort_by_key.new.self.items
    c.in_ok-sort_by_key.ensures.sorted (λ a r q k. search rules))
    (stable_is (λ (o : ReportLine). o.line) c.args.report.now.items c.sort_by_key.new.self.items
    (c.in_ok-sort_by_key.ensures.stable (λ o. o.line) (answers_always _ _ _ (λ f a r g h. search rules))))
