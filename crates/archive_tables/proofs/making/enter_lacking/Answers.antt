use Rattle.std.proofs.Common.{List, inr, subst, ℕ}
use Rattle.archive_tables.specs.Making.{EntersTried}
use Rattle.archive_tables.proofs.making.enter_lacking.Goals as goal

pub returns-in-Ok : goal.returns-in-Ok
returns-in-Ok g c = inr (record {
  between = c.try_page.new.archive;
  paths = c.in-Ok.paths;
  reads = c.try_page.ensures.reads;
  kept = c.in-Ok.ensures.kept;
  right = c.in-Ok.ensures.tried;
  entered = subst (λ (ps : List (List ℕ)). EntersTried g.S.Store c.args.token c.args.source c.args.order
      c.args.bytes.now ps c.try_page.new.archive c.enter_tried.new.made.items c.enter_tried.result
      c.enter_tried.new.archive) c.fields.ensures c.enter_tried.ensures;
})
