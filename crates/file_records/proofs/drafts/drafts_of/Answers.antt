use Rattle.std.proofs.Common.{◌+◌, ◌++◌, ap, drop, refl, subst, sym, arith}
use Rattle.import_definitions.specs.Nodes.{tree_of, trees_at}
use Rattle.import_definitions.specs.Views.{AreInFile}
use Rattle.file_records.proofs.DraftNodes.{begun, draft_end, draft_step, here, report_end, report_step, said_of}
use Rattle.file_records.proofs.drafts.drafts_of.Goals as goal
use Rattle.import_definitions.proofs.Places.{trees_less}

pub loop-node-init : goal.loop-node-init
loop-node-init c = record {
  count = refl;
  in_file = subst AreInFile (sym c.nodes-node-items.ensures.same) c.nodes-node-items.ensures.in_file;
  drafts = begun c.args.roots.now c.new-drafts.result.items (trees_at c.nodes-node-items.result.now)
      c.new-drafts.ensures.items c.nodes-node-items.ensures.same;
  report = ap (λ ts. c.args.report.now.items ++ said_of c.args.roots.now ts) c.nodes-node-items.ensures.same;
}

pub draft_of_root-requires-clause-in_file : goal.draft_of_root-requires-clause-in_file
draft_of_root-requires-clause-in_file c =
    let front = trees_less c.nodes-node-items.result.now c.loop-node.node-index c.node-item.result c.loop-node-test.true
    c.node-item.is in
    (subst AreInFile front c.loop-node.invariant.in_file).0

pub draft_of_root-requires-clause-at : goal.draft_of_root-requires-clause-at
draft_of_root-requires-clause-at c = here c.args.roots.now c.nodes-node-items.result.now c.loop-node.node-index
    c.loop-node.position c.node-item.result c.nodes-node-items.ensures.same c.loop-node-test.true c.node-item.is
    c.loop-node.invariant.count

pub loop-node-preserved : goal.loop-node-preserved
loop-node-preserved c =
    let ns = c.nodes-node-items.result.now in
    let i = c.loop-node.node-index in
    let front = trees_less ns i c.node-item.result c.loop-node-test.true c.node-item.is in
    record {
      count = omega (arith, c.loop-node.invariant.count);
      in_file = (subst AreInFile front c.loop-node.invariant.in_file).1;
      drafts = draft_step c.args.roots.now (tree_of c.node-item.result.now) (trees_at (drop (i + 1) ns))
          (trees_at (drop i ns)) i (i + 1) c.loop-node.position c.loop-node.drafts.items c.push.new.self.items
          c.in_ok-draft.draft _ front c.loop-node.invariant.count refl c.in_ok-push.ensures.items
          c.in_ok-draft.ensures.draft c.loop-node.invariant.drafts;
      report = report_step c.args.roots.now (tree_of c.node-item.result.now) (trees_at (drop (i + 1) ns))
          (trees_at (drop i ns)) c.loop-node.report.items c.draft_of_root.new.report.items _ front
          c.in_ok-draft.ensures.report c.loop-node.invariant.report;
    }

pub returns-clause-drafts : goal.returns-clause-drafts
returns-clause-drafts c = draft_end c.args.roots.now c.nodes-node-items.result.now c.loop-node.node-index
    c.loop-node.drafts.items _ (omega arith) c.loop-node.invariant.drafts

pub returns-clause-report : goal.returns-clause-report
returns-clause-report c = report_end c.args.roots.now c.nodes-node-items.result.now c.loop-node.node-index
    c.loop-node.report.items _ (omega arith) c.loop-node.invariant.report
