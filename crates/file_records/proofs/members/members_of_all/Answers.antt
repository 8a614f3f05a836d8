use Rattle.std.proofs.Common.{◌+◌, ◌≤◌, ◌++◌, drop, length, map, ap, sym, ◌∙◌, append-nil, arith}
use Rattle.import_definitions.specs.Nodes.{tree_of, trees_at}
use Rattle.file_records.specs.Members.{membership_of}
use Rattle.file_records.specs.SideViews.{member_at}
use Rattle.file_records.proofs.Naming.{are_named, maps_step, said_step}
use Rattle.file_records.proofs.members.members_of_all.Goals as goal
use Rattle.list_laws.proofs.Lists.{none_left}
use Rattle.import_definitions.proofs.Places.{trees_less}

pub loop-node-preserved : goal.loop-node-preserved
loop-node-preserved c =
    let ns = c.nodes-node-items.result.now in
    let i = c.loop-node.node-index in
    let front = trees_less ns i c.node-item.result c.loop-node-test.true c.node-item.is in
    record {
      members = ap (λ ms. map member_at ms ++ map (membership_of c.args.roots.now) (trees_at (drop (i + 1) ns)))
          c.in_ok-push.ensures.items
          ∙ maps_step c.args.roots.now (tree_of c.node-item.result.now) (trees_at (drop (i + 1) ns))
          (trees_at (drop i ns)) c.loop-node.all.items c.in_ok-members_of.field-0 _ front
          c.in_ok-members_of.ensures.members c.loop-node.invariant.members;
      report = said_step c.args.roots.now (tree_of c.node-item.result.now) (trees_at (drop (i + 1) ns))
          (trees_at (drop i ns)) c.loop-node.report.items c.members_of.new.report.items _ front
          c.in_ok-members_of.ensures.report c.loop-node.invariant.report;
    }

pub returns-clause-members : goal.returns-clause-members
returns-clause-members c =
    let past : length c.nodes-node-items.result.now ≤ c.loop-node.node-index = omega arith in
    let left = none_left c.nodes-node-items.result.now c.loop-node.node-index past in
    are_named c.args.roots.now c.loop-node.all.items (
    sym (append-nil (map member_at c.loop-node.all.items))
    ∙ sym (ap (λ ns. map member_at c.loop-node.all.items ++ map (membership_of c.args.roots.now) (trees_at ns)) left)
    ∙ c.loop-node.invariant.members
    )
