use Rattle.std.proofs.Common.{◌+◌, drop, map, sym, ap, ◌∙◌, subst, arith}
use Rattle.import_definitions.specs.Nodes.{tree_of, trees_at}
use Rattle.import_definitions.specs.Lines.{place_in, roots}
use Rattle.import_definitions.specs.Views.{AreInFile}
use Rattle.import_definitions.specs.Positions.{path_behind}
use Rattle.file_records.specs.KnownViews.{path_said}
use Rattle.file_records.specs.PathViews.{as_line}
use Rattle.file_records.proofs.Behind.{begun, ended, step}
use Rattle.file_records.proofs.reading.paths_of.Goals as goal
use Rattle.import_definitions.proofs.Places.{trees_less}

pub loop-node-init : goal.loop-node-init
loop-node-init c = record {
  in_file = subst AreInFile (sym c.nodes-node-items.ensures.same) c.nodes-node-items.ensures.in_file;
  paths = begun c.args.roots.now c.new-found.result.items (trees_at c.nodes-node-items.result.now)
      c.new-found.ensures.items c.nodes-node-items.ensures.same;
}

pub path_of-requires : goal.path_of-requires
path_of-requires c =
    let front = trees_less c.nodes-node-items.result.now c.loop-node.node-index c.node-item.result c.loop-node-test.true
    c.node-item.is in
    (subst AreInFile front c.loop-node.invariant.in_file).0

pub loop-node-preserved : goal.loop-node-preserved
loop-node-preserved c =
    let ns = c.nodes-node-items.result.now in
    let i = c.loop-node.node-index in
    let front = trees_less ns i c.node-item.result c.loop-node-test.true c.node-item.is in
    record {
      in_file = (subst AreInFile front c.loop-node.invariant.in_file).1;
      paths = step c.args.roots.now (tree_of c.node-item.result.now) (trees_at (drop (i + 1) ns)) (trees_at (drop i ns))
          c.loop-node.found.items c.push.new.self.items c.in_ok-path.path _ front c.in_ok-push.ensures.items
          (c.in_ok-path.ensures ∙ ap (λ ps. path_behind (roots c.args.roots.now) (map path_said ps)
          (as_line (place_in c.args.roots.now) (tree_of c.node-item.result.now))) c.deref.ensures.value)
          c.loop-node.invariant.paths;
    }

pub returns : goal.returns
returns c = ended c.args.roots.now c.nodes-node-items.result.now c.loop-node.node-index c.loop-node.found.items
    (omega arith) c.loop-node.invariant.paths
