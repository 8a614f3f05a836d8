use Rattle.std.proofs.Common.{◌+◌, ◌∙◌, arith, sym, ap, subst, ◌++◌}
use Rattle.std.specs.Prelude.{List}
use Rattle.gedcom_tree.specs.declared.node.Node.{Node}
use Rattle.stored_lines.specs.Levels.{forest_levels}
use Rattle.import_definitions.specs.Nodes.{HaveLines}
use Rattle.import_definitions.specs.Reports.{dangling}
use Rattle.record_text.specs.Text.{IsTag}
use Rattle.stored_lines.specs.Tree.{forest_of}
use Rattle.import_definitions.specs.Nodes.{trees_of}
use Rattle.import_definitions.specs.Lines.{place_in, lines_below}
use Rattle.import_definitions.proofs.Lined.{
  have_front,
  low_front,
  below_low,
  line_put,
  line_left,
  report_put,
  report_left,
  items_same,
  from,
  less_front,
}
use Rattle.import_definitions.proofs.lines.+lines_of.Goals as goal
use Rattle.import_definitions.proofs.lines.+lines_of.Goals.{
  in-Some+in_ok-children-in-Some+in_ok-tag-in-Some+in_ok-push-in-Some,
  in-None+in_ok-push-in-None,
}

pub lines_of-requires : goal.lines_of-requires
lines_of-requires t c =
    let h = have_front c.args.nodes.now c.loop-node.node-index c.node-item.result c.loop-node-test.true c.node-item.is
    c.loop-node.invariant.have in
    let low = low_front c.args.nodes.now c.loop-node.node-index c.node-item.result c.loop-node-test.true c.node-item.is
    c.loop-node.invariant.low in
    let e = c.deref.ensures.value in
    let less = less_front c.args.nodes.now c.loop-node.node-index c.node-item.result
    (forest_levels (forest_of (trees_of c.args.nodes.now))) c.loop-node-test.true c.node-item.is
    c.loop-node.invariant.fewer in (
      omega (arith, less.0, c.decreases, ap (λ (ns : List Node). forest_levels (forest_of (trees_of ns))) e),
      (
        subst (λ (ns : List Node). HaveLines (forest_of (trees_of ns))) (sym e) h.0.1,
        omega (arith, low.0, ap (λ (ns : List Node). forest_levels (forest_of (trees_of ns))) e),
      ),
    )

pub of_word-requires : goal.of_word-requires
of_word-requires t c =
    let h = have_front c.args.nodes.now c.loop-node.node-index c.node-item.result c.loop-node-test.true c.node-item.is
    c.loop-node.invariant.have in
    subst IsTag (sym c.as_str.ensures) h.0.0.tag

pub invariant_of-push : goal.invariant_of-push
invariant_of-push t c =
    let low = low_front c.args.nodes.now c.loop-node.node-index c.node-item.result c.loop-node-test.true c.node-item.is
    c.loop-node.invariant.low in
    below_low (place_in c.args.roots.now) c.node-item.result c.in_ok-children-in-Some.children.items
    (c.in_ok-children-in-Some.ensures.lines
    ∙ ap (λ ns. lines_below (place_in c.args.roots.now) (forest_of (trees_of ns))) c.deref.ensures.value) low.0

pub loop-node-preserved : goal.loop-node-preserved
loop-node-preserved t c =
    let h = have_front c.args.nodes.now c.loop-node.node-index c.node-item.result c.loop-node-test.true c.node-item.is
    c.loop-node.invariant.have in
    let low = low_front c.args.nodes.now c.loop-node.node-index c.node-item.result c.loop-node-test.true c.node-item.is
    c.loop-node.invariant.low in
    let ns = c.args.nodes.now in
    let i = c.loop-node.node-index in
    let n = c.node-item.result in
    let place = place_in c.args.roots.now in
    let less = less_front ns i n (forest_levels (forest_of (trees_of ns))) c.loop-node-test.true c.node-item.is
    c.loop-node.invariant.fewer in
    elim c.match-branch-2.branch [
      | in-Some+in_ok-children-in-Some+in_ok-tag-in-Some+in_ok-push-in-Some w ↦ record {
        have = h.1;
        low = low.1;
        fewer = less.1;
        lines = line_put place ns i n w.in_ok-tag-in-Some.tag w.in-Some.value w.in_ok-children-in-Some.children.items
            c.loop-node.lines.items c.match-branch-2.lines.items _ c.loop-node-test.true c.node-item.is
            (w.in_ok-tag-in-Some.ensures ∙ w.as_str.ensures) (sym w.in-Some.is ∙ c.in_ok-value.ensures)
            (w.in_ok-children-in-Some.ensures.lines
            ∙ ap (λ (ms : List Node). lines_below place (forest_of (trees_of ms))) w.deref.ensures.value)
            (items_same c.match-branch-2.lines w.push.new.self w.lines-is ∙ w.in_ok-push-in-Some.ensures.items)
            c.loop-node.invariant.lines;
        report = report_put place ns i n w.in-Some.value c.loop-node.report.items c.match-branch-2.report.items _
            c.loop-node-test.true c.node-item.is (sym w.in-Some.is ∙ c.in_ok-value.ensures)
            (items_same c.match-branch-2.report w.lines_of.new.report w.report-is
            ∙ w.in_ok-children-in-Some.ensures.report
            ∙ ap (λ (ms : List Node). c.loop-node.report.items ++ dangling place (forest_of (trees_of ms)))
            w.deref.ensures.value) c.loop-node.invariant.report;
      }
      | in-None+in_ok-push-in-None w ↦ record {
        have = h.1;
        low = low.1;
        fewer = less.1;
        lines = ap (λ ls. ls ++ lines_below place (from ns (i + 1)))
            (items_same c.match-branch-2.lines c.loop-node.lines w.lines-is)
            ∙ line_left place ns i n c.loop-node.lines.items _ c.loop-node-test.true c.node-item.is
            (sym w.in-None.is ∙ c.in_ok-value.ensures) c.loop-node.invariant.lines;
        report = report_left place ns i n c.loop-node.report.items c.match-branch-2.report.items _ c.loop-node-test.true
            c.node-item.is (sym w.in-None.is ∙ c.in_ok-value.ensures)
            (items_same c.match-branch-2.report w.push-in-None.new.self w.report-is
            ∙ w.in_ok-push-in-None.ensures.items) c.loop-node.invariant.report;
      }
    ]
