use Rattle.std.proofs.Common.{◌≡◌, ◌∙◌, ap, arith, ◌++◌, length}
use Rattle.import_definitions.specs.Nodes.{trees_at}
use Rattle.import_definitions.specs.Views.{kept_at}
use Rattle.import_definitions.specs.Roots.{kept, candidates}
use Rattle.import_definitions.specs.Reports.{said_of_roots}
use Rattle.import_definitions.proofs.InFile.{candidates_are, kept_few, kept_in_file}
use Rattle.import_definitions.proofs.Ends.{roots_ends}
use Rattle.import_definitions.proofs.roots.roots_of.Goals as goal

pub places_of-requires : goal.places_of-requires
places_of-requires c =
    let k = candidates_are c.nodes.result.now c.args.forest.now c.in_ok-all.all.items c.nodes.ensures.nodes
    c.nodes.ensures.forest c.nodes.ensures.few c.in_ok-all.ensures in
    omega (arith, k.few, ap length c.deref.ensures.value)

pub sift-requires : goal.sift-requires
sift-requires c =
    let k = candidates_are c.nodes.result.now c.args.forest.now c.in_ok-all.all.items c.nodes.ensures.nodes
    c.nodes.ensures.forest c.nodes.ensures.few c.in_ok-all.ensures in
    roots_ends c.in_ok-all.all.items c.deref.result.now c.deref-2.result.now c.deref-3.result.now
    (kept_at c.in_ok-places.places) c.in_ok-steps.steps.items c.in_ok-ends.ends.items c.deref-4.result.now k.apart
    c.deref.ensures.value c.deref-2.ensures.value c.deref-3.ensures.value c.deref-4.ensures.value c.in_ok-places.ensures
    c.in_ok-steps.ensures c.in_ok-ends.ensures.each c.in_ok-ends.ensures.ends

pub with_places-requires-clause-few : goal.with_places-requires-clause-few
with_places-requires-clause-few c =
    let k = candidates_are c.nodes.result.now c.args.forest.now c.in_ok-all.all.items c.nodes.ensures.nodes
    c.nodes.ensures.forest c.nodes.ensures.few c.in_ok-all.ensures in
    kept_few c.in_ok-all.all.items c.in_ok-found.found.items
    (c.in_ok-found.ensures.kept ∙ ap (λ ns. kept (trees_at ns)) c.deref-3.ensures.value) k.few

pub with_places-requires-clause-in_file : goal.with_places-requires-clause-in_file
with_places-requires-clause-in_file c =
    let k = candidates_are c.nodes.result.now c.args.forest.now c.in_ok-all.all.items c.nodes.ensures.nodes
    c.nodes.ensures.forest c.nodes.ensures.few c.in_ok-all.ensures in
    kept_in_file c.in_ok-all.all.items c.in_ok-found.found.items
    (c.in_ok-found.ensures.kept ∙ ap (λ ns. kept (trees_at ns)) c.deref-3.ensures.value) k.in_file

pub returns : goal.returns
returns c =
    let k = candidates_are c.nodes.result.now c.args.forest.now c.in_ok-all.all.items c.nodes.ensures.nodes
    c.nodes.ensures.forest c.nodes.ensures.few c.in_ok-all.ensures in
    let same : trees_at c.deref-3.result.now ≡ candidates c.args.forest.now = ap trees_at
    c.deref-3.ensures.value ∙ k.are in
    record {
      kept = c.in_ok-roots.ensures ∙ c.in_ok-found.ensures.kept ∙ ap kept same;
      report = c.in_ok-found.ensures.report ∙ ap (λ ts. c.args.report.now.items ++ said_of_roots ts) same;
    }
