use Rattle.std.proofs.Common.{map, ap, sym, subst, ◌∙◌}
use Rattle.record_shapes.specs.Lists.{EachOf}
use Rattle.import_definitions.specs.Lines.{roots}
use Rattle.import_definitions.specs.Views.{AreInFile}
use Rattle.node_reading.specs.Trees.{draft_tree}
use Rattle.imports.specs.Drafts.{SeeksByPaths}
use Rattle.import_definitions.specs.Positions.{paths, position_of}
use Rattle.file_records.specs.KnownViews.{path_said}
use Rattle.imports.proofs.Counts.{drafts_few, paths_few}
use Rattle.imports.proofs.Parts.{reported}
use Rattle.imports.proofs.reading.reading_of.Goals as goal

pub first_places-requires : goal.first_places-requires
first_places-requires c =
    paths_few c.in_ok-roots.roots path_said c.deref-3.result.now
    (ap (λ ps. map path_said ps) c.deref-3.ensures.value ∙ c.in_ok-paths.ensures) c.in_ok-roots.ensures.few

pub returns-clause-few : goal.returns-clause-few
returns-clause-few c =
    drafts_few c.in_ok-roots.roots draft_tree c.in_ok-drafts.drafts.items c.in_ok-drafts.ensures.drafts
    c.in_ok-roots.ensures.few

pub returns-clause-paths : goal.returns-clause-paths
returns-clause-paths c =
    let ks = c.in_ok-roots.roots in
    subst (EachOf SeeksByPaths) (sym c.in_ok-drafts.ensures.drafts)
    (c.the_drafts_of_a_file_seek_by_paths.ensures ks (subst AreInFile c.roots.view_is c.roots.invariant.in_file))

pub returns-clause-places : goal.returns-clause-places
returns-clause-places c = λ path.
    c.in_ok-places.ensures path
    ∙ ap (λ ps. position_of path 0 (map path_said ps)) c.deref-3.ensures.value
    ∙ ap (λ ps. position_of path 0 ps) c.in_ok-paths.ensures
    ∙ ap (λ ks. position_of path 0 (paths (roots ks))) c.in_ok-roots.ensures.kept

pub returns-clause-report : goal.returns-clause-report
returns-clause-report c =
    reported c.args.forest.now c.in_ok-roots.roots c.new-report.result.items c.few_roots.new.report.items
    c.drafts_in.new.report.items c.put_in_order.new.report.items c.in_ok-roots.ensures.kept c.new-report.ensures.items
    c.in_ok-roots.ensures.report c.in_ok-drafts.ensures.report c.in_ok-put_in_order.ensures
