use Rattle.std.proofs.Common.{length, refl, sym}
use Rattle.std.proofs.lemmas.Bool.{ltb-true}
use Rattle.std.proofs.lemmas.Option.{slice_get_past, slice_get_read}
use Rattle.imports.proofs.Among.{line_nowhere, line_there}
use Rattle.imports.proofs.checking.line_at.Goals as goal

pub returns-in-Some : goal.returns-in-Some
returns-in-Some c = line_there c.nodes.result.now c.args.roots.now c.args.position c.in-Some.node.now
    c.nodes.ensures.same (slice_get_read c.nodes.result.now (length c.nodes.result.now) c.args.position
    c.in-Some.node.now refl
    (ltb-true c.args.position (length c.nodes.result.now) (sym c.in-Some.ensures.lookup.0))
    c.in-Some.ensures.lookup.1)

pub returns-in-None : goal.returns-in-None
returns-in-None c = line_nowhere c.nodes.result.now c.args.roots.now c.args.position c.nodes.ensures.same
    (slice_get_past c.nodes.result.now c.args.position c.in-None.ensures.lookup.3)
