use Rattle.std.proofs.Common.{◌∙◌, sym, subst, arith, Ok, Err}
use Rattle.gedcom_line.specs.Line.{IsPiece}
use Rattle.gedcom_rules.specs.Views.{fault_view}
use Rattle.gedcom_rules.proofs.Walks.{or_err}
use Rattle.gedcom_tree.specs.Flat.{flats}
use Rattle.gedcom_tree.proofs.Fed.{
  failed_holds,
  plain_holds,
  reading_piece,
  reading_small,
  read_forest,
  read_few,
  read_finishes,
  read_fault,
  same_rest,
}
use Rattle.gedcom_tree.proofs.reader.TreeReader.finish.Goals as goal

pub returns-in-Some-clause-finished : goal.returns-in-Some-clause-finished
returns-in-Some-clause-finished c =
    λ b h. absurd (failed_holds c.self.inside.lines c.self.inside.rest.items b c.self.inside.total c.self.inside.fault
    c.in-Some.fault c.in-Some.is (c.self.view_is ∙ h))

pub finish-requires-clause-piece : goal.finish-requires-clause-piece
finish-requires-clause-piece c = subst IsPiece (sym c.deref.ensures.value)
    (reading_piece c.self.inside.lines c.self.inside.rest.items c.self.inside.total
    (c.self.invariant.1 c.in_default.is))

pub finish-requires-clause-count : goal.finish-requires-clause-count
finish-requires-clause-count c =
    let r = c.self.invariant.1 c.in_default.is in
    omega (arith, reading_small c.self.inside.lines c.self.inside.rest.items c.self.inside.total r, r.count)

pub of_nodes-requires-clause-forest : goal.of_nodes-requires-clause-forest
of_nodes-requires-clause-forest c =
    let s = c.self.inside in
    read_forest s.lines s.rest.items s.total (flats 0 c.in-Ok.nodes.items) (c.self.invariant.1 c.in_default.is)
    (same_rest s.lines s.rest.items c.deref.result.now s.total (Ok (flats 0 c.in-Ok.nodes.items))
    c.deref.ensures.value (c.in-Ok.ensures s.total))

pub of_nodes-requires-clause-few : goal.of_nodes-requires-clause-few
of_nodes-requires-clause-few c =
    let s = c.self.inside in
    read_few s.lines s.rest.items s.total (flats 0 c.in-Ok.nodes.items) (c.self.invariant.1 c.in_default.is)
    (same_rest s.lines s.rest.items c.deref.result.now s.total (Ok (flats 0 c.in-Ok.nodes.items))
    c.deref.ensures.value (c.in-Ok.ensures s.total))

pub returns-in-Ok-clause-finished : goal.returns-in-Ok-clause-finished
returns-in-Ok-clause-finished c = λ b h.
    let s = c.self.inside in
    let none = c.in_default.is in
    rw c.of_nodes.ensures (read_finishes s.lines s.rest.items b s.total (Ok (flats 0 c.in-Ok.nodes.items))
    (reading_small s.lines s.rest.items s.total (c.self.invariant.1 none))
    (plain_holds s.lines s.rest.items b s.total s.fault none (c.self.view_is ∙ h))
    (same_rest s.lines s.rest.items c.deref.result.now s.total (Ok (flats 0 c.in-Ok.nodes.items))
    c.deref.ensures.value (c.in-Ok.ensures s.total)))

pub returns-clause-finished : goal.returns-clause-finished
returns-clause-finished c = λ b h.
    let s = c.self.inside in
    let none = c.in_default.is in
    read_fault s.lines s.rest.items b s.total (fault_view c.in-Err.fault)
    (reading_small s.lines s.rest.items s.total (c.self.invariant.1 none))
    (plain_holds s.lines s.rest.items b s.total s.fault none (c.self.view_is ∙ h))
    (or_err (same_rest s.lines s.rest.items c.deref.result.now s.total (Err (fault_view c.in-Err.fault))
    c.deref.ensures.value) (c.in-Err.ensures s.total))
