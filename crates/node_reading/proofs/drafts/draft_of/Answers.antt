use Rattle.std.proofs.Common.{sym, ◌∙◌}
use Rattle.stored_lines.specs.Line.{Line}
use Rattle.record_shapes.specs.Reading.{draft_of}
use Rattle.node_reading.specs.declared.kinds.NodeKind.TheVariants as node_kind
use Rattle.node_reading.proofs.ByKind.{draft_is, ok_as}
use Rattle.node_reading.proofs.drafts.draft_of.Goals as goal

pub returns-in-Place : goal.returns-in-Place
returns-in-Place g c =
    let l : Line = record { tag = c.node.inside.tag; value = c.node.inside.value } in
    ok_as c.place_draft.result
    (draft_of (g.E.Known.known c.args.earlier.now) (g.K.Known.known c.args.known.now) c.args.node) c.place_draft.ensures
    (draft_is (g.E.Known.known c.args.earlier.now) (g.K.Known.known c.args.known.now) c.args.node l
    c.node.inside.children.items node_kind.Place c.node.view_is (sym c.in-Place.is ∙ c.kind_of.ensures))

pub returns-in-Repo : goal.returns-in-Repo
returns-in-Repo g c =
    let l : Line = record { tag = c.node.inside.tag; value = c.node.inside.value } in
    ok_as c.repo_draft.result
    (draft_of (g.E.Known.known c.args.earlier.now) (g.K.Known.known c.args.known.now) c.args.node) c.repo_draft.ensures
    (draft_is (g.E.Known.known c.args.earlier.now) (g.K.Known.known c.args.known.now) c.args.node l
    c.node.inside.children.items node_kind.Repo c.node.view_is (sym c.in-Repo.is ∙ c.kind_of.ensures))

pub returns-in-Source : goal.returns-in-Source
returns-in-Source g c =
    let l : Line = record { tag = c.node.inside.tag; value = c.node.inside.value } in
    ok_as c.source_draft.result
    (draft_of (g.E.Known.known c.args.earlier.now) (g.K.Known.known c.args.known.now) c.args.node)
    c.source_draft.ensures
    (draft_is (g.E.Known.known c.args.earlier.now) (g.K.Known.known c.args.known.now) c.args.node l
    c.node.inside.children.items node_kind.Source c.node.view_is (sym c.in-Source.is ∙ c.kind_of.ensures))

pub returns-in-Person : goal.returns-in-Person
returns-in-Person g c =
    let l : Line = record { tag = c.node.inside.tag; value = c.node.inside.value } in
    ok_as c.person_draft.result
    (draft_of (g.E.Known.known c.args.earlier.now) (g.K.Known.known c.args.known.now) c.args.node)
    c.person_draft.ensures
    (draft_is (g.E.Known.known c.args.earlier.now) (g.K.Known.known c.args.known.now) c.args.node l
    c.node.inside.children.items node_kind.Person c.node.view_is (sym c.in-Person.is ∙ c.kind_of.ensures))

pub returns-in-Family : goal.returns-in-Family
returns-in-Family g c =
    let l : Line = record { tag = c.node.inside.tag; value = c.node.inside.value } in
    ok_as c.family_draft.result
    (draft_of (g.E.Known.known c.args.earlier.now) (g.K.Known.known c.args.known.now) c.args.node)
    c.family_draft.ensures
    (draft_is (g.E.Known.known c.args.earlier.now) (g.K.Known.known c.args.known.now) c.args.node l
    c.node.inside.children.items node_kind.Family c.node.view_is (sym c.in-Family.is ∙ c.kind_of.ensures))

pub returns-in-Other : goal.returns-in-Other
returns-in-Other g c =
    let l : Line = record { tag = c.node.inside.tag; value = c.node.inside.value } in
    ok_as c.other_draft.result
    (draft_of (g.E.Known.known c.args.earlier.now) (g.K.Known.known c.args.known.now) c.args.node) c.other_draft.ensures
    (draft_is (g.E.Known.known c.args.earlier.now) (g.K.Known.known c.args.known.now) c.args.node l
    c.node.inside.children.items node_kind.Other c.node.view_is (sym c.in-Other.is ∙ c.kind_of.ensures))
