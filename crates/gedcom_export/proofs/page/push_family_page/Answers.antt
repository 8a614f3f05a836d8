use Rattle.std.proofs.Common.{◌++◌, ap, string_bytes, ◌∙◌}
use Rattle.stored_lines.specs.Line.{Lines}
use Rattle.record_kinds.specs.Model as model
use Rattle.node_writing.specs.Pages.{page}
use Rattle.gedcom_export.specs.Shown.{names_in}
use Rattle.gedcom_export.proofs.Parted.{family_page}
use Rattle.gedcom_export.proofs.page.push_family_page.Goals as goal

pub returns : goal.returns
returns c = family_page c.args.state.now.records c.args.index.now c.args.number c.args.family.now
    c.events_of.result.now c.citations_of.result.now _ _ _ _ _ _
    (c.events_of.ensures c.requires) (c.citations_of.ensures c.requires)
    c.in_ok-push_head.ensures c.in_ok-push_family.ensures c.in_ok-push_events.ensures
    c.in_ok-push_citations.ensures
    (c.in_ok-push_carried.ensures
    ∙ ap (λ (l : Lines). string_bytes c.push_citations.new.text ++ page (names_in c.args.index.now) 1 l)
    (c.deref.ensures.value ∙ ap (λ (f : model.Family). f.carried) c.family.view_is))
