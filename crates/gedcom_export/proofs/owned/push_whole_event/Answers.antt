use Rattle.std.proofs.Common.{◌++◌, ap, string_bytes, ◌∙◌}
use Rattle.stored_lines.specs.Line.{Lines}
use Rattle.record_kinds.specs.Model as model
use Rattle.node_writing.specs.Pages.{page}
use Rattle.gedcom_export.specs.Shown.{names_in}
use Rattle.gedcom_export.proofs.Parted.{event_page}
use Rattle.gedcom_export.proofs.owned.push_whole_event.Goals as goal

pub returns : goal.returns
returns c = event_page c.args.state.now.records c.args.index.now c.args.number c.args.event.now
    c.citations_of.result.now _ _ _ _
    (c.citations_of.ensures c.requires) c.in_ok-push_event.ensures c.in_ok-push_citations.ensures
    (c.in_ok-push_carried.ensures
    ∙ ap (λ (l : Lines). string_bytes c.push_citations.new.text ++ page (names_in c.args.index.now) 2 l)
    (c.deref.ensures.value ∙ ap (λ (e : model.Event). e.carried) c.event.view_is))
