use Rattle.std.proofs.Common.{◌≡◌, ◌∙◌, Err, List, ap, map, rules, subst, sym}
use Rattle.std.specs.Prelude.{Option}
use Rattle.std.specs.List.{flat_map}
use Rattle.std.specs.FinMap.{get}
use Rattle.record_kinds.specs.Model as model
use Rattle.record_kinds.specs.declared.record.Record.{Record}
use Rattle.plain_export.specs.Added.{add, associations, note_of}
use Rattle.plain_export.specs.Firsts.{persons_of}
use Rattle.plain_export.specs.Fitting.{AddedFit}
use Rattle.plain_export.proofs.Failing.{added_back, added_front, fails_by, weaker}
use Rattle.plain_export.proofs.events.add_event.Goals as goal

pub returns-in_err-add_notes-clause-refused : goal.returns-in_err-add_notes-clause-refused
returns-in_err-add_notes-clause-refused c =
    let m = c.args.state.now.records in
    let e = c.args.event.now in
    let noted = λ (p : model.Participant). add c.args.number (note_of m p) in
    let those = c.deref.ensures.value ∙ ap (λ (x : model.Event). x.participants) c.event.view_is in
    let same : c.from_residual.result ≡ Err c.in_err-add_notes.field-0.0 = search rules in
    rw same (weaker _
    (λ whole. subst (λ (ps : List model.Participant). AddedFit (map noted ps)) (sym those)
    (added_front (map noted e.participants) (flat_map (associations m e) (persons_of e.owner (get m e.owner))) whole))
    c.in_err-add_notes.ensures.refused)

pub returns-clause-refused : goal.returns-clause-refused
returns-clause-refused c =
    let m = c.args.state.now.records in
    let e = c.args.event.now in
    let noted = λ (p : model.Participant). add c.args.number (note_of m p) in
    let owner = c.record.ensures ∙ ap (λ (x : model.Event). get m x.owner) c.event.view_is in
    fails_by c.add_to_owner.result
    (λ whole. subst (λ (o : Option Record). AddedFit (flat_map (associations m e) (persons_of e.owner o))) (sym owner)
    (added_back (map noted e.participants) (flat_map (associations m e) (persons_of e.owner (get m e.owner))) whole))
    c.add_to_owner.ensures.refused
