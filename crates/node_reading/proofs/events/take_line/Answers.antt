use Rattle.std.proofs.Common.{◌≡◌, true, false, sym, ap, ◌∙◌}
use Rattle.record_shapes.specs.Fields.{a_citation, a_date, a_participant, a_place, event_field, is_same}
use Rattle.node_reading.proofs.Picked.{is_first}
use Rattle.node_reading.specs.Drafts.{EventTold, event_with, seen}
use Rattle.node_reading.proofs.EventLines.{citation_pushed, line_carried}
use Rattle.node_reading.proofs.events.take_line.Goals as goal

pub returns-then-is_same-2 : goal.returns-then-is_same-2
returns-then-is_same-2 c = λ known ts e n.
    let here : is_same (event_field known c.args.line) a_citation ≡ true =
    ap (λ y. is_same y a_citation) (sym e) ∙ sym c.is_same-2.ensures ∙ c.if-is_same-2.true in
    citation_pushed known c.args.line ts (seen c.args.told.now) c.args.told.now.parts.items _ _
    c.in_ok-push-2.ensures.items c.in_ok-citation_of.ensures here

pub returns : goal.returns
returns c = λ known ts e n.
    let told : EventTold = seen c.args.told.now in
    let date : is_first (event_field known c.args.line) a_date told.date ≡ false =
    ap (λ y. is_first y a_date told.date) (sym e) ∙ sym c.is_first.ensures ∙ c.if-is_first.false in
    let participant : is_same (event_field known c.args.line) a_participant ≡ false =
    ap (λ y. is_same y a_participant) (sym e) ∙ sym c.is_same.ensures ∙ c.if-is_same.false in
    let citation : is_same (event_field known c.args.line) a_citation ≡ false =
    ap (λ y. is_same y a_citation) (sym e) ∙ sym c.is_same-2.ensures ∙ c.if-is_same-2.false in
    let place : is_same (event_field known c.args.line) a_place ≡ false = ap (λ y. is_same y a_place) (sym e) ∙ n in
    ap (λ l. event_with known (record {
      date = told.date;
      place = told.place;
      participants = told.participants;
      carried = l;
      path = told.path;
      drafts = told.drafts;
    }) ts) c.in_ok-push-3.ensures.items ∙ line_carried known c.args.line ts told date participant citation place
