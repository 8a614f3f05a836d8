use Rattle.std.proofs.Common.{refl, sym, ◌∙◌}
use Rattle.std.specs.Prelude.{option_map}
use Rattle.std.specs.List.{filter}
use Rattle.record_shapes.specs.Forms.{Known, number_of}
use Rattle.record_shapes.specs.Picking.{first}
use Rattle.record_shapes.specs.Reading.{is_loc, without}
use Rattle.node_reading.specs.Drafts.{seen}
use Rattle.node_reading.proofs.EventLines.{none_there, sought_pushed}
use Rattle.node_reading.proofs.events.take_place.Goals as goal

pub returns-in_ok-push-in-None : goal.returns-in_ok-push-in-None
returns-in_ok-push-in-None g c = λ ts is said.
    let known : Known = g.K.Known.known c.args.known.now in
    let told = c.args.told.now in
    sought_pushed known c.args.line ts (seen told) told.parts.items _ _ _ _ _
    c.in_ok-push-in-None.ensures.items refl refl
    (none_there told.place (sym c.is_some.ensures ∙ c.if-is_some.false))
    is said
    (c.in_ok-located.ensures.number ∙ (λ i. option_map number_of
    (first (filter (is_loc known (c.as_str.ensures.value i)) (c.into_below.ensures i)))))
    (c.in_ok-located.ensures.carried ∙ (λ i. without (is_loc known (c.as_str.ensures.value i))
    (c.into_below.ensures i)))
    c.in-None.is
