use Rattle.std.proofs.Common.{◌≡◌, ◌∷◌, false, sym, ap, ◌∙◌}
use Rattle.record_kinds.specs.Model as model
use Rattle.record_shapes.specs.Fields.{a_parent, parent_field}
use Rattle.node_reading.specs.Partly.{place_with}
use Rattle.node_reading.proofs.Picked.{is_first}
use Rattle.node_reading.proofs.Placed.{place_carried}
use Rattle.node_reading.proofs.places.take_place_line.Goals as goal

pub returns : goal.returns
returns c = λ known ts e.
    let old : model.Place = record {
      name = c.place.inside.name;
      parent = c.place.inside.parent;
      carried = c.place.inside.carried.items;
    } in
    let field : c.args.field ≡ parent_field known old.name c.args.line = e
    ∙ ap (λ (x : model.Place). parent_field known x.name c.args.line) (sym c.place.view_is) in
    let parent : is_first (parent_field known old.name c.args.line) a_parent old.parent ≡ false =
    ap (λ y. is_first y a_parent old.parent) (sym field) ∙ sym c.is_first.ensures ∙ c.if-is_first.false in
    ap (λ l. place_with known (record { name = old.name; parent = old.parent; carried = l }) ts)
    c.in_ok-push.ensures.items ∙ place_carried known old c.args.line parent ts
    ∙ ap (λ (x : model.Place). place_with known x (c.args.line ∷ ts)) c.place.view_is
