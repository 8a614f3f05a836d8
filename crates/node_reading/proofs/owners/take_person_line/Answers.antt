use Rattle.std.proofs.Common.{◌≡◌, ◌||◌, ◌∷◌, true, false, sym, ap, ◌∙◌}
use Rattle.record_kinds.specs.Model as model
use Rattle.record_shapes.specs.Fields.{a_citation, a_name, a_sex, a_side, an_event, is_same, person_field}
use Rattle.node_reading.proofs.Picked.{is_first}
use Rattle.node_reading.specs.Owners.{person_with}
use Rattle.node_reading.proofs.Persons.{person_carried, person_sex}
use Rattle.node_reading.proofs.owners.take_person_line.Goals as goal

pub returns-then-is_first : goal.returns-then-is_first
returns-then-is_first c = λ known ts e owned.
    let old : model.Person = record {
      names = c.person.inside.names.items;
      sex = c.person.inside.sex;
      carried = c.person.inside.carried.items;
    } in
    let here : is_first (person_field known c.args.line) a_sex old.sex ≡ true =
    ap (λ y. is_first y a_sex old.sex) (sym e) ∙ sym c.is_first.ensures ∙ c.if-is_first.true in
    ap (λ o. person_with known (record { names = old.names; sex = o; carried = old.carried }) ts)
    c.sex_of-person-inside.ensures
    ∙ person_sex known old c.args.line here ts
    ∙ ap (λ (x : model.Person). person_with known x (c.args.line ∷ ts)) c.person.view_is

pub returns : goal.returns
returns c = λ known ts e owned.
    let old : model.Person = record {
      names = c.person.inside.names.items;
      sex = c.person.inside.sex;
      carried = c.person.inside.carried.items;
    } in
    let name : is_same (person_field known c.args.line) a_name ≡ false =
    ap (λ y. is_same y a_name) (sym e) ∙ sym c.is_same.ensures ∙ c.if-is_same.false in
    let sex : is_first (person_field known c.args.line) a_sex old.sex ≡ false =
    ap (λ y. is_first y a_sex old.sex) (sym e) ∙ sym c.is_first.ensures ∙ c.if-is_first.false in
    let side : is_same (person_field known c.args.line) a_side ≡ false =
    ap (λ y. is_same y a_side) (sym e) ∙ sym c.is_same-2.ensures ∙ c.if-is_same-2.false in
    ap (λ l. person_with known (record { names = old.names; sex = old.sex; carried = l }) ts)
    c.in_ok-push-2.ensures.items
    ∙ person_carried known old c.args.line
    (ap (λ y. is_same y an_event || is_same y a_citation) (sym e) ∙ owned) name sex side ts
    ∙ ap (λ (x : model.Person). person_with known x (c.args.line ∷ ts)) c.person.view_is
