use Rattle.std.proofs.Common.{◌≡◌, refl, subst, sym, ◌∙◌}
use Rattle.std.specs.Vec.{with_items}
use Rattle.record_kinds.specs.Model as model
use Rattle.file_records.specs.Carried.{child_told, line_kept, partner_told, AreFew}
use Rattle.file_records.proofs.Loops.{refilled}
use Rattle.file_records.proofs.FamilySides.{few_sides, sides_of}
use Rattle.file_records.proofs.FamilyWhole.{whole_told}
use Rattle.file_records.proofs.families.with_sides.Goals as goal
use Rattle.list_laws.proofs.Outcomes.{on_ok_more}

pub add_late-requires : goal.add_late-requires
add_late-requires c =
    let ks = c.args.roots.now in
    let k = c.args.position in
    let own : c.sides_in-own.result.now ≡ sides_of ks k = c.sides_in-own.ensures c.requires.sides.ascends
    ∙ c.requires.sides.same k in
    record { few = subst AreFew (sym own) (few_sides ks k c.requires.few) }

pub returns : goal.returns
returns c =
    let ks = c.args.roots.now in
    let k = c.args.position in
    let before : model.Family = record {
      partners = c.family.inside.partners.items;
      children = c.family.inside.children.items;
      carried = c.family.inside.carried.items;
    } in
    let lines = line_kept c.in_ok-lines.lines in
    let partners = with_items c.family.inside.partners c.put_sides.new.members in
    let children = with_items c.family.inside.children c.put_sides-2.new.members in
    let after : model.Family = record {
      partners = partners.items;
      children = c.add_late.new.children.items;
      carried = c.family.inside.carried.items;
    } in
    let seen : c.args.family.now ≡ before = sym c.family.view_is in
    on_ok_more (λ so. whole_told ks k c.requires.kind c.args.family.now c.requires.read before seen
    c.sides_in-own.result.now (c.sides_in-own.ensures c.requires.sides.ascends ∙ c.requires.sides.same k)
    lines c.in_ok-lines.ensures after children.items
    (refilled c.family.inside.partners c.put_sides.new.members c.deref_mut.result.now (partner_told ks lines)
    c.in_ok-put_sides.ensures c.deref_mut.ensures.value)
    (refilled c.family.inside.children c.put_sides-2.new.members c.deref_mut-2.result.now (child_told ks lines)
    c.in_ok-put_sides-2.ensures c.deref_mut-2.ensures.value)
    so refl) c.add_late.result c.add_late.ensures
