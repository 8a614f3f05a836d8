use Rattle.std.proofs.Common.{◌≡◌, ◌||◌, ◌==◌, ◌∷◌, true, false, ℕ, Bool, sym, ap, ◌∙◌}
use Rattle.std.specs.Ordering.{nat_cmp}
use Rattle.std.specs.BTreeSet.{contains}
use Rattle.record_kinds.specs.Model as model
use Rattle.record_shapes.specs.Forms.{number_of}
use Rattle.record_shapes.specs.Fields.{a_citation, a_member, an_event, family_field, is_same}
use Rattle.node_reading.specs.Owners.{family_with}
use Rattle.node_reading.proofs.Families.{family_carried, family_joined, ok_then}
use Rattle.node_reading.proofs.owners.take_family_line.Goals as goal
use Rattle.list_laws.proofs.Booleans.{not_true}

pub returns-then-not-is_same : goal.returns-then-not-is_same
returns-then-not-is_same c = λ known ts e owned.
    let seen : ℕ → Bool = contains nat_cmp c.args.seen.now in
    let old : model.Family = record {
      partners = c.family.inside.partners.items;
      children = c.family.inside.children.items;
      carried = c.family.inside.carried.items;
    } in
    let member : is_same (family_field known c.args.line) a_member ≡ false =
    ap (λ y. is_same y a_member) (sym e) ∙ sym c.is_same.ensures ∙ c.if-not-is_same.true in
    ap (λ l. family_with known seen (record { partners = old.partners; children = old.children; carried = l }) ts)
    c.in_ok-push.ensures.items
    ∙ family_carried known seen old c.args.line
    (ap (λ y. is_same y an_event || is_same y a_citation) (sym e) ∙ owned) member ts
    ∙ ap (λ (x : model.Family). family_with known seen x (c.args.line ∷ ts)) c.family.view_is

pub returns : goal.returns
returns c = ok_then c.take_member.result c.take_member.ensures (λ made known ts e owned.
    let before : ℕ → Bool = contains nat_cmp c.args.seen.now in
    let after : ℕ → Bool = contains nat_cmp c.is_new.new.seen in
    let member : is_same (family_field known c.args.line) a_member ≡ true =
    ap (λ y. is_same y a_member) (sym e) ∙ sym c.is_same.ensures ∙ c.if-not-is_same.false in
    let named : c.number_of.result ≡ number_of c.args.line = c.number_of.ensures in
    ap (λ (f : model.Family). family_with known after f ts) made
    ∙ family_joined known before c.args.family.now c.args.line after
    (λ n. c.in_ok-is_new.ensures.seen n ∙ ap (λ k. k == n || before n) named)
    member (ap before (sym named) ∙ not_true (before c.number_of.result)
    (sym c.in_ok-is_new.ensures.new ∙ c.if-not-branch.false)) ts)
