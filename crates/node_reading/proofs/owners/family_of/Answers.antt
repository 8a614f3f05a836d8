use Rattle.std.proofs.Common.{rules, ◌≡◌, ◌++◌, ℕ, Bool, ap, ◌∙◌}
use Rattle.std.specs.Prelude.{map}
use Rattle.std.specs.Ordering.{nat_cmp}
use Rattle.std.specs.BTreeSet.{contains}
use Rattle.std.specs.Vec.Iter.{into_iter_items}
use Rattle.record_shapes.specs.Forms.{Known}
use Rattle.record_shapes.specs.Fields.{family_field}
use Rattle.node_reading.specs.Owners.{family_with, owned_on, owned_tree}
use Rattle.node_reading.proofs.Families.{family_begun}
use Rattle.node_reading.proofs.owners.family_of.Goals as goal

pub lines-init : goal.lines-init
lines-init g c =
    let known : Known = g.K.Known.known c.args.known.now in
    let seen : ℕ → Bool = contains nat_cmp c.new-seen.result in
    let lines : into_iter_items c.into_iter-line-iterator.result ≡ c.args.lines.items = search rules in
    record {
      own = (λ i. family_with known seen (record {
        partners = c.new.ensures.items i;
        children = c.new-2.ensures.items i;
        carried = c.new-3.ensures.items i;
      }) (lines i)) ∙ family_begun known seen c.args.lines.items
          (λ n. ap (λ ks. contains nat_cmp (record { keys = ks }) n) c.new-seen.ensures.empty);
      owned = ap (λ os. map owned_tree os ++ owned_on known (family_field known)
          (into_iter_items c.into_iter-line-iterator.result)) c.new-4.ensures.items
          ∙ ap (λ ts. owned_on known (family_field known) ts) lines;
    }
