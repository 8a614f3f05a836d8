use Rattle.std.proofs.Common.{◌≡◌, ◌∙◌, ◌↔◌, subst}
use Rattle.std.specs.Prelude.{IsTrue}
use Rattle.records.specs.Stored.{stored}
use Rattle.field_changes.proofs.Stored.{same_if_stored}
use Rattle.field_changes.proofs.changing.has_same_lines.Goals as goal

pub returns : goal.returns
returns c = same_if_stored c.args.one.now c.args.other.now c.are_same.result
    (subst (λ x. IsTrue c.are_same.result ↔ (x ≡ stored c.args.other.now))
    (c.deref.ensures.value ∙ c.in_ok-a.ensures.kept)
    (subst (λ y. IsTrue c.are_same.result ↔ (c.deref.result.now ≡ y))
    (c.deref-2.ensures.value ∙ c.in_ok-b.ensures.kept) c.are_same.ensures))
