use Rattle.std.proofs.Common.{ap, refl, subst, ◌∙◌, ℕ}
use Rattle.std.proofs.lemmas.Map.Text.{btree_map_updates_text}
use Rattle.std.specs.Prelude.{IsSome, Option, Some}
use Rattle.std.specs.BTreeMap.{get_by_text}
use Rattle.std.specs.Global.{Vec}
use Rattle.expected_answers.specs.Expected.{rest}
use Rattle.expected_answers.proofs.Left.{changed, texts_of}
use Rattle.expected_answers.proofs.expected.Expected.take.Goals as goal

pub returns-in-Some : goal.returns-in-Some
returns-in-Some c =
    let m = c.args.self.now.texts in
    let w = c.take.new.stack in
    let n = c.get_mut.follows.lender w in
    let token = c.args.token.now in
    changed rest (get_by_text m) (get_by_text n) token token w refl
    (btree_map_updates_text token m n (Some w)
    ((c.get_mut.follows.holds w).3 (subst (λ (o : Option (Vec (Vec ℕ))). IsSome o) c.in-Some.ensures.value refl)))
    (c.take.ensures ∙ ap (λ (o : Option (Vec (Vec ℕ))). rest (texts_of o)) c.in-Some.ensures.value)
