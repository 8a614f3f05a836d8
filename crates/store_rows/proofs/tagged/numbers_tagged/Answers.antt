use Rattle.std.proofs.Common.{rules, ◌==◌, ◌∙◌, ◌∷◌, [], Ok, ap, filter}
use Rattle.std.specs.List.{list_any}
use Rattle.store_rows.proofs.Seen.{sees_later, sees_not}
use Rattle.store_rows.proofs.TaggedNumbers.{sees_beside, tagged_numbers}
use Rattle.store_rows.proofs.tagged.numbers_tagged.Goals as goal

pub returns-in_err-numbers-clause-sees : goal.returns-in_err-numbers-clause-sees
returns-in_err-numbers-clause-sees g c =
    sees_later c.from_residual-in_err-numbers.result c.in_ok-tagged.ensures.looks
    (sees_not c.from_residual-in_err-numbers.result (search rules) c.in_err-numbers.ensures.sees)

pub returns-clause-sees : goal.returns-clause-sees
returns-clause-sees g c =
    sees_beside (Ok _) c.in_ok-tagged.ensures.looks c.in_ok-numbers.ensures.sees
    (λ rows are content means is.
    let found = c.in_ok-among.ensures in
    found.2 ∙ ap (filter found.0) (c.deref.ensures.value ∙ is)
    ∙ tagged_numbers (c.args.one.now ∷ c.args.two.now ∷ c.args.three.now ∷ c.args.four.now ∷ c.args.five.now ∷ []) rows
    content c.in_ok-tagged.tagged.items found.0 means are
    (λ n. found.1 n ∙ ap (list_any (λ k. k == n)) c.deref-2.ensures.value)) tt
