use Rattle.std.proofs.Common.{◌≡◌, ◌∙◌, ◌++◌, ◌∷◌, [], ℕ, List, Vec}
use Rattle.std.proofs.Common.{true, false, filter, cond, take, get_or, ap, sym, append-nil}
use Rattle.std.specs.BTreeSet as set
use Rattle.std.specs.Global.{Global}
use Rattle.std.specs.Ordering.{nat_cmp}
use Rattle.std.proofs.lemmas.List.{take_more}
use Rattle.std.proofs.lemmas.List.Elements.{filter-append}
use Rattle.store_rows.proofs.tagged.chosen.Goals as goal
use Rattle.store_rows.proofs.tagged.chosen.Goals.{then-contains+in_ok-push, else-contains}

pub numbers-preserved : goal.numbers-preserved
numbers-preserved c =
    let at = c.numbers.number-index in
    let all = c.args.numbers.now in
    let n = get_or all at 0 in
    let has = set.contains nat_cmp c.args.members.now in
    let more = ap (filter has) (take_more all at 0 c.numbers-test.true) ∙ filter-append has (take at all) (n ∷ []) in
    elim c.if-contains.branch [
      | then-contains+in_ok-push w ↦
          let yes : has n ≡ true = sym c.contains.ensures ∙ w.if-contains.true in
          ap (λ (v : Vec ℕ Global). v.items) w.found-is ∙ w.in_ok-push.ensures.items
          ∙ ap (λ (ks : List ℕ). ks ++ n ∷ []) c.numbers.invariant
          ∙ sym (more ∙ ap (λ b. filter has (take at all) ++ cond b (n ∷ []) []) yes)
      | else-contains w ↦
          let no : has n ≡ false = sym c.contains.ensures ∙ w.if-contains.false in
          ap (λ (v : Vec ℕ Global). v.items) w.found-is ∙ c.numbers.invariant
          ∙ sym (more ∙ ap (λ b. filter has (take at all) ++ cond b (n ∷ []) []) no
          ∙ append-nil (filter has (take at all)))
    ]
