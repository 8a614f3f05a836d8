use Rattle.std.proofs.Common.{◌<◌, ◌≤◌, ◌++◌, length, ap, ◌∙◌, arith}
use Rattle.std.proofs.lemmas.Grind.{common_steps}
use Rattle.std.proofs.lemmas.Result.{on_ok_weaker}
use Rattle.searching.specs.Folding.{kept}
use Rattle.searching.proofs.Folds.{letters_itself, letters_made}
use Rattle.searching.proofs.folding.push_letters.Goals as goal

pub returns-then-is_empty : goal.returns-then-is_empty
returns-then-is_empty c =
    let none : length c.plain_letters-letters.result.now < 1 = grind (arith, common_steps) in
    on_ok_weaker c.push_folded.result (λ e. e ∙ ap (λ l. c.args.out.now.items ++ kept l)
    (letters_itself c.args.c c.plain_letters-letters.result.now c.plain_letters-letters.ensures none))
    c.push_folded.ensures

pub returns : goal.returns
returns c =
    let some : 1 ≤ length c.plain_letters-letters.result.now = grind (arith, common_steps) in
    on_ok_weaker c.push_all.result (λ e. e ∙ ap (λ l. c.args.out.now.items ++ kept l)
    (letters_made c.args.c c.plain_letters-letters.result.now c.plain_letters-letters.ensures some))
    c.push_all.ensures
