use Rattle.std.proofs.Common.{◌<◌, ◌++◌, length, sym, ap, ◌∙◌, append-nil, arith}
use Rattle.std.proofs.lemmas.Grind.{common_steps}
use Rattle.searching.proofs.Folds.{kept_more, kept_nil}
use Rattle.searching.proofs.folding.push_all.Goals as goal

pub each-init : goal.each-init
each-init c = sym (ap (λ l. c.args.out.now.items ++ l) kept_nil ∙ append-nil c.args.out.now.items)

pub each-preserved : goal.each-preserved
each-preserved c =
    let less : c.each.letter-index < length c.args.letters.now = grind (arith, common_steps) in
    kept_more c.args.out.now.items c.each.out.items c.push_folded.new.out.items c.args.letters.now c.each.letter-index
    c.letter-item.result less c.letter-item.is c.each.invariant c.in_ok-push_folded.ensures
