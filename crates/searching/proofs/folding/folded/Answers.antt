use Rattle.searching.specs.Folding.{folded}
use Rattle.searching.proofs.Folds.{folded_end, folded_more}
use Rattle.searching.proofs.folding.folded.Goals as goal

pub each-preserved : goal.each-preserved
each-preserved c = folded_more c.each.out.items c.push_letters.new.out.items (folded c.args.characters.now)
    c.each.rest.now c.in-Some.after.now c.in-Some.first c.in-Some.ensures.0 c.in_ok-push_letters.ensures
    c.each.invariant

pub returns : goal.returns
returns c = folded_end c.each.out.items (folded c.args.characters.now) c.each.rest.now c.in_default.ensures
    c.each.invariant
