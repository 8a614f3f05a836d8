use Rattle.std.proofs.lemmas.Result.{on_ok_weaker}
use Rattle.searching.specs.Scans.{keys}
use Rattle.searching.proofs.Gathered.{all_gathered}
use Rattle.searching.proofs.search.push_words.Goals as goal

pub returns : goal.returns
returns c = on_ok_weaker c.push_word-2.result (all_gathered (keys c.each.words) (keys c.args.words.now)
    (keys c.push_word-2.new.words) c.each.word.items c.each.rest.now c.args.text.now c.in_default.ensures.cases
    c.each.invariant) c.push_word-2.ensures
