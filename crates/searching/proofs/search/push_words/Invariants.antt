use Rattle.std.proofs.Common.{◌≡◌, ◌++◌, [], length}
use Rattle.searching.specs.Scans.{keys, words_from}
use Rattle.searching.proofs.search.push_words.Given as goal

-- what is there, with what is still to come, is all
abbrev pub invariant-each : goal.invariant-each
invariant-each l = keys l.words ++ words_from l.word.items l.rest ≡ keys l.fn.words ++ words_from [] l.text

abbrev pub decreases-each : goal.decreases-each
decreases-each l = length l.rest
