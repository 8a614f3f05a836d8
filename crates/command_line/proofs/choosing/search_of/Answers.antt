use Rattle.std.proofs.Common.{◌∙◌, sym, true}
use Rattle.command_line.specs.Meanings.{is_searched, search_words}
use Rattle.command_line.proofs.Telling.{one_passes, one_word}
use Rattle.command_line.proofs.choosing.search_of.Goals as goal

pub loop-word-preserved : goal.loop-word-preserved
loop-word-preserved c = record {
  words = one_word (λ w. w.now) search_words c.args.words.now c.loop-word.word-index _ c.loop-word.search
      c.added.new.search _ c.loop-word-test.true c.loop-word.invariant.words c.in_ok-added.ensures.words;
  searched = one_passes (λ w. w.now) is_searched c.args.words.now c.loop-word.word-index _ _ true
      c.loop-word-test.true c.loop-word.invariant.searched
      (sym c.if-not-branch.false ∙ c.in_ok-added.ensures.some);
}
