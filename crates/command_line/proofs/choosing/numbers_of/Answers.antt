use Rattle.std.proofs.Common.{◌∙◌, sym, true}
use Rattle.command_line.specs.Meanings.{is_number, numbers_in}
use Rattle.command_line.proofs.Telling.{one_passes, one_word}
use Rattle.command_line.proofs.choosing.numbers_of.Goals as goal

pub loop-word-preserved : goal.loop-word-preserved
loop-word-preserved c = record {
  numbers = one_word (λ w. w.now) numbers_in c.args.words.now c.loop-word.word-index _ c.loop-word.numbers.items
      c.is_put.new.numbers.items _ c.loop-word-test.true c.loop-word.invariant.numbers c.in_ok-is_put.ensures.numbers;
  given = one_passes (λ w. w.now) is_number c.args.words.now c.loop-word.word-index _ _ true
      c.loop-word-test.true c.loop-word.invariant.given (sym c.if-not-branch.false ∙ c.in_ok-is_put.ensures.given);
}
