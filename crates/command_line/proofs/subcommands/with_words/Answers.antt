use Rattle.std.proofs.Common.{◌∙◌, ap}
use Rattle.clap.specs.Words.{app_of, with_rule}
use Rattle.command_line.specs.Described.{rule_described}
use Rattle.command_line.proofs.Telling.{one_more, still}
use Rattle.command_line.proofs.subcommands.with_words.Goals as goal

pub loop-word-preserved : goal.loop-word-preserved
loop-word-preserved c = record {
  told = one_more with_rule rule_described c.args.words.now c.loop-word.word-index _ (app_of c.loop-word.command)
      (app_of c.in_ok-command.command) _ c.loop-word-test.true c.loop-word.invariant.told
      (c.in_ok-command.ensures.shape c.arg_of.ensures.local
      ∙ ap (with_rule (app_of c.loop-word.command)) c.arg_of.ensures.rule);
  local = c.in_ok-command.ensures.globals ∙ (still _ _ c.arg_of.ensures.local ∙ c.loop-word.invariant.local);
}
