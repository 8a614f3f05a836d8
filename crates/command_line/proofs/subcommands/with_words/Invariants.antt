use Rattle.std.proofs.Common.{◌≡◌, drop, map}
use Rattle.std.specs.Prelude.{fold}
use Rattle.clap.specs.Words.{app_of, with_rule}
use Rattle.clap.specs.declared.builder.command.Command.TheViews.{out-Command}
use Rattle.command_line.specs.Described.{rule_described}
use Rattle.command_line.proofs.subcommands.with_words.Given as goal

-- the words so far and those that are left are all of them
abbrev pub invariant-loop-word : goal.invariant-loop-word
invariant-loop-word l = record {
  told : fold with_rule (app_of l.command) (map rule_described (drop l.word-index l.words))
      ≡ fold with_rule (app_of l.fn.command) (map rule_described l.words);
  local : (out-Command l.command).has_globals ≡ (out-Command l.fn.command).has_globals;
}
