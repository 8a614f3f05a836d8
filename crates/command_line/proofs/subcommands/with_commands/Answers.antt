use Rattle.std.proofs.Common.{◌∙◌, ap}
use Rattle.clap.specs.Words.{app_of, with_subcommand}
use Rattle.command_line.specs.Described.{shape_described}
use Rattle.command_line.proofs.Telling.{one_more}
use Rattle.command_line.proofs.subcommands.with_commands.Goals as goal

pub loop-row-preserved : goal.loop-row-preserved
loop-row-preserved c =
    one_more with_subcommand shape_described c.args.rows.now c.loop-row.row-index _ (app_of c.loop-row.command)
    (app_of c.in_ok-command.command) _ c.loop-row-test.true c.loop-row.invariant
    (c.in_ok-command.ensures.shape c.in_ok-command_of.ensures.local
    ∙ ap (with_subcommand (app_of c.loop-row.command)) c.in_ok-command_of.ensures.shape)
