use Rattle.std.proofs.Common.{◌≡◌, drop, map}
use Rattle.std.specs.Prelude.{fold}
use Rattle.clap.specs.Words.{app_of, with_subcommand}
use Rattle.command_line.specs.Described.{shape_described}
use Rattle.command_line.proofs.subcommands.with_commands.Given as goal

-- the commands so far and those that are left are all of them
abbrev pub invariant-loop-row : goal.invariant-loop-row
invariant-loop-row l = fold with_subcommand (app_of l.command) (map shape_described (drop l.row-index l.rows))
    ≡ fold with_subcommand (app_of l.fn.command) (map shape_described l.rows)
