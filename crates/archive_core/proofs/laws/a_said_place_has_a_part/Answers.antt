use Rattle.command_checks.proofs.SaidPaths.{said_by_path}
use Rattle.archive_core.proofs.laws.a_said_place_has_a_part.Goals as goal

pub returns : goal.returns
returns _ c number path h = said_by_path c number path h
