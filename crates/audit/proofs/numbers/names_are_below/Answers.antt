use Rattle.std.proofs.Common.{◌&&◌}
use Rattle.std.proofs.lemmas.Bool.Decides.{Decides-at}
use Rattle.archive_state.specs.Sound.{IsNumber}
use Rattle.audit.proofs.Loops.{both_lists}
use Rattle.audit.proofs.numbers.names_are_below.Goals as goal

pub returns : goal.returns
returns c = Decides-at c.both.result (c.has_numbers_below.result && c.new_is_below.result) c.both.ensures
    (both_lists (IsNumber c.args.next) _ _ c.has_numbers_below.result c.new_is_below.result
    c.has_numbers_below.ensures c.new_is_below.ensures)
