use Rattle.std.proofs.Common.{[], sym, ◌∙◌}
use Rattle.entry_reading.proofs.comparing.is_loc_alone.Goals as goal

pub returns-in-Some : goal.returns-in-Some
returns-in-Some c = c.is_end.ensures ∙ sym (c.in-Some.ensures [])

pub returns-in-None : goal.returns-in-None
returns-in-None c = sym (c.in-None.ensures [])
