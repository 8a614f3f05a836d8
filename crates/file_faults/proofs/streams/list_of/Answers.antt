use Rattle.std.proofs.Common.{sym, ◌∙◌}
use Rattle.file_faults.proofs.Fronts.{sound_first}
use Rattle.file_faults.proofs.streams.list_of.Goals as goal

pub returns-in-Sound : goal.returns-in-Sound
returns-in-Sound c = c.new.ensures.items
    ∙ sym (sound_first c.args.bytes.now c.args.checked c.in-Sound.field-0 c.in-Sound.is c.requires)
