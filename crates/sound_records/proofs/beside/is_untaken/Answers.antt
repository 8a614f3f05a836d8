use Rattle.record_rules.specs.Judged.{has_untaken}
use Rattle.sound_records.specs.Knowing.{known_by, known_by_before}
use Rattle.sound_records.proofs.Judged.{if_ok_decides, untaken}
use Rattle.sound_records.proofs.beside.is_untaken.Goals as goal

pub returns : goal.returns
returns c = λ knows. if_ok_decides c.has_untaken.result
    (has_untaken (known_by_before c.args.state.now.records c.args.paths.now c.args.number)
    (known_by c.args.state.now.records c.args.paths.now) c.args.«record».now) c.has_untaken.ensures
    (untaken c.args.state.now.records c.args.paths.now knows c.args.number c.args.«record».now)
