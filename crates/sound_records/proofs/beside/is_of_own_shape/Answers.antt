use Rattle.record_rules.specs.Judged.{has_own_shape}
use Rattle.sound_records.specs.Knowing.{known_by}
use Rattle.sound_records.proofs.Judged.{if_ok_decides, shape}
use Rattle.sound_records.proofs.beside.is_of_own_shape.Goals as goal

pub returns : goal.returns
returns c = λ knows. if_ok_decides c.has_own_shape.result
    (has_own_shape (known_by c.args.state.now.records c.args.paths.now) c.args.«record».now) c.has_own_shape.ensures
    (shape c.args.state.now.records c.args.paths.now knows c.args.«record».now)
