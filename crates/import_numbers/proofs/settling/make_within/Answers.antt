use Rattle.std.proofs.Common.{◌∙◌}
use Rattle.import_numbers.proofs.Cutting.{path_is_plain}
use Rattle.import_numbers.proofs.settling.make_within.Goals as goal

pub make-requires : goal.make-requires
make-requires c = path_is_plain c.args.part.now c.as_str.result.now (c.as_str.ensures.value ∙ c.in_ok-name.ensures)
    c.requires
