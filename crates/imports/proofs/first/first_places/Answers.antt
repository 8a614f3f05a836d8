use Rattle.std.proofs.Common.{arith}
use Rattle.std.specs.Prelude.{option_map, string_bytes}
use Rattle.import_numbers.specs.Views.{under}
use Rattle.imports.proofs.Positions.{path_step}
use Rattle.imports.proofs.first.first_places.Goals as goal

pub loop-path-preserved : goal.loop-path-preserved
loop-path-preserved c = record {
  count = omega (arith, c.loop-path.invariant.count);
  places = path_step (option_map string_bytes) c.args.paths.now c.loop-path.path-index c.loop-path.at c.path-item.result
      (under c.loop-path.places) (under c.add_path.new.places) c.loop-path-test.true c.path-item.is
      c.loop-path.invariant.count c.loop-path.invariant.places c.in_ok-add_path.ensures;
}
