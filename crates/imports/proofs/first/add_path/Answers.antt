use Rattle.std.proofs.Common.{sym, ap, ◌∙◌}
use Rattle.std.specs.Prelude.{option_map, string_bytes}
use Rattle.import_numbers.specs.Views.{under}
use Rattle.imports.specs.Firsts.{with_path}
use Rattle.imports.proofs.Positions.{path_none, put_on}
use Rattle.imports.proofs.first.add_path.Goals as goal

pub returns-in-Some : goal.returns-in-Some
returns-in-Some c = put_on (under c.args.places.now) (under c.add_place.new.places) (string_bytes c.in-Some.path)
    c.as_str.result.now (option_map string_bytes c.args.path.now) c.args.at c.add_place.result c.as_str.ensures.value
    (ap (option_map string_bytes) c.in-Some.is) c.add_place.ensures

pub returns-in-None : goal.returns-in-None
returns-in-None c = λ q. path_none (under c.args.places.now) c.args.at q
    ∙ ap (λ p. with_path (under c.args.places.now) p c.args.at q) (sym (ap (option_map string_bytes) c.in-None.is))
