use Rattle.std.proofs.Common.{sym, ◌∙◌, map}
use Rattle.std.specs.Prelude.{string_bytes}
use Rattle.import_definitions.specs.Nodes.{tree_of}
use Rattle.import_definitions.specs.Lines.{place_in, roots}
use Rattle.file_records.specs.KnownViews.{path_said}
use Rattle.file_records.proofs.Behind.{place_is}
use Rattle.file_records.proofs.reading.path_of.Goals as goal

pub returns-in_ok-place_path : goal.returns-in_ok-place_path
returns-in_ok-place_path c = place_is (roots c.args.roots.now) (map path_said c.args.before.now)
    (place_in c.args.roots.now) (tree_of c.args.node.now) (string_bytes c.in_ok-place_path.field-0)
    (sym c.is_place.ensures ∙ c.if-is_place.true) c.in_ok-place_path.ensures
