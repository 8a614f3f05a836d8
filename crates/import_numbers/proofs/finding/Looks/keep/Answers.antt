use Rattle.std.proofs.lemmas.Map.Text.{btree_map_updates_text}
use Rattle.std.specs.Prelude.{string_bytes, Some}
use Rattle.import_numbers.specs.Views.{under}
use Rattle.import_numbers.proofs.Kept.{kept}
use Rattle.import_numbers.proofs.finding.Looks.keep.Goals as goal

pub returns : goal.returns
returns c = kept c.args.path.now (string_bytes c.in_ok-key.key) (under c.args.self.now.found) (under c.insert.new.self)
    (Some c.args.found) c.in_ok-key.ensures.ok
    (btree_map_updates_text (string_bytes c.in_ok-key.key) c.args.self.now.found c.insert.new.self (Some c.args.found)
    c.in_ok-insert.ensures.updates)
