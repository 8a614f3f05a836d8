use Rattle.std.proofs.lemmas.Map.Text.{btree_map_updates_text}
use Rattle.std.specs.Prelude.{string_bytes, Some}
use Rattle.import_definitions.specs.Views.{kept_at}
use Rattle.import_definitions.proofs.Places.{first_put}
use Rattle.import_definitions.proofs.roots.add_place.Goals as goal

pub returns-in_ok-insert : goal.returns-in_ok-insert
returns-in_ok-insert c =
    first_put (kept_at c.args.places.now) (kept_at c.insert.new.self) c.args.name.now
    (string_bytes c.in_ok-from_str.field-0) c.args.at (c.in_ok-from_str.ensures.ok) c.if-not-contains_key.ensures
    (btree_map_updates_text (string_bytes c.in_ok-from_str.field-0) c.args.places.now c.insert.new.self (Some c.args.at)
    c.in_ok-insert.ensures.updates)
