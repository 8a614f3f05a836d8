use Rattle.std.proofs.Common.{string_bytes}
use Rattle.std.proofs.lemmas.Map.Text.{btree_map_updates_text}
use Rattle.std.specs.Prelude.{Some}
use Rattle.plain_export.proofs.firsts.put_number.Goals as goal

pub returns : goal.returns
returns c = btree_map_updates_text (string_bytes c.args.key) c.args.numbers.now c.insert.new.self
    (Some c.args.number) c.in_ok-insert.ensures.updates
