use Rattle.std.proofs.Common.{true}
use Rattle.std.specs.Prelude.{string_bytes}
use Rattle.std.proofs.lemmas.Map.Text.{btree_set_updates_text}
use Rattle.gedcom_rules.proofs.Standings.{named_more}
use Rattle.gedcom_rules.proofs.seen.add_name.Goals as goal

pub returns-in_ok-insert : goal.returns-in_ok-insert
returns-in_ok-insert c = λ x. rw c.in-Some.is
    (named_more (string_bytes c.in_ok-from_str.field-0) c.in-Some.name.now x _ _ c.in_ok-from_str.ensures.ok
    (btree_set_updates_text (string_bytes c.in_ok-from_str.field-0) c.args.names.now c.insert.new.self true
    c.in_ok-insert.ensures.updates x))
