use Rattle.std.proofs.Common.{◌≡◌, true, cond, subst}
use Rattle.std.specs.BTreeSet.{contains_text}
use Rattle.std.specs.Str.{bytes_eq}
use Rattle.std.specs.Prelude.{string_bytes}
use Rattle.std.proofs.lemmas.Map.Text.{btree_set_updates_text}
use Rattle.imports.specs.Keys.{key_words}
use Rattle.imports.proofs.keys.see.Goals as goal
use Rattle.list_laws.proofs.Bytes.{added}

pub returns-clause-keys : goal.returns-clause-keys
returns-clause-keys c = λ x. added x (key_words c.args.entry.now) (contains_text c.insert.new.self x)
    (contains_text c.args.keys.now x)
    (subst (λ w. contains_text c.insert.new.self x ≡ cond (bytes_eq w x) true (contains_text c.args.keys.now x))
    c.in_ok-words.ensures
    (btree_set_updates_text (string_bytes c.in_ok-words.words) c.args.keys.now c.insert.new.self true
    c.in_ok-added.ensures.updates x))
