use Rattle.std.proofs.Common.{◌≡◌, true, cond, subst}
use Rattle.std.specs.BTreeSet.{contains_text}
use Rattle.std.specs.Str.{bytes_eq}
use Rattle.std.specs.Prelude.{string_bytes}
use Rattle.std.proofs.lemmas.Map.Text.{btree_set_updates_text}
use Rattle.list_laws.proofs.Bytes.{added}
use Rattle.page_answers.specs.Keys.{key_words}
use Rattle.page_answers.proofs.keys.see_key.Goals as goal

pub returns-clause-added : goal.returns-clause-added
returns-clause-added c = λ x. added x (key_words c.args.key.now) (contains_text c.insert.new.self x)
    (contains_text c.args.seen.now x)
    (subst (λ w. contains_text c.insert.new.self x ≡ cond (bytes_eq w x) true (contains_text c.args.seen.now x))
    c.in_ok-words.ensures
    (btree_set_updates_text (string_bytes c.in_ok-words.words) c.args.seen.now c.insert.new.self true
    c.in_ok-insert.ensures.updates x))
