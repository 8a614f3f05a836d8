use Rattle.std.proofs.Common.{◌≡◌, true, cond, subst}
use Rattle.std.specs.BTreeSet.{contains_text}
use Rattle.std.specs.Str.{bytes_eq}
use Rattle.std.specs.Prelude.{string_bytes}
use Rattle.std.proofs.lemmas.Map.Text.{btree_set_updates_text}
use Rattle.list_laws.proofs.Bytes.{added}
use Rattle.page_places.proofs.Making.{one_is}
use Rattle.page_places.proofs.news.insert.Goals as goal

pub returns : goal.returns
returns c = λ x. one_is x c.args.path.now (contains_text c.args.made.now x) (contains_text c.insert.new.self x)
    (added x c.args.path.now (contains_text c.insert.new.self x) (contains_text c.args.made.now x)
    (subst (λ w. contains_text c.insert.new.self x ≡ cond (bytes_eq w x) true (contains_text c.args.made.now x))
    c.in_ok-path.ensures.ok
    (btree_set_updates_text (string_bytes c.in_ok-path.path) c.args.made.now c.insert.new.self true
    c.in_ok-insert.ensures.updates x)))
