use Rattle.std.proofs.Common.{◌≡◌, true, string_bytes, subst}
use Rattle.std.proofs.lemmas.Map.Text.{btree_set_updates_text}
use Rattle.std.specs.BTreeSet.{contains_text}
use Rattle.list_laws.proofs.Bytes.{added}
use Rattle.doubts.specs.Gathered.{with_key}
use Rattle.doubts.proofs.known.add_key.Goals as goal

pub returns : goal.returns
returns c =
    let key = string_bytes c.key.inside.words in
    let old = contains_text c.args.linked.now in
    let new = contains_text c.insert.new.self in
    subst (λ k. new ≡ with_key old k) c.key.view_is (λ j x. added x key (new x) (old x)
    (btree_set_updates_text key c.args.linked.now c.insert.new.self true c.in_ok-insert.ensures.updates x) j)
