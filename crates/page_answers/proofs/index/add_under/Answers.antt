use Rattle.std.proofs.Common.{ℕ, ap, refl, subst, sym, ◌∙◌}
use Rattle.std.proofs.lemmas.Map.Text.{btree_map_updates_text}
use Rattle.std.specs.Prelude.{IsSome, Option, Some, string_bytes}
use Rattle.std.specs.BTreeMap.{BTreeMap, get_by_text}
use Rattle.std.specs.Global.{Global, Vec}
use Rattle.std.specs.declared.string.String.{String}
use Rattle.page_answers.proofs.Adding.{put_behind, put_first, put_under}
use Rattle.page_answers.proofs.index.add_under.Goals as goal

pub returns-in-Some : goal.returns-in-Some
returns-in-Some c =
    let m = c.args.paths.now in
    let w = c.add_last.new.paths in
    let n = c.get_mut.follows.lender w in
    put_under (get_by_text m) (get_by_text n) c.as_str.result.now (string_bytes c.args.key) (string_bytes c.args.path) w
    c.as_str.ensures.value
    (btree_map_updates_text c.as_str.result.now m n (Some w)
    ((c.get_mut.follows.holds w).3 (subst (λ (o : Option (Vec (String Global))). IsSome o) c.in-Some.ensures.value
    refl)))
    (put_behind (get_by_text m c.as_str.result.now) (string_bytes c.args.path) c.in-Some.found.now w
    c.in-Some.ensures.value c.in_ok-add_last.ensures)

pub returns : goal.returns
returns c =
    let m = c.get_mut.follows.lender-at-none in
    let same = c.get_mut.follows.holds-at-none in
    let n = c.insert.new.self in
    let key = string_bytes c.args.key in
    let path = string_bytes c.args.path in
    rw (sym same) (put_under (get_by_text m) (get_by_text n) key key path c.add_last-2.new.paths refl
    (btree_map_updates_text key m n (Some c.add_last-2.new.paths) c.in_ok-insert.ensures.updates)
    (put_first (get_by_text m key) path c.new-first.result c.add_last-2.new.paths
    (c.in_default.ensures.value ∙ ap (get_by_text c.args.paths.now) c.as_str.ensures.value
    ∙ ap (λ (was : BTreeMap (String Global) (Vec (String Global))). get_by_text was key) (sym same))
    c.new-first.ensures.items c.in_ok-add_last-2.ensures))
