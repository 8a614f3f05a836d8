use Rattle.std.proofs.Common.{rules, ◌≡◌, ◌++◌, ◌∙◌, ℕ, List, ap, sym, length}
use Rattle.std.proofs.lemmas.Iterator.Adapters.{YieldsList-from_vec}
use Rattle.std.proofs.lemmas.Iterator.Consumers.{YieldsList-end}
use Rattle.std.specs.List.{flat_map}
use Rattle.std.specs.Vec.Iter.{into_iter_items, into_iter_len}
use Rattle.stored_lines.specs.Line.{Label}
use Rattle.store_tables.proofs.ReadingRows.{map_same}
use Rattle.store_rows.specs.Grouped.{group_at, items_at}
use Rattle.store_rows.proofs.grouping.with_packs.Goals as goal

pub returns : goal.returns
returns c n =
    let items : into_iter_items c.into_iter-pack-iterator.result ≡ c.args.packs.items = search rules in
    let count : into_iter_len c.into_iter-pack-iterator.result ≡ length c.args.packs.items = search rules in
    let t = YieldsList-end (YieldsList-from_vec c.args.packs.items items count) c.packs.yielded c.packs.pack-iterator
    c.packs.yielded_by c.next.result c.next.new.self c.in-None.is c.next.ensures.steps in
    let all : c.packs.yielded ≡ c.args.packs.items = sym (map_same c.packs.yielded) ∙ t.0 in
    c.packs.invariant n
    ∙ ap (λ (ps : List (ℕ × List (ℕ × Label))). group_at c.args.groups n
    ++ flat_map (λ (ls : List (ℕ × Label)). ls) (items_at n ps)) all
