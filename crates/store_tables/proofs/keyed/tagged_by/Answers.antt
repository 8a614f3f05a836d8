use Rattle.std.proofs.Common.{rules, ◌≡◌, ◌∷◌, [], true, ◌∙◌}
use Rattle.sqlite.specs.Held.{state}
use Rattle.store_tables.proofs.LaterStatements.{own_of}
use Rattle.store_tables.proofs.ReadingRows.{looks_where}
use Rattle.store_tables.proofs.Tagged.{tagged_is}
use Rattle.store_tables.proofs.keyed.tagged_by.Goals as goal

pub returns-clause-looks : goal.returns-clause-looks
returns-clause-looks g c =
    let old = state g.S.Store c.args.conn.now in
    let second : c.is_second.result ≡ true = search rules in
    looks_where c.numbers_tagged.result
    (λ rows was items is.
    let own = own_of rows old.now.trees (c.is_second.ensures rows.has_spans was.schema ∙ second) was.good.holds in
    tagged_is (c.args.one.now ∷ c.args.two.now ∷ c.args.three.now ∷ c.args.four.now ∷ c.args.five.now ∷ []) rows
    items.items own.0 was.good.typed.packs own.1.packs_kept.rise is)
    c.numbers_tagged.ensures.looks
