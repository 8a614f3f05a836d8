use Rattle.std.proofs.Common.{◌∙◌, []}
use Rattle.sqlite.specs.Held.{state}
use Rattle.store_tables.specs.Reading.{IsTypedLink, read_link}
use Rattle.store_tables.specs.Shown.{shown_link}
use Rattle.store_tables.specs.Showing.{ShowsLink}
use Rattle.store_tables.proofs.Calls.{if_ok}
use Rattle.store_tables.proofs.LinkQueries.{reads_links}
use Rattle.store_tables.proofs.LinkTexts.{links_of_second, select_links}
use Rattle.store_tables.proofs.Pairing.{links_again}
use Rattle.store_tables.proofs.ReadingRows.{looks_all, looks_where}
use Rattle.store_tables.proofs.Showing.{shows_each}
use Rattle.store_tables.proofs.links.read_links.Goals as goal

pub read_later-requires-clause-later : goal.read_later-requires-clause-later
read_later-requires-clause-later g c = links_of_second

pub returns-clause-looks : goal.returns-clause-looks
returns-clause-looks g c =
    let old = state g.S.Store c.args.conn.now in
    let new = state g.S.Store c.read_later.new.conn in
    let did = c.read_later.ensures in
    looks_where c.read_later.result (λ rows was items is. is ∙ links_again rows.links was.good.typed.links) (
    looks_all shown_link read_link ShowsLink IsTypedLink (λ items. items.items) select_links [] old new
    c.read_later.result (λ rows. rows.links) (λ rows was all shown. reads_links old new all rows was shown)
    (λ rows t. t.links) did.read did.refused did.same did.crash did.clean)

pub returns-clause-shown : goal.returns-clause-shown
returns-clause-shown g c clean has =
    if_ok c.read_later.result
    (λ items. shows_each shown_link read_link ShowsLink select_links (state g.S.Store c.args.conn.now)
    (state g.S.Store c.read_later.new.conn) items.items) (c.read_later.ensures.read clean)
