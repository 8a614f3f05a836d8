use Rattle.std.proofs.Common.{◌∙◌, []}
use Rattle.sqlite.specs.Held.{state}
use Rattle.store_tables.specs.Reading.{IsTypedSought}
use Rattle.store_tables.specs.Rows.{SoughtRow}
use Rattle.store_tables.specs.Shown.{shown_sought}
use Rattle.store_tables.specs.Showing.{ShowsSought}
use Rattle.store_tables.proofs.Calls.{if_ok}
use Rattle.store_tables.proofs.ReadingRows.{looks_all, looks_as, map_same}
use Rattle.store_tables.proofs.Showing.{shows_each}
use Rattle.store_tables.proofs.SoughtQueries.{reads_soughts}
use Rattle.store_tables.proofs.SoughtTexts.{select_soughts, soughts_of_second}
use Rattle.store_tables.proofs.soughts.read_soughts.Goals as goal

pub read_later-requires-clause-later : goal.read_later-requires-clause-later
read_later-requires-clause-later g c = soughts_of_second

pub returns-clause-looks : goal.returns-clause-looks
returns-clause-looks g c =
    let old = state g.S.Store c.args.conn.now in
    let new = state g.S.Store c.read_later.new.conn in
    let did = c.read_later.ensures in
    looks_as c.read_later.result (λ rows items is. is ∙ map_same rows.soughts) (
    looks_all shown_sought (λ (s : SoughtRow). s) ShowsSought IsTypedSought (λ items. items.items) select_soughts []
    old new c.read_later.result (λ rows. rows.soughts)
    (λ rows was all shown. reads_soughts old new all rows was shown)
    (λ rows t. t.soughts) did.read did.refused did.same did.crash did.clean)

pub returns-clause-shown : goal.returns-clause-shown
returns-clause-shown g c clean has =
    if_ok c.read_later.result
    (λ items. shows_each shown_sought (λ (s : SoughtRow). s) ShowsSought select_soughts
    (state g.S.Store c.args.conn.now) (state g.S.Store c.read_later.new.conn) items.items)
    (c.read_later.ensures.read clean)
