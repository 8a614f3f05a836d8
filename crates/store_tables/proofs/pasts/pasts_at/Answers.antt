use Rattle.std.proofs.Common.{pos, [], ◌∷◌}
use Rattle.sqlite.specs.Held.{state}
use Rattle.sqlite.specs.declared.types.Value.TheVariants.{Int}
use Rattle.store_tables.specs.Keyed as keyed
use Rattle.store_tables.specs.Reading.{IsTypedPast, read_past}
use Rattle.store_tables.specs.Shown.{shown_past}
use Rattle.store_tables.specs.Showing.{ShowsPast}
use Rattle.store_tables.proofs.PastQueries.{looks_unless, reads_pasts}
use Rattle.store_tables.proofs.PastTexts.{pasts_at, pasts_of_second}
use Rattle.store_tables.proofs.pasts.pasts_at.Goals as goal

pub read_later-requires-clause-later : goal.read_later-requires-clause-later
read_later-requires-clause-later g c = pasts_of_second

pub returns-clause-looks : goal.returns-clause-looks
returns-clause-looks g c =
    let old = state g.S.Store c.args.conn.now in
    let new = state g.S.Store c.read_later.new.conn in
    let did = c.read_later.ensures in
    let n = c.args.number in
    looks_unless shown_past read_past ShowsPast IsTypedPast (λ items. items.items) pasts_at (Int (pos n) ∷ [])
    old new c.read_later.result (keyed.pasts_at n) (λ rows was all shown. reads_pasts old new n all rows was shown)
    (rw (c.params-to_sql.ensures) at did.read) (rw (c.params-to_sql.ensures) at did.refused) did.named did.same
    did.crash did.clean
