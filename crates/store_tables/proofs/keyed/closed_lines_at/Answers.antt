use Rattle.std.proofs.Common.{rules, ◌≡◌, true, ◌∙◌}
use Rattle.sqlite.specs.Held.{state}
use Rattle.store_tables.proofs.ClosedQueries.{closed_lines}
use Rattle.store_tables.proofs.LaterStatements.{own_of}
use Rattle.store_tables.proofs.ReadingRows.{looks_where}
use Rattle.store_tables.proofs.keyed.closed_lines_at.Goals as goal

pub returns-clause-looks : goal.returns-clause-looks
returns-clause-looks g c =
    let old = state g.S.Store c.args.conn.now in
    let second : c.is_second.result ≡ true = search rules in
    looks_where c.closed_pack_at.result
    (λ rows was found is. closed_lines c.args.number rows found
    (own_of rows old.now.trees (c.is_second.ensures rows.has_spans was.schema ∙ second) was.good.holds).0 is)
    c.closed_pack_at.ensures.looks
