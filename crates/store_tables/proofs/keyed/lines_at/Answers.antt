use Rattle.std.proofs.Common.{rules, ◌≡◌, true, Ok, ◌∙◌}
use Rattle.sqlite.specs.Held.{state}
use Rattle.store_tables.specs.Keyed.{lines_within}
use Rattle.store_tables.specs.Rows.{lines_of}
use Rattle.store_tables.proofs.LaterStatements.{own_of}
use Rattle.store_tables.proofs.Packing.{only_lines}
use Rattle.store_tables.proofs.ReadingRows.{looks_where, looks_with}
use Rattle.store_tables.proofs.keyed.lines_at.Goals as goal

pub returns-clause-looks : goal.returns-clause-looks
returns-clause-looks g c =
    let old = state g.S.Store c.args.conn.now in
    let second : c.is_second.result ≡ true = search rules in
    looks_with {P = λ rows found. lines_within found ≡ lines_of c.args.number rows} (Ok c.lines_within.result)
    (looks_where (Ok c.in_ok-pack.pack)
    (λ rows was found is. only_lines c.args.number rows found
    (own_of rows old.now.trees (c.is_second.ensures rows.has_spans was.schema ∙ second) was.good.holds).0 is)
    c.in_ok-pack.ensures.looks) (λ rows is. c.lines_within.ensures ∙ is) tt
