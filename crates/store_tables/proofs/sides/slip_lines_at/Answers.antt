use Rattle.std.proofs.Common.{rules, ◌≡◌, true, Ok, ◌∙◌, inl, flat_map}
use Rattle.std.proofs.lemmas.Result.{IfErr-weaker}
use Rattle.sqlite.specs.Held.{state}
use Rattle.store_tables.specs.Keyed.{slip_lines_at}
use Rattle.store_tables.specs.Reading.{lines_in_pack}
use Rattle.store_tables.proofs.Calls.{if_ok}
use Rattle.store_tables.proofs.LaterStatements.{sides_of}
use Rattle.store_tables.proofs.ReadingRows.{looks_where, looks_with}
use Rattle.store_tables.proofs.SideRows.{sides_read_at}
use Rattle.store_tables.proofs.sides.slip_lines_at.Goals as goal

pub returns-clause-looks : goal.returns-clause-looks
returns-clause-looks g c =
    let old = state g.S.Store c.args.conn.now in
    let n = c.args.slip in
    let second : c.is_second.result ≡ true = search rules in
    looks_with {P = λ rows packs. flat_map lines_in_pack packs.items ≡ slip_lines_at n rows} c.lines_in.result
    (looks_where (Ok c.in_ok-packs.packs)
    (λ rows was packs is. sides_read_at n rows packs.items
    (sides_of rows old.now.trees (c.is_second.ensures rows.has_spans was.schema ∙ second) was.good.holds).0 is)
    c.in_ok-packs.ensures.looks)
    (if_ok c.lines_in.result (λ found all rows is. all ∙ is) c.lines_in.ensures.ok)
    (IfErr-weaker c.lines_in.result _ _ (λ kind memory rows _. inl memory) c.lines_in.ensures.memory)
