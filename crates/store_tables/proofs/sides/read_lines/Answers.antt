use Rattle.std.proofs.Common.{◌≡◌, Bool, true, Ok, ◌∙◌, inl, flat_map, sym, subst}
use Rattle.std.proofs.lemmas.Result.{IfErr-weaker}
use Rattle.sqlite.specs.Held.{state}
use Rattle.store_tables.specs.Reading.{lines_in_pack, read_sides}
use Rattle.store_tables.specs.Showing.{ShowsSides}
use Rattle.store_tables.proofs.Calls.{if_ok}
use Rattle.store_tables.proofs.LaterStatements.{sides_of}
use Rattle.store_tables.proofs.ReadingRows.{looks_where, looks_with}
use Rattle.store_tables.proofs.SideRows.{sides_read}
use Rattle.store_tables.proofs.sides.read_lines.Goals as goal

pub returns-clause-looks : goal.returns-clause-looks
returns-clause-looks g c =
    let old = state g.S.Store c.args.conn.now in
    looks_with {P = λ rows packs. flat_map lines_in_pack packs.items ≡ read_sides rows} c.lines_in.result
    (looks_where (Ok c.in_ok-packs.packs)
    (λ rows was packs is. sides_read rows packs.items
    (sides_of rows old.now.trees (c.requires.second rows.has_spans was.schema) was.good.holds).0 is)
    c.in_ok-packs.ensures.looks)
    (if_ok c.lines_in.result (λ found all rows is. all ∙ is) c.lines_in.ensures.ok)
    (IfErr-weaker c.lines_in.result _ _ (λ kind memory rows _. inl memory) c.lines_in.ensures.memory)

pub returns-clause-shown : goal.returns-clause-shown
returns-clause-shown g c clean has_spans has =
    let old = state g.S.Store c.args.conn.now in
    let new = state g.S.Store c.read_packs.new.conn in
    let second : has_spans ≡ true = c.requires.second has_spans has in
    if_ok c.lines_in.result
    (λ found all. subst (λ (b : Bool). ShowsSides b found.items old new) (sym second)
    (c.in_ok-packs.packs.items, c.in_ok-packs.ensures.shown clean, all)) c.lines_in.ensures.ok
