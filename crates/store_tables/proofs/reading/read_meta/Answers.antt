use Rattle.std.proofs.Common.{inl, inr, ap, length, sym, subst, ◌∙◌}
use Rattle.std.proofs.lemmas.Result.{IfErr-weaker}
use Rattle.sqlite.specs.Held.{state}
use Rattle.store_tables.specs.Looking.{meta_query}
use Rattle.store_tables.specs.Showing.{ShowsEach, ShowsMeta}
use Rattle.store_tables.proofs.Calls.{if_ok}
use Rattle.store_tables.proofs.ReadingRows.{looks_with}
use Rattle.store_tables.proofs.reading.read_meta.Goals as goal

pub returns-clause-looks : goal.returns-clause-looks
returns-clause-looks g c =
    looks_with c.only.result c.in_ok-read_meta_rows.ensures.looks
    (if_ok c.only.result (λ meta is rows was. let e = sym is ∙ was in cc) c.only.ensures.ok)
    (IfErr-weaker c.only.result _ _ (λ kind why rows was. elim why [
      | inl memory ↦ inl memory
      | inr bad ↦
          absurd (bad.1 (ap length was))
    ]) c.only.ensures.err)

pub returns-clause-shown : goal.returns-clause-shown
returns-clause-shown g c clean has_spans has =
    if_ok c.only.result
    (λ meta is. subst (ShowsEach meta_query ShowsMeta (state g.S.Store c.args.conn.now)
    (state g.S.Store c.read_meta_rows.new.conn)) is (c.in_ok-read_meta_rows.ensures.shown clean has_spans has))
    c.only.ensures.ok
