use Rattle.std.proofs.Common.{inl, inr, sym}
use Rattle.std.proofs.lemmas.Result.{IfErr-weaker}
use Rattle.sqlite.specs.Held.{state}
use Rattle.store_tables.proofs.Calls.{if_ok}
use Rattle.store_tables.proofs.Showing.{read_at}
use Rattle.store_rows.proofs.Showing.{shown_rows}
use Rattle.store_rows.proofs.reading.read_state.Goals as goal

pub returns-clause-refused : goal.returns-clause-refused
returns-clause-refused g c clean =
    IfErr-weaker c.state_of.result _ _ (λ kind cause rows was. elim cause [
      | inl memory ↦ inl (inl memory)
      | inr bad ↦ inr (bad.0, bad.1 rows (sym (c.in_ok-read.ensures.looks.read clean rows was)))
    ]) c.state_of.ensures.refused

pub returns-clause-shown : goal.returns-clause-shown
returns-clause-shown g c clean has_spans has =
    let old = state g.S.Store c.args.conn.now in
    let shown = read_at old (state g.S.Store c.read_rows.new.conn) _ has_spans has
    (c.in_ok-read.ensures.shown clean has_spans has) in
    if_ok c.state_of.result (λ held means. shown_rows old has_spans _ held means shown)
    c.state_of.ensures.read
