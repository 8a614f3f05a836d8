use Rattle.std.proofs.Common.{◌∙◌, inl, sym}
use Rattle.std.proofs.lemmas.Result.{IfErr-weaker, IfOk-weaker}
use Rattle.csv.specs.Records.{fields_of}
use Rattle.sqlite.specs.Held.{state}
use Rattle.store.proofs.Running.{performs_none}
use Rattle.store_tables.proofs.Queries.{only_committed}
use Rattle.expected_rows.proofs.Asking.{asks_plain}
use Rattle.expected_rows.proofs.Looked.{none_looked}
use Rattle.expected_rows.proofs.foreseeing.ask_row.Goals as goal

pub returns-else-has_references-clause-asks : goal.returns-else-has_references-clause-asks
returns-else-has_references-clause-asks g c =
    IfOk-weaker c.unless_wanted.result _ _ (λ asked h. asks_plain g.S.Store (fields_of c.args.row.now)
    c.args.archive.now asked c.read_request.result (sym c.has_references.ensures ∙ c.if-has_references.false)
    c.read_request.ensures h) c.unless_wanted.ensures.same

pub returns-else-has_references-clause-ended : goal.returns-else-has_references-clause-ended
returns-else-has_references-clause-ended g c =
    let old = c.args.archive.now in
    let start = state g.S.Store old.conn in
    let none = none_looked g.S.Store old (λ clean was. performs_none start (λ rows was t l.
    only_committed start rows t was (g.met.S.Store.settled old.conn.store t was.is_open l)) clean) in
    IfErr-weaker c.unless_wanted.result _ _ (λ kind h. inl (h.0, none)) c.unless_wanted.ensures.wanted
