use Rattle.std.proofs.Common.{rules, [], ◌∷◌}
use Rattle.store_tables.specs.Looking.{meta_query}
use Rattle.store_tables.specs.Prepared.{history_queries, record_queries}
use Rattle.store_tables.proofs.Preparing.{prepared_lost, prepared_then}
use Rattle.store_tables.proofs.version.prepare_all.Goals as goal

pub returns-in_err-prepare_records-clause-told : goal.returns-in_err-prepare_records-clause-told
returns-in_err-prepare_records-clause-told g c =
    prepared_lost (meta_query ∷ record_queries) history_queries c.from_residual-in_err-prepare_records.result
    (search rules)
    (prepared_then (meta_query ∷ []) record_queries c.in_ok-prepare.ensures.told
    c.in_err-prepare_records.ensures.told)

pub returns-clause-told : goal.returns-clause-told
returns-clause-told g c =
    prepared_then (meta_query ∷ record_queries) history_queries
    (prepared_then (meta_query ∷ []) record_queries c.in_ok-prepare.ensures.told
    c.in_ok-prepare_records.ensures.told) c.prepare_history.ensures.told
