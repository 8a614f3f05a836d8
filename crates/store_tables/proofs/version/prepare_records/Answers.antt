use Rattle.std.proofs.Common.{[], ◌∷◌}
use Rattle.store_tables.proofs.Preparing.{prepared_then}
use Rattle.store_tables.proofs.Texts.{select_batches, select_records}
use Rattle.store_tables.proofs.version.prepare_records.Goals as goal

pub returns-clause-told : goal.returns-clause-told
returns-clause-told g c =
    prepared_then (select_batches ∷ []) (select_records ∷ []) c.in_ok-prepare.ensures.told c.prepare-2.ensures.told
