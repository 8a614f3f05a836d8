use Rattle.std.proofs.Common.{[], ◌∷◌}
use Rattle.store_tables.specs.Prepared.{drawn_queries}
use Rattle.store_tables.proofs.PackTexts.{select_packs}
use Rattle.store_tables.proofs.Preparing.{prepared_then}
use Rattle.store_tables.proofs.version.prepare_later.Goals as goal

pub returns-clause-told : goal.returns-clause-told
returns-clause-told g c =
    prepared_then (select_packs ∷ []) drawn_queries c.in_ok-prepare.ensures.told c.prepare_drawn.ensures.told
