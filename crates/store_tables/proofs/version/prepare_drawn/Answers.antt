use Rattle.std.proofs.Common.{rules, [], ◌∷◌}
use Rattle.store_tables.proofs.LinkTexts.{select_links}
use Rattle.store_tables.proofs.Preparing.{prepared_lost, prepared_then}
use Rattle.store_tables.proofs.SoughtTexts.{select_soughts}
use Rattle.store_tables.proofs.SpanTexts.{select_spans}
use Rattle.store_tables.proofs.version.prepare_drawn.Goals as goal

pub returns-in_err-prepare-2-clause-told : goal.returns-in_err-prepare-2-clause-told
returns-in_err-prepare-2-clause-told g c =
    prepared_lost (select_spans ∷ select_links ∷ []) (select_soughts ∷ [])
    c.from_residual-in_err-prepare-2.result (search rules)
    (prepared_then (select_spans ∷ []) (select_links ∷ []) c.in_ok-prepare.ensures.told
    c.in_err-prepare-2.ensures.told)

pub returns-clause-told : goal.returns-clause-told
returns-clause-told g c =
    prepared_then (select_spans ∷ select_links ∷ []) (select_soughts ∷ [])
    (prepared_then (select_spans ∷ []) (select_links ∷ []) c.in_ok-prepare.ensures.told
    c.in_ok-prepare-2.ensures.told) c.prepare-3.ensures.told
