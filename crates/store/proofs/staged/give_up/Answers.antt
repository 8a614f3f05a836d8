use Rattle.std.proofs.Common.{sym, true≢false, ◌∙◌}
use Rattle.store.proofs.Steps.{never_storage}
use Rattle.store.proofs.staged.give_up.Goals as goal

pub returns-then-is_storage-clause-gone : goal.returns-then-is_storage-clause-gone
returns-then-is_storage-clause-gone g c clean sure =
    absurd (true≢false (sym c.if-is_storage.true ∙ c.is_storage.ensures ∙ sure))

pub returns-then-is_storage-clause-crash : goal.returns-then-is_storage-clause-crash
returns-then-is_storage-clause-crash g c clean society content r has leaves = leaves

pub returns-in-Ok-clause-gone : goal.returns-in-Ok-clause-gone
returns-in-Ok-clause-gone g c clean sure society content r has =
    (c.in-Ok.ensures.gone clean society content r has).0

pub returns-in-Ok-clause-crash : goal.returns-in-Ok-clause-crash
returns-in-Ok-clause-crash g c clean society content r has leaves =
    c.in-Ok.ensures.crash clean society content r (has (sym c.is_storage.ensures ∙ c.if-is_storage.false))

pub returns-in-Err-clause-same : goal.returns-in-Err-clause-same
returns-in-Err-clause-same g c sure = never_storage c.in-Err.lost c.in-Err.ensures.refused sure

pub returns-in-Err-clause-gone : goal.returns-in-Err-clause-gone
returns-in-Err-clause-gone g c clean sure = never_storage c.in-Err.lost c.in-Err.ensures.refused sure

pub returns-in-Err-clause-crash : goal.returns-in-Err-clause-crash
returns-in-Err-clause-crash g c clean society content r has leaves =
    c.in-Err.ensures.crash clean society content r (has (sym c.is_storage.ensures ∙ c.if-is_storage.false))
