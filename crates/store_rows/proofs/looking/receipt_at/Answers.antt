use Rattle.std.proofs.Common.{Ok, ◌∙◌}
use Rattle.store_rows.proofs.Seen.{sees_with, kept_at}
use Rattle.store_rows.proofs.looking.receipt_at.Goals as goal

pub returns-clause-sees : goal.returns-clause-sees
returns-clause-sees g c =
    sees_with (Ok c.last_kept.result) c.in_ok-receipts_at.ensures.looks
    (λ rows is content means. c.last_kept.ensures ∙ kept_at c.args.token.now rows content _ means is) tt
