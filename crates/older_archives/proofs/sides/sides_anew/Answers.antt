use Rattle.std.proofs.lemmas.Result.{IfErr-weaker, IfOk-weaker}
use Rattle.store_rows.proofs.StateRecords.{refused_by}
use Rattle.older_archives.proofs.Parted.{changes_read, no_changes}
use Rattle.older_archives.proofs.sides.sides_anew.Goals as goal

pub returns-clause-read : goal.returns-clause-read
returns-clause-read c = IfOk-weaker c.parted.result _ _ (λ sides are. changes_read _ sides.items are)
    c.parted.ensures.read

pub returns-clause-refused : goal.returns-clause-refused
returns-clause-refused c = IfErr-weaker c.parted.result _ _ (λ kind. refused_by kind (no_changes _))
    c.parted.ensures.refused
