use Rattle.std.proofs.Common.{inl}
use Rattle.std.proofs.lemmas.Result.{IfErr-weaker, on_ok_weaker}
use Rattle.csv.specs.Records.{fields_of}
use Rattle.request_csv.specs.Batches.{in_form}
use Rattle.request_csv.proofs.Added.{told}
use Rattle.request_csv.proofs.reading.add_row.Goals as goal

pub returns-in-Ok-clause-added : goal.returns-in-Ok-clause-added
returns-in-Ok-clause-added c =
    on_ok_weaker c.add.result (λ h. (c.in-Ok.next, c.in-Ok.ensures.read, h)) c.add.ensures.added

pub returns-in-Ok-clause-refused : goal.returns-in-Ok-clause-refused
returns-in-Ok-clause-refused c = IfErr-weaker c.add.result _ _ (λ e h. inl h) c.add.ensures.refused

pub returns-in-Err-clause-refused : goal.returns-in-Err-clause-refused
returns-in-Err-clause-refused c = told (in_form (fields_of c.args.row.now)) c.in-Err.kind c.args.number
    c.refused_row.result c.in-Err.ensures.refused c.refused_row.ensures
