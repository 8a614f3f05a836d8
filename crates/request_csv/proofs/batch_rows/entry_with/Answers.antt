use Rattle.csv.specs.Records.{fields_of}
use Rattle.row_references.specs.Entries.{place_field}
use Rattle.row_references.specs.References.{with_number}
use Rattle.request_csv.proofs.Added.{told}
use Rattle.request_csv.proofs.batch_rows.entry_with.Goals as goal

pub returns-in-Err-clause-refused : goal.returns-in-Err-clause-refused
returns-in-Err-clause-refused c = told (with_number (fields_of c.args.own.now) place_field c.args.number) c.in-Err.kind
    c.args.place c.refused_row.result c.in-Err.ensures c.refused_row.ensures
