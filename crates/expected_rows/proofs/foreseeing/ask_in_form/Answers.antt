use Rattle.std.proofs.Common.{◌∙◌, sym}
use Rattle.csv.specs.Records.{fields_of}
use Rattle.expected_rows.proofs.Asking.{asks_shut}
use Rattle.expected_rows.proofs.foreseeing.ask_in_form.Goals as goal

pub returns-then-is_shut-clause-asks : goal.returns-then-is_shut-clause-asks
returns-then-is_shut-clause-asks g c =
    asks_shut g.S.Store (fields_of c.args.row.now) c.args.archive.now c.args.request c.requires.asks
    (sym c.is_shut.ensures ∙ c.if-is_shut.true)
