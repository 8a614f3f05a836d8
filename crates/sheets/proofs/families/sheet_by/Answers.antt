use Rattle.std.proofs.Common.{ap, string_bytes}
use Rattle.archive_state.specs.Content.{Content}
use Rattle.sheets.specs.Gathered.{Gathered}
use Rattle.sheets.specs.Sheets as sheets
use Rattle.sheets.proofs.Appending.{made}
use Rattle.sheets.proofs.families.sheet_by.Goals as goal

pub returns : goal.returns
returns c = λ is.
    made (λ (g : Gathered). sheets.family_text g c.args.number c.args.family.now) c.args.shown.now.records
    c.as_state.result.now.records c.args.index.now (string_bytes c.new-out.result) _ c.new-out.ensures.bytes
    (ap (λ (x : Content). x.records) c.as_state.ensures) is
    c.in_ok-push_family.ensures
