use Rattle.std.proofs.Common.{None, ap, ◌∙◌}
use Rattle.table_pages.proofs.Decoded.{decoded, undecoded}
use Rattle.page_entries.specs.Dates.{said_text}
use Rattle.page_entries.proofs.dates.said.Goals as goal

pub returns-in_ok-date-in-Ok : goal.returns-in_ok-date-in-Ok
returns-in_ok-date-in-Ok c =
    let bytes = c.args.bytes.now in
    c.in_ok-date-in-Ok.ensures ∙ ap said_text c.in-Ok.ensures.cases.0
    ∙ decoded bytes (said_text bytes) None c.in-Ok.ensures.cases.1

pub returns-in-Err : goal.returns-in-Err
returns-in-Err c =
    let bytes = c.args.bytes.now in undecoded bytes (said_text bytes) None c.in-Err.ensures.cases.0
