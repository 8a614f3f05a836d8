use Rattle.std.proofs.Common.{inr}
use Rattle.archive_output.proofs.plain_writing.write_plain_text.Goals as goal

pub returns-in-Ok-clause-written : goal.returns-in-Ok-clause-written
returns-in-Ok-clause-written g c =
    let plain = c.an_archive_has_one_plain_archive.ensures.some c.args.state.now.records in
    (plain.0, plain.1, c.in-Ok.ensures.written plain.0 plain.1)

pub returns-in-Err-clause-begun : goal.returns-in-Err-clause-begun
returns-in-Err-clause-begun g c =
    let plain = c.an_archive_has_one_plain_archive.ensures.some c.args.state.now.records in
    inr (c.in-Err.ensures.own, (plain.0, plain.1, c.in-Err.ensures.written plain.0 plain.1))
