use Rattle.std.proofs.Common.{◌≡◌, rules}
use Rattle.records.specs.Stored.{stored}
use Rattle.older_archives.proofs.KeptAnew.{stays}
use Rattle.older_archives.proofs.reading.read_anew.Goals as goal

pub returns-in-Some-clause-read : goal.returns-in-Some-clause-read
returns-in-Some-clause-read c =
    let kept : c.args.lines.now ≡ stored c.in-Some.found = search rules in
    (stays c.args.lines.now c.in-Some.found kept, kept)
