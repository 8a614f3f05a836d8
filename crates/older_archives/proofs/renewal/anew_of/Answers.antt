use Rattle.std.proofs.Common.{rules}
use Rattle.older_archives.specs.RecordReading.{IsReadAnew}
use Rattle.older_archives.specs.declared.reading.ReadAnew.TheVariants.{Stays, Changes}
use Rattle.older_archives.proofs.Items.{read_is}
use Rattle.older_archives.proofs.renewal.anew_of.Goals as goal

pub returns-in_ok-kept-in-Stays-clause-read : goal.returns-in_ok-kept-in-Stays-clause-read
returns-in_ok-kept-in-Stays-clause-read c =
    let read : IsReadAnew c.args.lines.now (Stays c.in-Stays.found) = search rules in
    let kept = c.in_ok-kept-in-Stays.ensures in
    read_is c.args.lines.now c.in-Stays.found c.in_ok-kept-in-Stays.field-0 read.0 kept.lines kept.span kept.sought

pub returns-in_ok-kept-in-Changes-clause-read : goal.returns-in_ok-kept-in-Changes-clause-read
returns-in_ok-kept-in-Changes-clause-read c =
    let read : IsReadAnew c.args.lines.now (Changes c.in-Changes.found) = search rules in
    let kept = c.in_ok-kept-in-Changes.ensures in
    read_is c.args.lines.now c.in-Changes.found c.in_ok-kept-in-Changes.field-0 read.0 kept.lines kept.span kept.sought
