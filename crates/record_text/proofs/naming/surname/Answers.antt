use Rattle.std.proofs.Common.{sym}
use Rattle.record_text.proofs.Cuts.{no_slash, one_slash, two_slashes}
use Rattle.record_text.proofs.naming.surname.Goals as goal

pub returns-in-Some-cut : goal.returns-in-Some-cut
returns-in-Some-cut c =
    sym (two_slashes c.args.name.now c.in-Some.field-0-0.now c.in-Some.rest.now c.in-Some-cut.found.now
    c.in-Some-cut.field-0-1.now c.in-Some.ensures.0 c.in-Some.ensures.1 c.in-Some-cut.ensures.0 c.in-Some-cut.ensures.1)

pub returns-in-None-cut : goal.returns-in-None-cut
returns-in-None-cut c =
    sym (one_slash c.args.name.now c.in-Some.field-0-0.now c.in-Some.rest.now c.in-Some.ensures.0 c.in-Some.ensures.1
    c.in-None-cut.ensures)

pub returns-in-None : goal.returns-in-None
returns-in-None c = sym (no_slash c.args.name.now c.in-None.ensures)
