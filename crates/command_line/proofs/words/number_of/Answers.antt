use Rattle.std.proofs.Common.{arith, refl}
use Rattle.command_line.proofs.Numbers.{number_parsed, number_unparsed}
use Rattle.command_line.proofs.words.number_of.Goals as goal

pub returns-in-Ok : goal.returns-in-Ok
returns-in-Ok c = number_parsed 32 4294967295 refl (omega arith) c.args.word.now c.parse.result c.parse.ensures.value.0
    c.in-Ok.number c.in-Ok.is

pub returns-in-Err : goal.returns-in-Err
returns-in-Err c = number_unparsed 32 4294967295 refl (omega arith) c.args.word.now c.parse.result
    c.parse.ensures.value.0 c.in-Err.field-0 c.in-Err.is
