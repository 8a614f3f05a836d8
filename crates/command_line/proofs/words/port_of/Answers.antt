use Rattle.std.proofs.Common.{arith, refl}
use Rattle.command_line.proofs.Numbers.{number_parsed, number_unparsed}
use Rattle.command_line.proofs.words.port_of.Goals as goal

pub returns-in-Ok : goal.returns-in-Ok
returns-in-Ok c = number_parsed 16 65535 refl (omega arith) c.args.word.now c.parse.result c.parse.ensures.value.0
    c.in-Ok.port c.in-Ok.is

pub returns-in-Err : goal.returns-in-Err
returns-in-Err c = number_unparsed 16 65535 refl (omega arith) c.args.word.now c.parse.result
    c.parse.ensures.value.0 c.in-Err.field-0 c.in-Err.is
