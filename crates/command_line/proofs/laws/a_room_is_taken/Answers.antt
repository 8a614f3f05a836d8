use Rattle.std.proofs.Common.{◌≡◌, [], codes, refl, true}
use Rattle.clap.specs.Words.{Text, fault_of, subcommand_of}
use Rattle.clap.proofs.OnLiterals.{clap_on_literals}
use Rattle.jiff_fmt.proofs.OnLiterals.{jiff_fmt_on_literals}
use Rattle.command_line.specs.Asking.{is_fit, word_in}
use Rattle.command_line.specs.Meanings.{number_of, number_up_to}
use Rattle.command_line.specs.Commands.{program}
use Rattle.command_line.specs.Examples.{serve_words}
use Rattle.command_line.proofs.laws.a_room_is_taken.Goals as goal

no_fault : (name : Text) → fault_of program (serve_words name) ≡ []
unfolding clap_on_literals
no_fault name = refl

fits : (name : Text) → is_fit (subcommand_of program (serve_words name)) ≡ true
unfolding clap_on_literals jiff_fmt_on_literals
fits name = refl

has_port : (name : Text) → number_up_to 65535 (word_in (subcommand_of program (serve_words name)) (codes "port")) ≡ 8080
unfolding clap_on_literals
has_port name = refl

has_count : (name : Text) → number_of (word_in (subcommand_of program (serve_words name)) (codes "count")) ≡ 1000
unfolding clap_on_literals
has_count name = refl

pub returns-clause-taken : goal.returns-clause-taken
returns-clause-taken c = λ name. (no_fault name, fits name)

pub returns-clause-port : goal.returns-clause-port
returns-clause-port c = has_port

pub returns-clause-count : goal.returns-clause-count
returns-clause-count c = has_count
