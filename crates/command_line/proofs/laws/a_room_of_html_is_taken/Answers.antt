use Rattle.std.proofs.Common.{◌≡◌, [], codes, refl, true}
use Rattle.clap.specs.Words.{Text, fault_of, subcommand_of}
use Rattle.clap.proofs.OnLiterals.{clap_on_literals}
use Rattle.jiff_fmt.proofs.OnLiterals.{jiff_fmt_on_literals}
use Rattle.command_line.specs.Asking.{is_fit, is_html}
use Rattle.command_line.specs.Commands.{program}
use Rattle.command_line.specs.Examples.{html_words}
use Rattle.command_line.proofs.laws.a_room_of_html_is_taken.Goals as goal

no_fault : (name : Text) → fault_of program (html_words name) ≡ []
unfolding clap_on_literals
no_fault name = refl

fits : (name : Text) → is_fit (subcommand_of program (html_words name)) ≡ true
unfolding clap_on_literals jiff_fmt_on_literals
fits name = refl

has_html : (name : Text) → is_html (subcommand_of program (html_words name)) ≡ true
unfolding clap_on_literals
has_html name = refl

pub returns-clause-taken : goal.returns-clause-taken
returns-clause-taken c = λ name. (no_fault name, fits name)

pub returns-clause-html : goal.returns-clause-html
returns-clause-html c = has_html
