use Rattle.std.proofs.Common.{◌≡◌, [], Some, codes, pos, refl, true}
use Rattle.clap.specs.Words.{Text, fault_of, subcommand_of}
use Rattle.clap.proofs.OnLiterals.{clap_on_literals}
use Rattle.jiff_fmt.proofs.OnLiterals.{jiff_fmt_on_literals}
use Rattle.calendar_days.specs.Calendars.{day_number}
use Rattle.calendar_days.specs.declared.calendar.Calendar.TheVariants.{Gregorian}
use Rattle.command_line.specs.Asking.{day_given, is_fit, is_given}
use Rattle.command_line.specs.Commands.{program}
use Rattle.command_line.specs.Examples.{days_words}
use Rattle.command_line.proofs.laws.some_days_are_taken.Goals as goal

no_fault : (name : Text) → fault_of program (days_words name) ≡ []
unfolding clap_on_literals
no_fault name = refl

fits : (name : Text) → is_fit (subcommand_of program (days_words name)) ≡ true
unfolding clap_on_literals jiff_fmt_on_literals
fits name = refl

has_first : (name : Text) → day_given (subcommand_of program (days_words name)) (codes "from")
    ≡ Some (day_number Gregorian (pos 1799) 12 1)
unfolding clap_on_literals jiff_fmt_on_literals
has_first name = refl

has_words : (name : Text) → is_given (subcommand_of program (days_words name)) (codes "words") ≡ true
unfolding clap_on_literals
has_words name = refl

pub returns-clause-taken : goal.returns-clause-taken
returns-clause-taken c = λ name. (no_fault name, fits name)

pub returns-clause-first : goal.returns-clause-first
returns-clause-first c = has_first

pub returns-clause-words : goal.returns-clause-words
returns-clause-words c = has_words
