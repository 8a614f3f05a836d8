use Rattle.std.proofs.Common.{◌≡◌, [], codes, refl, true, Some}
use Rattle.clap.specs.Words.{Text, fault_of, subcommand_of}
use Rattle.clap.proofs.OnLiterals.{clap_on_literals}
use Rattle.jiff_fmt.proofs.OnLiterals.{jiff_fmt_on_literals}
use Rattle.command_line.specs.Asking.{is_fit, generations_in, kind_in, word_in}
use Rattle.command_line.specs.Meanings.{number_of}
use Rattle.command_line.specs.Commands.{program}
use Rattle.command_line.specs.Examples.{sheet_words}
use Rattle.command_line.specs.declared.tasks.SheetKind.TheVariants.{Pedigree}
use Rattle.command_line.proofs.laws.a_sheet_is_taken.Goals as goal

no_fault : (name : Text) → fault_of program (sheet_words name) ≡ []
unfolding clap_on_literals
no_fault name = refl

fits : (name : Text) → is_fit (subcommand_of program (sheet_words name)) ≡ true
unfolding clap_on_literals jiff_fmt_on_literals
fits name = refl

has_kind : (name : Text) → kind_in (subcommand_of program (sheet_words name)) ≡ Some Pedigree
unfolding clap_on_literals
has_kind name = refl

has_number : (name : Text) → number_of (word_in (subcommand_of program (sheet_words name)) (codes "NO")) ≡ 17
unfolding clap_on_literals
has_number name = refl

has_generations : (name : Text) → generations_in (subcommand_of program (sheet_words name)) ≡ 5
unfolding clap_on_literals
has_generations name = refl

pub returns-clause-taken : goal.returns-clause-taken
returns-clause-taken c = λ name. (no_fault name, fits name)

pub returns-clause-kind : goal.returns-clause-kind
returns-clause-kind c = has_kind

pub returns-clause-number : goal.returns-clause-number
returns-clause-number c = has_number

pub returns-clause-generations : goal.returns-clause-generations
returns-clause-generations c = has_generations
