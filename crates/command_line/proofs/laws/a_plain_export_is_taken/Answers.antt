use Rattle.std.proofs.Common.{◌≡◌, [], false, refl, true}
use Rattle.clap.specs.Words.{Text, fault_of, subcommand_of}
use Rattle.clap.proofs.OnLiterals.{clap_on_literals}
use Rattle.jiff_fmt.proofs.OnLiterals.{jiff_fmt_on_literals}
use Rattle.command_line.specs.Asking.{is_fit, is_plain, is_public}
use Rattle.command_line.specs.Commands.{program}
use Rattle.command_line.specs.Examples.{plain_words, public_plain_words}
use Rattle.command_line.proofs.laws.a_plain_export_is_taken.Goals as goal

no_fault : (name : Text) → fault_of program (plain_words name) ≡ []
unfolding clap_on_literals
no_fault name = refl

fits : (name : Text) → is_fit (subcommand_of program (plain_words name)) ≡ true
unfolding clap_on_literals
fits name = refl

has_plain : (name : Text) → is_plain (subcommand_of program (plain_words name)) ≡ true
unfolding clap_on_literals
has_plain name = refl

not_public : (name : Text) → is_public (subcommand_of program (plain_words name)) ≡ false
unfolding clap_on_literals
not_public name = refl

no_fault_public : (name : Text) → fault_of program (public_plain_words name) ≡ []
unfolding clap_on_literals
no_fault_public name = refl

fits_public : (name : Text) → is_fit (subcommand_of program (public_plain_words name)) ≡ true
unfolding clap_on_literals jiff_fmt_on_literals
fits_public name = refl

has_both : (name : Text) → is_plain (subcommand_of program (public_plain_words name)) ≡ true
unfolding clap_on_literals
has_both name = refl

has_public : (name : Text) → is_public (subcommand_of program (public_plain_words name)) ≡ true
unfolding clap_on_literals
has_public name = refl

pub returns-clause-taken : goal.returns-clause-taken
returns-clause-taken c = λ name. (no_fault name, fits name)

pub returns-clause-plain : goal.returns-clause-plain
returns-clause-plain c = has_plain

pub returns-clause-whole : goal.returns-clause-whole
returns-clause-whole c = not_public

pub returns-clause-public_taken : goal.returns-clause-public_taken
returns-clause-public_taken c = λ name. (no_fault_public name, fits_public name)

pub returns-clause-public_plain : goal.returns-clause-public_plain
returns-clause-public_plain c = has_both

pub returns-clause-public : goal.returns-clause-public
returns-clause-public c = has_public
