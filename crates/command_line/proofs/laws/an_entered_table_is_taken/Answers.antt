use Rattle.std.proofs.Common.{◌≡◌, [], Some, codes, false, refl, true}
use Rattle.clap.specs.Words.{Text, fault_of, subcommand_of}
use Rattle.clap.proofs.OnLiterals.{clap_on_literals}
use Rattle.command_line.specs.Asking.{is_checked, is_fit, is_table, word_in}
use Rattle.command_line.specs.Meanings.{order_named}
use Rattle.command_line.specs.Commands.{program}
use Rattle.command_line.specs.Examples.{entered_table_words}
use Rattle.command_line.specs.declared.tasks.OrderName.TheVariants.{DayFirst}
use Rattle.command_line.proofs.laws.an_entered_table_is_taken.Goals as goal

no_fault : (name : Text) → fault_of program (entered_table_words name) ≡ []
unfolding clap_on_literals
no_fault name = refl

fits : (name : Text) → is_fit (subcommand_of program (entered_table_words name)) ≡ true
unfolding clap_on_literals
fits name = refl

has_token : (name : Text) → word_in (subcommand_of program (entered_table_words name)) (codes "token")
    ≡ codes "page-12"
unfolding clap_on_literals
has_token name = refl

has_table : (name : Text) → is_table (subcommand_of program (entered_table_words name)) ≡ true
unfolding clap_on_literals
has_table name = refl

has_no_check : (name : Text) → is_checked (subcommand_of program (entered_table_words name)) ≡ false
unfolding clap_on_literals
has_no_check name = refl

has_order : (name : Text) → order_named (word_in (subcommand_of program (entered_table_words name)) (codes "dates"))
    ≡ Some DayFirst
unfolding clap_on_literals
has_order name = refl

pub returns-clause-taken : goal.returns-clause-taken
returns-clause-taken c = λ name. (no_fault name, fits name)

pub returns-clause-token : goal.returns-clause-token
returns-clause-token c = has_token

pub returns-clause-table : goal.returns-clause-table
returns-clause-table c = has_table

pub returns-clause-unchecked : goal.returns-clause-unchecked
returns-clause-unchecked c = has_no_check

pub returns-clause-order : goal.returns-clause-order
returns-clause-order c = has_order
