use Rattle.std.proofs.Common.{◌≡◌, [], Some, codes, refl, true}
use Rattle.clap.specs.Words.{Text, fault_of, subcommand_of}
use Rattle.clap.proofs.OnLiterals.{clap_on_literals}
use Rattle.command_line.specs.Asking.{is_checked, is_fit, is_table, word_in}
use Rattle.command_line.specs.Meanings.{number_word, order_named}
use Rattle.command_line.specs.Commands.{program}
use Rattle.command_line.specs.Examples.{table_words}
use Rattle.command_line.specs.declared.tasks.OrderName.TheVariants.{DayFirst}
use Rattle.row_references.specs.declared.words.NumberWord.TheVariants.{Number}
use Rattle.command_line.proofs.laws.a_checked_table_is_taken.Goals as goal

no_fault : (name : Text) → fault_of program (table_words name) ≡ []
unfolding clap_on_literals
no_fault name = refl

fits : (name : Text) → is_fit (subcommand_of program (table_words name)) ≡ true
unfolding clap_on_literals
fits name = refl

has_file : (name : Text) → word_in (subcommand_of program (table_words name)) (codes "FILE") ≡ codes "ashby.db"
unfolding clap_on_literals
has_file name = refl

has_source : (name : Text) → number_word (word_in (subcommand_of program (table_words name)) (codes "source"))
    ≡ Some (Number 3)
unfolding clap_on_literals
has_source name = refl

has_table : (name : Text) → is_table (subcommand_of program (table_words name)) ≡ true
unfolding clap_on_literals
has_table name = refl

has_check : (name : Text) → is_checked (subcommand_of program (table_words name)) ≡ true
unfolding clap_on_literals
has_check name = refl

has_order : (name : Text) → order_named (word_in (subcommand_of program (table_words name)) (codes "dates"))
    ≡ Some DayFirst
unfolding clap_on_literals
has_order name = refl

pub returns-clause-taken : goal.returns-clause-taken
returns-clause-taken c = λ name. (no_fault name, fits name)

pub returns-clause-file : goal.returns-clause-file
returns-clause-file c = has_file

pub returns-clause-source : goal.returns-clause-source
returns-clause-source c = has_source

pub returns-clause-table : goal.returns-clause-table
returns-clause-table c = has_table

pub returns-clause-checked : goal.returns-clause-checked
returns-clause-checked c = has_check

pub returns-clause-order : goal.returns-clause-order
returns-clause-order c = has_order
