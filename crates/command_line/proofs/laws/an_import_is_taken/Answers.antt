use Rattle.std.proofs.Common.{◌≡◌, [], None, Some, codes, false, refl, true}
use Rattle.clap.specs.Words.{Text, fault_of, subcommand_of}
use Rattle.clap.proofs.OnLiterals.{clap_on_literals}
use Rattle.command_line.specs.Asking.{given_in, is_fit, is_told, word_in}
use Rattle.command_line.specs.Commands.{program}
use Rattle.command_line.specs.Examples.{import_words, reported_import_words, told_import_words}
use Rattle.command_line.proofs.laws.an_import_is_taken.Goals as goal

no_fault : (name : Text) → fault_of program (import_words name) ≡ []
unfolding clap_on_literals
no_fault name = refl

fits : (name : Text) → is_fit (subcommand_of program (import_words name)) ≡ true
unfolding clap_on_literals
fits name = refl

has_file : (name : Text) → word_in (subcommand_of program (import_words name)) (codes "FILE") ≡ codes "ashby.db"
unfolding clap_on_literals
has_file name = refl

has_token : (name : Text) → word_in (subcommand_of program (import_words name)) (codes "token") ≡ codes "first-file"
unfolding clap_on_literals
has_token name = refl

untold_there : (name : Text) → is_told (subcommand_of program (import_words name)) ≡ false
unfolding clap_on_literals
untold_there name = refl

no_fault_told : (name : Text) → fault_of program (told_import_words name) ≡ []
unfolding clap_on_literals
no_fault_told name = refl

fits_told : (name : Text) → is_fit (subcommand_of program (told_import_words name)) ≡ true
unfolding clap_on_literals
fits_told name = refl

told_there : (name : Text) → is_told (subcommand_of program (told_import_words name)) ≡ true
unfolding clap_on_literals
told_there name = refl

none_reported : (name : Text) → given_in (subcommand_of program (import_words name)) (codes "report") ≡ None
unfolding clap_on_literals
none_reported name = refl

no_fault_reported : (name : Text) → fault_of program (reported_import_words name) ≡ []
unfolding clap_on_literals
no_fault_reported name = refl

fits_reported : (name : Text) → is_fit (subcommand_of program (reported_import_words name)) ≡ true
unfolding clap_on_literals
fits_reported name = refl

file_reported : (name : Text) → word_in (subcommand_of program (reported_import_words name)) (codes "FILE")
    ≡ codes "ashby.db"
unfolding clap_on_literals
file_reported name = refl

has_report : (name : Text) → given_in (subcommand_of program (reported_import_words name)) (codes "report")
    ≡ Some (codes "first-file.txt")
unfolding clap_on_literals
has_report name = refl

pub returns-clause-taken : goal.returns-clause-taken
returns-clause-taken c = λ name. (no_fault name, fits name)

pub returns-clause-file : goal.returns-clause-file
returns-clause-file c = has_file

pub returns-clause-token : goal.returns-clause-token
returns-clause-token c = has_token

pub returns-clause-untold : goal.returns-clause-untold
returns-clause-untold c = untold_there

pub returns-clause-told_taken : goal.returns-clause-told_taken
returns-clause-told_taken c = λ name. (no_fault_told name, fits_told name)

pub returns-clause-told : goal.returns-clause-told
returns-clause-told c = told_there

pub returns-clause-unreported : goal.returns-clause-unreported
returns-clause-unreported c = none_reported

pub returns-clause-reported_taken : goal.returns-clause-reported_taken
returns-clause-reported_taken c = λ name. (no_fault_reported name, fits_reported name)

pub returns-clause-reported_file : goal.returns-clause-reported_file
returns-clause-reported_file c = file_reported

pub returns-clause-report : goal.returns-clause-report
returns-clause-report c = has_report
