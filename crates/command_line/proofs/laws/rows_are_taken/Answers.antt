use Rattle.std.proofs.Common.{◌≡◌, ◌∷◌, [], None, Some, codes, false, refl, true}
use Rattle.clap.specs.Words.{Text, fault_of, subcommand_of}
use Rattle.clap.proofs.OnLiterals.{clap_on_literals}
use Rattle.command_line.specs.Asking.{given_in, is_fit, is_stop, word_in}
use Rattle.command_line.specs.Commands.{program}
use Rattle.command_line.specs.Examples.{expecting_words, stopping_words}
use Rattle.command_line.proofs.laws.rows_are_taken.Goals as goal

no_fault : (name : Text) → fault_of program (name ∷ codes "apply" ∷ codes "ashby.db" ∷ []) ≡ []
unfolding clap_on_literals
no_fault name = refl

fits : (name : Text) → is_fit (subcommand_of program (name ∷ codes "apply" ∷ codes "ashby.db" ∷ [])) ≡ true
unfolding clap_on_literals
fits name = refl

is_whole : (name : Text) → is_stop (subcommand_of program (name ∷ codes "apply" ∷ codes "ashby.db" ∷ [])) ≡ false
unfolding clap_on_literals
is_whole name = refl

no_fault_stopping : (name : Text) → fault_of program (stopping_words name) ≡ []
unfolding clap_on_literals
no_fault_stopping name = refl

fits_stopping : (name : Text) → is_fit (subcommand_of program (stopping_words name)) ≡ true
unfolding clap_on_literals
fits_stopping name = refl

has_file : (name : Text) → word_in (subcommand_of program (stopping_words name)) (codes "FILE") ≡ codes "ashby.db"
unfolding clap_on_literals
has_file name = refl

stops_there : (name : Text) → is_stop (subcommand_of program (stopping_words name)) ≡ true
unfolding clap_on_literals
stops_there name = refl

none_expected : (name : Text) → given_in (subcommand_of program (stopping_words name)) (codes "expect") ≡ None
unfolding clap_on_literals
none_expected name = refl

no_fault_expecting : (name : Text) → fault_of program (expecting_words name) ≡ []
unfolding clap_on_literals
no_fault_expecting name = refl

fits_expecting : (name : Text) → is_fit (subcommand_of program (expecting_words name)) ≡ true
unfolding clap_on_literals
fits_expecting name = refl

has_answers : (name : Text) → given_in (subcommand_of program (expecting_words name)) (codes "expect")
    ≡ Some (codes "answers.csv")
unfolding clap_on_literals
has_answers name = refl

pub returns-clause-taken : goal.returns-clause-taken
returns-clause-taken c = λ name. (no_fault name, fits name)

pub returns-clause-whole : goal.returns-clause-whole
returns-clause-whole c = is_whole

pub returns-clause-stop_taken : goal.returns-clause-stop_taken
returns-clause-stop_taken c = λ name. (no_fault_stopping name, fits_stopping name)

pub returns-clause-file : goal.returns-clause-file
returns-clause-file c = has_file

pub returns-clause-stops : goal.returns-clause-stops
returns-clause-stops c = stops_there

pub returns-clause-unexpected : goal.returns-clause-unexpected
returns-clause-unexpected c = none_expected

pub returns-clause-expecting_taken : goal.returns-clause-expecting_taken
returns-clause-expecting_taken c = λ name. (no_fault_expecting name, fits_expecting name)

pub returns-clause-answers : goal.returns-clause-answers
returns-clause-answers c = has_answers
