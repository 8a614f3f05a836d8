use Rattle.std.proofs.Common.{◌≡◌, [], Some, codes, refl, true}
use Rattle.clap.specs.Words.{Text, fault_of, subcommand_of}
use Rattle.clap.proofs.OnLiterals.{clap_on_literals}
use Rattle.command_line.specs.Asking.{is_fit, word_in}
use Rattle.command_line.specs.Meanings.{number_word}
use Rattle.command_line.specs.Commands.{program}
use Rattle.command_line.specs.Examples.{batch_words, referring_batch_words}
use Rattle.row_references.specs.declared.words.NumberWord.TheVariants.{Number, Reference}
use Rattle.command_line.proofs.laws.a_batch_is_taken.Goals as goal

no_fault : (name : Text) → fault_of program (batch_words name) ≡ []
unfolding clap_on_literals
no_fault name = refl

fits : (name : Text) → is_fit (subcommand_of program (batch_words name)) ≡ true
unfolding clap_on_literals
fits name = refl

has_file : (name : Text) → word_in (subcommand_of program (batch_words name)) (codes "FILE") ≡ codes "ashby.db"
unfolding clap_on_literals
has_file name = refl

has_source : (name : Text) → number_word (word_in (subcommand_of program (batch_words name)) (codes "source"))
    ≡ Some (Number 3)
unfolding clap_on_literals
has_source name = refl

has_token : (name : Text) → word_in (subcommand_of program (batch_words name)) (codes "token") ≡ codes "page-12"
unfolding clap_on_literals
has_token name = refl

no_other_fault : (name : Text) → fault_of program (referring_batch_words name) ≡ []
unfolding clap_on_literals
no_other_fault name = refl

fits_too : (name : Text) → is_fit (subcommand_of program (referring_batch_words name)) ≡ true
unfolding clap_on_literals
fits_too name = refl

refers : (name : Text) → number_word (word_in (subcommand_of program (referring_batch_words name)) (codes "source"))
    ≡ Some (Reference (codes "s1"))
unfolding clap_on_literals
refers name = refl

pub returns-clause-taken : goal.returns-clause-taken
returns-clause-taken c = λ name. (no_fault name, fits name)

pub returns-clause-file : goal.returns-clause-file
returns-clause-file c = has_file

pub returns-clause-source : goal.returns-clause-source
returns-clause-source c = has_source

pub returns-clause-token : goal.returns-clause-token
returns-clause-token c = has_token

pub returns-clause-referring_taken : goal.returns-clause-referring_taken
returns-clause-referring_taken c = λ name. (no_other_fault name, fits_too name)

pub returns-clause-referring_source : goal.returns-clause-referring_source
returns-clause-referring_source c = refers
