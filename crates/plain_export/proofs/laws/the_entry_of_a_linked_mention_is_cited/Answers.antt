use Rattle.plain_export.proofs.Splitting.{has_words, is_cited}
use Rattle.plain_export.proofs.laws.the_entry_of_a_linked_mention_is_cited.Goals as goal

pub returns-clause-cited : goal.returns-clause-cited
returns-clause-cited c = λ m n e x l found among linked. is_cited m e x l among linked n found

pub returns-clause-words : goal.returns-clause-words
returns-clause-words c = has_words
