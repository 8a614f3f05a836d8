-- The verbs of commands, and the word of each: a rule of our own.
use Rattle.std.specs.Prelude.{ℕ, List, [], ◌∷◌, codes, Option}
use Rattle.record_fields.specs.Words.{found}
use Rattle.commands.specs.declared.verb.Verb.{Verb}
use Rattle.commands.specs.declared.verb.Verb.TheVariants as verb

abbrev pub verb_word : Verb → List ℕ
verb_word verb.Person = codes "person"
verb_word verb.Name = codes "name"
verb_word verb.Sex = codes "sex"
verb_word verb.Family = codes "family"
verb_word verb.Child = codes "child"
verb_word verb.Event = codes "event"
verb_word verb.Amend = codes "amend"
verb_word verb.Participant = codes "participant"
verb_word verb.Place = codes "place"
verb_word verb.Repo = codes "repo"
verb_word verb.Source = codes "source"
verb_word verb.Citation = codes "citation"
verb_word verb.Entry = codes "entry"
verb_word verb.Link = codes "link"
verb_word verb.Unlink = codes "unlink"
verb_word verb.Merge = codes "merge"
verb_word verb.Undo = codes "undo"
verb_word verb.Remove = codes "remove"
verb_word verb.Partner = codes "partner"
verb_word verb.Unpartner = codes "unpartner"
verb_word verb.Unchild = codes "unchild"
verb_word verb.Unparticipant = codes "unparticipant"
verb_word verb.Correct = codes "correct"

abbrev pub verbs : List Verb
verbs =
    verb.Person ∷ verb.Name ∷ verb.Sex ∷ verb.Family ∷ verb.Child ∷ verb.Event ∷ verb.Amend ∷ verb.Participant
    ∷ verb.Place ∷ verb.Repo ∷ verb.Source ∷ verb.Citation
    ∷ verb.Entry ∷ verb.Link ∷ verb.Unlink ∷ verb.Merge ∷ verb.Undo ∷ verb.Remove
    ∷ verb.Partner ∷ verb.Unpartner ∷ verb.Unchild ∷ verb.Unparticipant ∷ verb.Correct ∷ []

-- the verb of a word
unfoldable pub verb_of : List ℕ → Option Verb
verb_of word = found verb_word verbs word
