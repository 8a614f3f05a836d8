-- Which fields of a row of requests name a record or a slip: a rule of our own.
use Rattle.std.specs.Prelude.{
  ℕ,
  ◌||◌,
  Bool,
  List,
  [],
  ◌∷◌,
  get_or,
  Option,
  None,
  Some,
  bytes_eq,
  codes,
  if◌then◌else◌,
}
use Rattle.commands.specs.Verbs.{verb_of}
use Rattle.commands.specs.declared.verb.Verb.{Verb}
use Rattle.commands.specs.declared.verb.Verb.TheVariants as verb

-- of a correction, by the word of its field: the record, and the value of `place` and `repository`
abbrev pub is_number_field : List ℕ → Bool
is_number_field field = bytes_eq field (codes "place") || bytes_eq field (codes "repository")

abbrev pub corrected_fields : List ℕ → List ℕ
corrected_fields field = if is_number_field field then 2 ∷ 4 ∷ [] else 2 ∷ []

-- of each verb, with the word after its first field, by their places in the row: 0 is the token's, 1 the verb's. The
-- place of a mention or a participant names none
abbrev pub naming_fields : Verb → List ℕ → List ℕ
naming_fields verb.Person field = []
naming_fields verb.Name field = 2 ∷ []
naming_fields verb.Sex field = 2 ∷ []
naming_fields verb.Family field = 2 ∷ 3 ∷ []
naming_fields verb.Child field = 2 ∷ 3 ∷ []
naming_fields verb.Event field = 2 ∷ 6 ∷ []
naming_fields verb.Amend field = 2 ∷ 5 ∷ []
naming_fields verb.Participant field = 2 ∷ 3 ∷ []
naming_fields verb.Place field = 3 ∷ []
naming_fields verb.Repo field = []
naming_fields verb.Source field = 5 ∷ []
naming_fields verb.Citation field = 2 ∷ 3 ∷ []
naming_fields verb.Entry field = 2 ∷ 7 ∷ []
naming_fields verb.Link field = 2 ∷ 4 ∷ []
naming_fields verb.Unlink field = 2 ∷ []
naming_fields verb.Merge field = 2 ∷ 3 ∷ []
naming_fields verb.Undo field = 2 ∷ []
naming_fields verb.Remove field = 2 ∷ []
naming_fields verb.Partner field = 2 ∷ 4 ∷ []
naming_fields verb.Unpartner field = 2 ∷ 3 ∷ []
naming_fields verb.Unchild field = 2 ∷ 3 ∷ []
naming_fields verb.Unparticipant field = 2 ∷ []
naming_fields verb.Correct field = corrected_fields field

abbrev pub naming_by : Option Verb → List ℕ → List ℕ
naming_by None field = []
naming_by (Some v) field = naming_fields v field

-- of a row, by its verb; a row without a verb has none
abbrev pub naming_of : List (List ℕ) → List ℕ
naming_of (token ∷ word ∷ fields) = naming_by (verb_of word) (get_or fields 1 [])
naming_of _ = []
