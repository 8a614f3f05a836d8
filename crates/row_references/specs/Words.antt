-- The number that a word gives: itself, or by the token of a reference. Rules of our own.
use Rattle.std.specs.Prelude.{ℕ, Option, Some}
use Rattle.archive_state.specs.Content.{Content}
use Rattle.row_references.specs.References.{kept_number}
use Rattle.row_references.specs.declared.words.NumberWord.{NumberWord}
use Rattle.row_references.specs.declared.words.NumberWord.TheVariants.{Number, Reference}

-- none: nothing is stored for its token, or an answer that made nothing
abbrev pub number_in : Content → NumberWord → Option ℕ
number_in c (Number n) = Some n
number_in c (Reference token) = kept_number c token
