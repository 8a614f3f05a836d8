-- The places of an archive that a path is like which is to be made.
use Rattle.std.specs.Prelude.{ℕ, Bool, true, false, List, [], ◌∷◌, if◌then◌else◌}
use Rattle.std.specs.List.{list_any}
use Rattle.archive_state.specs.Content.{Content}
use Rattle.page_answers.specs.Likes.{like}
use Rattle.page_answers.specs.declared.answers.RowAnswer.{RowAnswer}

-- something is to be made for the row
abbrev pub is_written : List (List ℕ) → Bool
is_written [] = false
is_written (path ∷ paths) = true

abbrev pub has_news : List RowAnswer → Bool
has_news answers = list_any (λ (a : RowAnswer). is_written a.news) answers

-- the paths that a path is like; they are not looked for where nothing is to be made
abbrev pub likes_on : Content → List RowAnswer → List ℕ → List (List ℕ)
likes_on c answers path = if has_news answers then like c.records path else []
