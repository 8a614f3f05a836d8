-- What holds of the content that a view shows.
use Rattle.archive_state.specs.Content.{Content}
use Rattle.archive_state.specs.Looks.{OnView}
use Rattle.archive_state.specs.declared.view.View.{Ghosts}

-- `OnView` of a view, between two moments of it
abbrev pub On : {V : Type 0} → Ghosts V → V → V → (Content → Type 0) → Type 0
On g before after P = OnView g.is_honest g.shows g.content before after P
