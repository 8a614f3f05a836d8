-- Parts of a record with each number in them changed.
use Rattle.std.specs.Prelude.{ℕ}
use Rattle.record_kinds.specs.Model as model
use Rattle.archive_state.specs.Merging.{lines_with}

abbrev pub repo_with : (ℕ → ℕ) → model.Repo → model.Repo
repo_with f r = record r { carried = lines_with f r.carried }
