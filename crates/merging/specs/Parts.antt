-- Parts of what a merge makes, as they are made one by one.
use Rattle.std.specs.Prelude.{ℕ, codes}
use Rattle.stored_lines.specs.Tree.{Tree, node, none}
use Rattle.stored_lines.specs.Line.{Line}
use Rattle.stored_lines.specs.declared.carried.Value.TheVariants as value
use Rattle.record_fields.specs.Words.{sex_word}
use Rattle.record_fields.specs.declared.words.Sex.{Sex}
use Rattle.record_kinds.specs.Model as model
use Rattle.archive_state.specs.Merging.{lines_with}

-- a repository with each number changed
abbrev pub repo_with : (ℕ → ℕ) → model.Repo → model.Repo
repo_with f r = record r { carried = lines_with f r.carried }

-- the line of a sex
abbrev pub sex_line : Sex → Tree Line
sex_line s = node (record { tag = codes "SEX"; value = value.Text (sex_word s) }) none
