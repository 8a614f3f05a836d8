-- What a merge and an undoing look at, one check after the other. Rules of our own.
use Rattle.std.specs.Prelude.{ℕ, ◌+◌, List, [], ◌∷◌, Bool, false, not, Option, Some, None, Result}
use Rattle.std.specs.List.{list_any, flat_map}
use Rattle.std.specs.FinMap.{get}
use Rattle.record_text.specs.declared.refusal.RefusalKind.{RefusalKind}
use Rattle.record_text.specs.declared.refusal.RefusalKind.TheVariants.{AlreadyUndone, ChangedSince}
use Rattle.record_kinds.specs.declared.record.Record.{Record}
use Rattle.archive_state.specs.Changes.{Changes}
use Rattle.archive_state.specs.Content.{Content, Records}
use Rattle.archive_state.specs.Merging.{clashes}
use Rattle.archive_state.specs.Slips.{Slip}
use Rattle.archive_state.specs.declared.changes.SlipChange.TheVariants as change
use Rattle.archive_state.specs.declared.slip.Change.{Change}
use Rattle.commands.specs.Rows.{and_then}
use Rattle.command_checks.specs.Checks.{need}
use Rattle.merging.specs.Comparing.{is_now}
use Rattle.merging.specs.Merges.{change_at, merge_changes, put_new, slip_of}

-- what stands there is a family of both, and not of both as children
abbrev pub clashes_in : ℕ → ℕ → Option Record → Bool
clashes_in keep gone None = false
clashes_in keep gone (Some r) = clashes keep gone r

-- the same of some of these numbers
abbrev pub clashes_among : ℕ → ℕ → Records → List ℕ → Bool
clashes_among keep gone m ns = list_any (λ n. clashes_in keep gone (get m n)) ns

-- the change of a number, where a record stands
abbrev pub change_of : ℕ → ℕ → Records → ℕ → Option Record → List Change
change_of keep gone m n None = []
change_of keep gone m n (Some r) = change_at keep gone m (n, r) ∷ []

abbrev pub changes_of : ℕ → ℕ → Records → List ℕ → List Change
changes_of keep gone m ns = flat_map (λ n. change_of keep gone m n (get m n)) ns

-- the changes of a merge whose slip gets that number
abbrev pub made_changes : ℕ → ℕ → Content → ℕ → Changes
made_changes keep gone c n = record {
  puts = flat_map put_new (merge_changes keep gone c.records);
  removals = gone ∷ [];
  next = n + 1;
  answer = record { first = n; count = 1 };
  kept = None;
  slip = Some (change.Made n (slip_of keep gone c.records));
}

-- an undoing that is not refused: the merge was not undone, and each number has its new record
abbrev pub may_undo : Records → Slip → Result (Unit {0}) RefusalKind
may_undo m s =
    and_then (need (not s.is_undone) AlreadyUndone) (λ _.
    need (is_now m s.changes) ChangedSince)
