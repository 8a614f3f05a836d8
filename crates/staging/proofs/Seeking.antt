-- What the records of an import are looked for by, one after the other.
use Rattle.std.proofs.Common.{◌≡◌, ◌<◌, ℕ, ◌+◌, List, [], ◌∷◌, ◌++◌, ap, get_or, length, map, sym, take, ◌∙◌}
use Rattle.std.specs.List.{flat_map}
use Rattle.std.proofs.lemmas.Grind.{flat_map-append}
use Rattle.std.proofs.lemmas.List.{append-nil}
use Rattle.archive_state.specs.declared.changes.Numbered.{Numbered}
use Rattle.staged_rows.specs.Staging.{StagedRow, sought_row}
use Rattle.staging.proofs.Counting.{taken_next}

-- rows that are those of the records so far, with those of one more
pub next_sought : (ps : List Numbered) (i : ℕ) (p : Numbered) (old new : List StagedRow) → i < length ps
    → p ≡ get_or ps i p → new ≡ old ++ sought_row p → old ≡ flat_map sought_row (take i ps)
    → new ≡ flat_map sought_row (take (i + 1) ps)
next_sought ps i p old new low at is was =
    is ∙ ap (λ rs. rs ++ sought_row p) was
    ∙ ap (λ rs. flat_map sought_row (take i ps) ++ rs) (sym (append-nil (sought_row p)))
    ∙ sym (flat_map-append sought_row (take i ps) (p ∷ []))
    ∙ ap (flat_map sought_row) (sym (taken_next ps i p low at))
