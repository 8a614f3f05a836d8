-- All events and register entries between two days, from those that a loop has found.
use Rattle.std.proofs.Common.{◌≡◌, ℕ, List, refl, subst}
use Rattle.std.specs.Prelude.{Option, Some, None, ℤ}
use Rattle.std.specs.FinMap.{get, keys}
use Rattle.gedcom_date.specs.declared.value.Span.{Span}
use Rattle.record_kinds.specs.declared.record.Record.{Record}
use Rattle.archive_state.specs.Content.{Records}
use Rattle.date_spans.specs.Between.{AreAll, IsAmong, IsBetween}
use Rattle.date_spans.specs.Spans.{IsSpanOf, date_at}
use Rattle.archive_state.proofs.MapKeys.{among_keys, keys_ascend}
use Rattle.date_spans.proofs.Picked.{IsPicked, all_picked}

-- what is between days has a record
has_record : (m : Records) (n : ℕ) (found : Option Record) (span : Span) → get m n ≡ found
    → IsSpanOf (date_at found) (Some span) → IsAmong n (keys m)
has_record m n None span at is = absurd is
has_record m n (Some r) span at is = among_keys m n r at

pub all_found : (m : Records) (first last : ℤ) (numbers found : List ℕ) → numbers ≡ keys m
    → IsPicked (IsBetween m first last) numbers found → AreAll (IsBetween m first last) found
all_found m first last numbers found are h =
    all_picked (IsBetween m first last) (keys m) found
    (subst (λ (ns : List ℕ). IsPicked (IsBetween m first last) ns found) are h) (keys_ascend m)
    (λ n (span, is, meets). has_record m n (get m n) span refl is)
