-- What a plain export leaves out of an archive, by the numbers of its records. Rules of our own.
use Rattle.std.specs.Prelude.{ℕ, ◌≡◌, ◌&&◌, ◌||◌, ◌==◌, not, Bool, true, false, List, Option, Some, None}
use Rattle.std.specs.List.{filter, list_any}
use Rattle.std.specs.BTreeSet as set
use Rattle.std.specs.BTreeSet.{BTreeSet}
use Rattle.std.specs.FinMap.{get, keys}
use Rattle.std.specs.Ordering.{nat_cmp}
use Rattle.stored_lines.specs.Line.{Lines}
use Rattle.record_fields.specs.declared.words.Sex.{Sex}
use Rattle.record_kinds.specs.Model as model
use Rattle.record_kinds.specs.declared.record.Record.{Record}
use Rattle.record_kinds.specs.declared.record.Record.TheVariants as kind
use Rattle.archive_state.specs.Content.{Records}
use Rattle.plain_export.specs.Allowed.{has_lines}
use Rattle.plain_export.specs.Kept.{is_ours}
use Rattle.plain_export.specs.Plain.{is_sex}

-- a place with carried lines: they stand nowhere else
abbrev pub carries_lines : Option Record → Bool
carries_lines (Some (kind.Place p)) = has_lines p.carried
carries_lines _ = false

-- a record of no other kind with a tag of our own
abbrev pub is_our_own : Option Record → Bool
is_our_own (Some (kind.Other o)) = is_ours o.tag
is_our_own _ = false

-- a person who has a sex and carries a further one
abbrev pub carries_sex : Option Sex → Lines → Bool
carries_sex None ts = false
carries_sex (Some s) ts = list_any is_sex ts

abbrev pub has_second_sex : Option Record → Bool
has_second_sex (Some (kind.Person p)) = carries_sex p.sex p.carried
has_second_sex _ = false

-- ---- places that nothing names
abbrev pub is_it : ℕ → Option ℕ → Bool
is_it n None = false
is_it n (Some k) = k == n

abbrev pub is_there : ℕ → Option model.EventPlace → Bool
is_there n None = false
is_there n (Some p) = p.place == n

-- an event or an entry at the place, or a place within it: its name stands in a path
abbrev pub names_place : ℕ → Option Record → Bool
names_place n (Some (kind.Event e)) = is_there n e.place
names_place n (Some (kind.Entry e)) = is_it n e.place
names_place n (Some (kind.Place p)) = is_it n p.parent
names_place n _ = false

abbrev pub is_named : Records → ℕ → Bool
is_named m n = list_any (λ k. names_place n (get m k)) (keys m)

abbrev pub is_place : Option Record → Bool
is_place (Some (kind.Place p)) = true
is_place _ = false

abbrev pub is_unnamed : Records → ℕ → Bool
is_unnamed m n = is_place (get m n) && not (is_named m n)

-- a set that gets the numbers that pass a test, and no others
abbrev pub Gets : BTreeSet ℕ → BTreeSet ℕ → (ℕ → Bool) → Type 0
Gets before after test = (n : ℕ) → set.contains nat_cmp after n ≡ (set.contains nat_cmp before n || test n)

-- ---- all of it
-- the numbers whose records pass a test
abbrev pub those : (Option Record → Bool) → Records → List ℕ
those test m = filter (λ n. test (get m n)) (keys m)
