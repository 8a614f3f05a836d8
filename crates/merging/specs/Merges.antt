-- What a merge and its undoing make of records, by the numbers that they change. Rules of our own.
use Rattle.std.specs.Prelude.{
  ℕ,
  ◌≡◌,
  List,
  [],
  ◌∷◌,
  map,
  Bool,
  true,
  false,
  not,
  ◌&&◌,
  ◌||◌,
  ◌==◌,
  nat_lt,
  Option,
  Some,
  None,
  is_none,
  if◌then◌else◌,
}
use Rattle.std.specs.List.{list_any, filter, flat_map}
use Rattle.std.specs.FinMap.{get, insert, remove, entries}
use Rattle.record_kinds.specs.declared.record.Record.{Record}
use Rattle.record_kinds.specs.declared.record.Record.TheVariants as kind
use Rattle.archive_state.specs.Links.{links, is_among}
use Rattle.record_shapes.specs.Lists.{EachOf}
use Rattle.archive_state.specs.Applied.{with_puts, as_undone}
use Rattle.archive_state.specs.Content.{Content, Records}
use Rattle.archive_state.specs.Merging.{merged, clashes}
use Rattle.archive_state.specs.Referrers.{referrers}
use Rattle.archive_state.specs.Slips.{Slip}
use Rattle.archive_state.specs.Sound.{old_records}
use Rattle.archive_state.specs.declared.slip.Change.{Change}
use Rattle.archive_state.specs.declared.changes.Numbered.{Numbered}
use Rattle.merging.specs.Comparing.{is_same_record}

-- ---- what a merge changes
abbrev pub is_empty : {A : Type 0} → List A → Bool
is_empty [] = true
is_empty (a ∷ rest) = false

-- a person without name, sex and carried line, who adds nothing to another
abbrev pub adds_nothing : Option Record → Bool
adds_nothing (Some (kind.Person p)) = is_empty p.names && (is_none p.sex && is_empty p.carried)
adds_nothing _ = false

-- the person that is gone; the one that stays, where the other adds something; each record that names the one that is
-- gone
abbrev pub is_changed : ℕ → ℕ → Records → ℕ → Record → Bool
is_changed keep gone m n r = n == gone || ((n == keep && not (adds_nothing (get m gone))) || is_among gone (links r))

-- a number with its old record and its new one
abbrev pub change_at : ℕ → ℕ → Records → ℕ × Record → Change
change_at keep gone m e = record { number = e.0; old = e.1; new = merged keep gone (get m) e.0 }

-- the changed numbers, ascending
abbrev pub merge_changes : ℕ → ℕ → Records → List Change
merge_changes keep gone m = map (change_at keep gone m) (filter (λ e. is_changed keep gone m e.0 e.1) (entries m))

-- a number among those that ascend
abbrev pub with_number : ℕ → List ℕ → List ℕ
with_number n [] = n ∷ []
with_number n (k ∷ ks) = if n == k then k ∷ ks else (if nat_lt n k then n ∷ (k ∷ ks) else k ∷ with_number n ks)

-- the same numbers, of the records that name the one that is gone
abbrev pub changed_numbers : ℕ → ℕ → Content → List ℕ
changed_numbers keep gone c = with_number gone
    (if adds_nothing (get c.records gone) then referrers c gone else with_number keep (referrers c gone))

-- some record is a family of both, and not of both as children
abbrev pub is_clash : ℕ → ℕ → Records → Bool
is_clash keep gone m = list_any (λ e. clashes keep gone e.1) (entries m)

-- ---- records with changes made
-- what is put where a record is
abbrev pub put_of : ℕ → Option Record → List Numbered
put_of n None = []
put_of n (Some r) = record { number = n; «record» = r } ∷ []

abbrev pub put_new : Change → List Numbered
put_new c = put_of c.number c.new

-- an old record is put back where it is not the new one too
abbrev pub put_old : Change → List Numbered
put_old c = put_of c.number (if is_same_record (Some c.old) c.new then None else Some c.old)

-- the new records, and no person that is gone
abbrev pub merged_records : ℕ → ℕ → Records → Records
merged_records keep gone m = remove (with_puts m (flat_map put_new (merge_changes keep gone m))) gone

-- the old records again
abbrev pub undone_records : Slip → Records → Records
undone_records s m = with_puts m (flat_map put_old s.changes)

-- ---- the slip
abbrev pub slip_of : ℕ → ℕ → Records → Slip
slip_of keep gone m = record { keep = keep; gone = gone; changes = merge_changes keep gone m; is_undone = false }

-- ---- what an archive holds after it
-- the slip gets the next number
abbrev pub with_merge : ℕ → ℕ → Content → ℕ → Content
with_merge keep gone c next = record c {
  records = merged_records keep gone c.records;
  next = next;
  slips = insert c.slips c.next (slip_of keep gone c.records);
}

abbrev pub with_undo : ℕ → Slip → Content → Content
with_undo n s c = record c { records = undone_records s c.records; slips = insert c.slips n (as_undone s) }

-- what is put over another
abbrev pub over : {A : Type 0} → Option A → Option A → Option A
over None o = o
over (Some a) o = Some a

-- the changes of a slip are those of a merge of these records: each number whose record differs, with both
pub record HoldsChanges (keep gone : ℕ) (m : Records) (s : Slip) : Type 0 where
  pub keeps : s.keep ≡ keep
  pub goes : s.gone ≡ gone
  -- with what each becomes
  pub new : EachOf (λ (x : Change). x.new ≡ merged keep gone (get m) x.number) s.changes
  -- a number in the slip has another record then
  pub differs : (n : ℕ) (r : Record) → get (old_records s) n ≡ Some r → (get m n ≡ Some r)
      × (merged keep gone (get m) n ≡ Some r → ⊥)
  -- a number that is not in the slip has the record of before
  pub others : (n : ℕ) → get (old_records s) n ≡ None → merged keep gone (get m) n ≡ get m n
