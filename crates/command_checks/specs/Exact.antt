-- How little is changed: what changes, once. Rules of our own.
use Rattle.std.specs.Prelude.{ℕ, ◌≡◌, ◌≢◌, ◌==◌, List, [], map, Option, Some, None, option_map, false}
use Rattle.std.specs.List.{list_any}
use Rattle.std.specs.FinMap.{get}
use Rattle.archive_state.specs.Changes.{Changes}
use Rattle.archive_state.specs.Content.{Content, Slips}
use Rattle.archive_state.specs.Slips.{Slip}
use Rattle.record_shapes.specs.Lists.{Ascends, EachOf}
use Rattle.archive_state.specs.Sound.{IsSound}
use Rattle.archive_state.specs.declared.changes.Numbered.{Numbered}
use Rattle.archive_state.specs.declared.changes.SlipChange.{SlipChange}
use Rattle.archive_state.specs.declared.changes.SlipChange.TheVariants as change

-- the numbers that get a record
abbrev pub put_numbers : Changes → List ℕ
put_numbers changes = map (λ (p : Numbered). p.number) changes.puts

-- a slip is made where none is, and one is undone that is there and was not undone
abbrev pub IsExactSlip : Slips → Option SlipChange → Type 0
IsExactSlip m None = Unit {0}
IsExactSlip m (Some (change.Made n slip)) = get m n ≡ None
IsExactSlip m (Some (change.Undone n)) = option_map (λ (s : Slip). s.is_undone) (get m n) ≡ Some false

-- the changes are of what differs, and of nothing else. What is asked of slips, and of what is put back from one, is
-- asked in a sound archive: elsewhere a slip may be anything
pub record IsExact (c : Content) (changes : Changes) : Type 0 where
  -- the numbers that get a record ascend, so that each is there once; those whose records are removed, too
  pub puts : IsSound c → Ascends (put_numbers changes)
  pub removals : Ascends changes.removals
  -- none gets a record and loses it
  pub apart : EachOf (λ n. list_any (λ m. m == n) (put_numbers changes) ≡ false) changes.removals
  -- no record is put where it is already; a new one is put where a sound archive has none
  pub new : IsSound c → EachOf (λ (p : Numbered). get c.records p.number ≢ Some p.«record») changes.puts
  -- a record is removed where one is
  pub there : EachOf (λ n. get c.records n ≢ None) changes.removals
  pub slip : IsSound c → IsExactSlip c.slips changes.slip

-- nothing changes
pub record ChangesNothing (c : Content) (changes : Changes) : Type 0 where
  pub puts : changes.puts ≡ []
  pub removals : changes.removals ≡ []
  pub next : changes.next ≡ c.next
  pub kept : changes.kept ≡ None
  pub slip : changes.slip ≡ None
