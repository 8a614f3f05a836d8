-- What is judged of an archive before it is masked.
use Rattle.std.specs.Prelude.{ℕ, ◌≡◌, ◌↔◌, ◌⊎◌, ℤ, IsTrue, Some, None, false}
use Rattle.std.specs.FinMap.{get}
use Rattle.std.specs.Ordering.{nat_cmp}
use Rattle.std.specs.BTreeSet as set
use Rattle.std.specs.BTreeSet.{BTreeSet}
use Rattle.record_kinds.specs.declared.record.Record.{Record}
use Rattle.archive_state.specs.Links.{a_person, is_wanted}
use Rattle.record_text.specs.declared.refusal.Refusal.{Refusal}
use Rattle.record_text.specs.declared.refusal.RefusalKind.TheVariants as refusal
use Rattle.archive_state.specs.Content.{Records}
use Rattle.masking.specs.Life.{IsLiving}
use Rattle.masking.specs.Masking.{Judged, Judges, is_silent}

-- two sets as the tests who is living, and which entry is open
abbrev pub tests_of : BTreeSet ℕ → BTreeSet ℕ → Judged
tests_of living open_entries = record {
  living = set.contains nat_cmp living;
  is_open = set.contains nat_cmp open_entries;
}

-- the set has the living with the families that have a living partner
abbrev pub KnowsSilent : Records → BTreeSet ℕ → BTreeSet ℕ → Type 0
KnowsSilent m living silent = (n : ℕ) → set.contains nat_cmp silent n
    ≡ is_silent (set.contains nat_cmp living) n (get m n)

-- the sets tell who is living and which entries are open, and whose events and citations are gone
pub record IsJudgement (m : Records) (today : ℤ) (living silent open_entries : BTreeSet ℕ) : Type 0 where
  pub judges : Judges m today (tests_of living open_entries)
  pub silences : KnowsSilent m living silent

-- the set has the living
abbrev pub KnowsLiving : Records → ℤ → BTreeSet ℕ → Type 0
KnowsLiving m today living = (n : ℕ) → IsTrue (set.contains nat_cmp living n) ↔ IsLiving m today n

-- 50: there is no record of the number; 51: there is one of another kind; 1: memory was refused
abbrev pub IsRefused : Records → ℕ → Refusal → Type 0
IsRefused m n e = (e.at ≡ None) × ((e.kind ≡ refusal.OutOfMemory)
    ⊎ (((e.kind ≡ refusal.NoSuch) × (get m n ≡ None))
    ⊎ ((e.kind ≡ refusal.WrongKind) × ((r : Record) × (get m n ≡ Some r) × (is_wanted a_person r ≡ false)))))
