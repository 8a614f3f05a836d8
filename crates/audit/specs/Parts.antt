-- The parts of the rule on the slip of a merge, and which of them it breaks.
use Rattle.std.specs.Prelude.{ℕ, ◌≡◌, ◌≢◌, ◌∷◌, true, false, List, map, Some, MatchOption}
use Rattle.std.specs.List.{flat_map}
use Rattle.std.specs.FinMap.{get}
use Rattle.record_kinds.specs.declared.record.Record.{Record}
use Rattle.record_shapes.specs.Lists.{Ascends, EachOf}
use Rattle.archive_state.specs.declared.slip.Change.{Change}
use Rattle.archive_state.specs.Content.{Records}
use Rattle.archive_state.specs.Merging.{clashes, merged}
use Rattle.archive_state.specs.Slips.{Slip}
use Rattle.archive_state.specs.Sound.{EachIn, IsEmptyPerson, IsNumber, IsPerson, change_names, old_records}
use Rattle.sound_records.specs.Parts.{AreWhole, IsBreach}
use Rattle.audit.specs.declared.part.SlipPart.{SlipPart}
use Rattle.audit.specs.declared.part.SlipPart.TheVariants as part

-- the numbers of the changes
abbrev pub changed : List Change → List ℕ
changed cs = map (λ (c : Change). c.number) cs

-- all numbers in a slip
abbrev pub all_numbers : ℕ → Slip → List ℕ
all_numbers n s = n ∷ (s.keep ∷ (s.gone ∷ flat_map change_names s.changes))

-- what stands at the number is a person
abbrev pub HasPersonAt : Records → ℕ → Type 0
HasPersonAt m n = (r : Record) × (get m n ≡ Some r) × IsPerson r

-- a person stays, or nothing of it changed, since the other was empty
abbrev pub HasKeep : Records → ℕ → ℕ → Type 0
HasKeep m keep gone = MatchOption (get m keep) ((r : Record) → get m gone ≡ Some r → IsEmptyPerson r) IsPerson

-- no record is a family of both, but with both as its children
abbrev pub AreJoinable : Records → ℕ → ℕ → Type 0
AreJoinable m keep gone = EachIn m (λ n r. clashes keep gone r ≡ false)

-- what is new is the merge of what is old
abbrev pub IsMergeIn : Records → ℕ → ℕ → Change → Type 0
IsMergeIn m keep gone c = c.new ≡ merged keep gone (get m) c.number

abbrev pub AreMerges : Records → ℕ → ℕ → List Change → Type 0
AreMerges m keep gone cs = EachOf (IsMergeIn m keep gone) cs

-- which part the two persons break
abbrev pub BreaksPersons : Records → ℕ → ℕ → SlipPart → Type 0
BreaksPersons m keep gone part.Gone = ¬ (HasPersonAt m gone)
BreaksPersons m keep gone part.Keep = ¬ (HasKeep m keep gone)
BreaksPersons m keep gone part.Same = keep ≡ gone
BreaksPersons m keep gone part.Clash = ¬ (AreJoinable m keep gone)
BreaksPersons m keep gone _ = ⊥

-- which part old records and changes break
abbrev pub BreaksInside : ℕ → Records → ℕ → ℕ → List Change → SlipPart → Type 0
BreaksInside next m keep gone cs part.Merge = ¬ (AreMerges m keep gone cs)
BreaksInside next m keep gone cs (part.Old b) = IsBreach next true m b
BreaksInside next m keep gone cs p = BreaksPersons m keep gone p

-- the slip of that number breaks that part
abbrev pub BreaksSlip : ℕ → ℕ → Slip → SlipPart → Type 0
BreaksSlip next n s part.Number = ¬ (EachOf (IsNumber next) (all_numbers n s))
BreaksSlip next n s part.Order = ¬ (Ascends (changed s.changes))
BreaksSlip next n s p = BreaksInside next (old_records s) s.keep s.gone s.changes p

-- the two persons keep their parts
pub record KeepsPersons (m : Records) (keep gone : ℕ) : Type 0 where
  pub gone_person : HasPersonAt m gone
  pub keep_person : HasKeep m keep gone
  pub apart : keep ≢ gone
  pub joinable : AreJoinable m keep gone

-- old records and changes keep theirs
pub record KeepsInside (next : ℕ) (m : Records) (keep gone : ℕ) (cs : List Change) : Type 0 where
  pub persons : KeepsPersons m keep gone
  pub merges : AreMerges m keep gone cs
  pub whole : AreWhole next true m
