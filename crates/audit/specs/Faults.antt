-- What is found where an archive is not sound.
use Rattle.std.specs.Prelude.{ℕ, ◌≡◌, ◌<◌, ◌≤◌, List, Some, None, false, IfSome}
use Rattle.std.specs.FinMap.{get}
use Rattle.record_shapes.specs.Lists.{EachOf}
use Rattle.archive_state.specs.Content.{Content}
use Rattle.archive_state.specs.Slips.{Slip}
use Rattle.archive_state.specs.Sound.{IsPerson, IsSoundSlip}
use Rattle.sound_records.specs.Parts.{IsBreach}
use Rattle.audit.specs.Parts.{BreaksSlip}
use Rattle.audit.specs.declared.fault.Fault.{Fault}
use Rattle.audit.specs.declared.fault.Fault.TheVariants as fault

-- the next number is from 1, and at most one more than the last that there is
abbrev pub IsNext : ℕ → Type 0
IsNext next = (0 < next) × (next ≤ 4294967296)

-- a slip stands at the number, and this holds of it
abbrev pub HasSlip : Content → ℕ → (Slip → Type 0) → Type 0
HasSlip c n P = (s : Slip) × (get c.slips n ≡ Some s) × P s

-- what the fault says is so
abbrev pub IsFault : Content → Fault → Type 0
IsFault c fault.Next = ¬ (IsNext c.next)
IsFault c (fault.Record b) = IsBreach c.next false c.records b
IsFault c (fault.Shared n) = HasSlip c n (λ s. ¬ (get c.records n ≡ None))
IsFault c (fault.Slip n p) = HasSlip c n (λ s. BreaksSlip c.next n s p)
IsFault c (fault.Stayed n) = HasSlip c n (λ s. ¬ (IfSome (get c.records s.keep) IsPerson))
IsFault c (fault.Taken n) = HasSlip c n (λ s. ¬ (get c.slips s.gone ≡ None))

-- the slip of a number keeps its rules
pub record KeepsSlip (c : Content) (n : ℕ) (s : Slip) : Type 0 where
  pub distinct : get c.records n ≡ None
  pub sound : IsSoundSlip c.next n s
  pub stayed : IfSome (get c.records s.keep) IsPerson
  pub free : get c.slips s.gone ≡ None

-- whatever slip stands at the number keeps them
abbrev pub KeepsSlipAt : Content → ℕ → Type 0
KeepsSlipAt c n = (s : Slip) → get c.slips n ≡ Some s → KeepsSlip c n s

-- so does each of these numbers
abbrev pub KeepSlips : Content → List ℕ → Type 0
KeepSlips c ns = EachOf (KeepsSlipAt c) ns
