-- Rows that are served up to the first that is refused: after it none is done. Rules of our own.
use Rattle.std.specs.Prelude.{
  ◌≡◌,
  ◌++◌,
  ◌∷◌,
  [],
  ◌≤◌,
  ℕ,
  Bool,
  true,
  false,
  List,
  length,
  nat_le,
  Option,
  None,
  Some,
  if◌then◌else◌,
}
use Rattle.std.specs.List.{AllByRecursion}
use Rattle.sqlite_trees.specs.declared.store.Store.{Ghosts}
use Rattle.record_text.specs.declared.refusal.Refusal.{Refusal}
use Rattle.record_text.specs.declared.refusal.RefusalKind.{RefusalKind}
use Rattle.archive_input.specs.Answers.{Served}
use Rattle.archive_input.specs.RowByRow.{AppliedInTurn, EndedInTurn, Moment, StoppedInTurn, refusal_of}

-- none of the rows was refused
abbrev pub AreAccepted : List Served → Type 0
AreAccepted served = AllByRecursion (λ (s : Served). refusal_of s ≡ None) served

-- none was but the last, where that was
abbrev pub IsUpToRefusal : List Served → Type 0
IsUpToRefusal served = (first : List Served) × (last : List Served) × (served ≡ first ++ last) × (length last ≤ 1)
    × AreAccepted first

-- the number of a row as a refusal has it: the greatest of 32 bits where it is above that
abbrev pub row_place : ℕ → ℕ
row_place number = if nat_le number 4294967295 then number else 4294967295

-- the last row was refused so, and none before it
abbrev pub IsRefusedLast : List Served → Refusal → Type 0
IsRefusedLast served e = (first : List Served) × (last : Served) × (served ≡ first ++ last ∷ []) × AreAccepted first
    × (refusal_of last ≡ Some e.kind) × (e.at ≡ Some (row_place (length served)))

module _ {S W F : Type 0} (g : Ghosts S) (written : W → Option (List ℕ)) (told : F → Option (List ℕ)) where
  -- all rows were served, and none was refused; or the first rows, up to one that was
  abbrev pub AppliedUntilRefused : Option Refusal → Option (List ℕ) → Moment g W F → Moment g W F → Type 0
  AppliedUntilRefused None input a b = (all : AppliedInTurn g written told input a b) × AreAccepted all.0.served
  AppliedUntilRefused (Some e) input a b = (part : StoppedInTurn g written told input a b)
      × IsRefusedLast part.0.served e

  -- the call ended early, and of the rows that were served whole none was refused
  abbrev pub EndedUntilRefused : RefusalKind → Option (List ℕ) → Moment g W F → Moment g W F → Type 0
  EndedUntilRefused kind input a b = (part : EndedInTurn g written told kind input a b) × AreAccepted part.1.0

  -- both by whether the call stops at a refusal; where it does not all rows are served, as they are
  abbrev pub AppliedAs : Bool → Option Refusal → Option (List ℕ) → Moment g W F → Moment g W F → Type 0
  AppliedAs true stop input a b = AppliedUntilRefused stop input a b
  AppliedAs false None input a b = AppliedInTurn g written told input a b
  AppliedAs false (Some e) input a b = ⊥

  abbrev pub EndedAs : Bool → RefusalKind → Option (List ℕ) → Moment g W F → Moment g W F → Type 0
  EndedAs true kind input a b = EndedUntilRefused kind input a b
  EndedAs false kind input a b = EndedInTurn g written told kind input a b
