-- Rows that are served up to the first that is refused, and how that ends.
use Rattle.std.proofs.Common.{
  ◌≡◌,
  ◌++◌,
  ◌∷◌,
  ◌∙◌,
  ℕ,
  Bool,
  true,
  false,
  List,
  [],
  Option,
  None,
  Some,
  Ok,
  Err,
  ap,
  arith,
  length,
  refl,
  sym,
}
use Rattle.std.specs.Prelude.{Result, IfOk}
use Rattle.list_laws.proofs.Lists.{all_then}
use Rattle.sqlite_trees.specs.declared.store.Store.{Ghosts}
use Rattle.record_text.specs.declared.refusal.Refusal.{Refusal}
use Rattle.record_text.specs.declared.refusal.RefusalKind.{RefusalKind}
use Rattle.request_csv.specs.Input.{AreFirstRows, AreRows, Row}
use Rattle.archive_input.specs.Answers.{Served}
use Rattle.archive_input.specs.RowByRow.{AppliedInTurn, Moment, ServesAll, ServesUpTo, refusal_of}
use Rattle.archive_input.specs.Stopping.{AppliedAs, AreAccepted, EndedAs, IsRefusedLast, row_place}
use Rattle.archive_input.proofs.InTurn.{InTurn, none_more}
use Rattle.archive_input.proofs.OnTheWay.{AppliedWith, EndedWith}

-- where the call stops at a refusal, none was refused so far
abbrev pub AcceptedSoFar : Bool → List Served → Type 0
AcceptedSoFar stops served = stops ≡ true → AreAccepted served

pub accepted_more : (stops : Bool) (served : List Served) (s : Served) (refused : Option RefusalKind)
    → AcceptedSoFar stops served → refused ≡ refusal_of s → (stops ≡ true → refused ≡ None)
    → AcceptedSoFar stops (served ++ s ∷ [])
accepted_more stops served s refused so is none = λ stop.
    all_then (λ (x : Served). refusal_of x ≡ None) served s (so stop) (sym is ∙ none stop)

pub refused_last : (stops : Bool) (served : List Served) (s : Served) (refused : Option RefusalKind) (e : Refusal)
    (count : ℕ) → AcceptedSoFar stops served → refused ≡ refusal_of s → count ≡ length (served ++ s ∷ [])
    → (stops ≡ true) × (refused ≡ Some e.kind) × (e.at ≡ Some (row_place count))
    → IsRefusedLast (served ++ s ∷ []) e
refused_last stops served s refused e count so is counted stop = (
  served,
  s,
  refl,
  so stop.0,
  sym is ∙ stop.1,
  stop.2 ∙ ap (λ (n : ℕ). Some (row_place n)) counted,
)

-- rows that were served each in its turn, this many
abbrev pub TurnSoFar : {S W F : Type 0} (g : Ghosts S) → (W → Option (List ℕ)) → (F → Option (List ℕ)) → Bool → ℕ
    → Moment g W F → Moment g W F → List Row → List Served → Type 0
TurnSoFar g written told stops count a b rows served =
    InTurn g written told count a b rows served × AcceptedSoFar stops served

module _ {S W F : Type 0} (g : Ghosts S) (written : W → Option (List ℕ)) (told : F → Option (List ℕ))
    (known : Option (List ℕ)) (a b : Moment g W F) where
  abbrev pub AllSoFar : Bool → List Row → List Served → Type 0
  AllSoFar stops rows served = ServesAll g written told 1 rows served a b × AcceptedSoFar stops served

  abbrev pub UpToSoFar : Bool → List Row → List Served → Type 0
  UpToSoFar stops rows served = (up : ServesUpTo g written told rows served a b.faults) × AcceptedSoFar stops up.0

  abbrev pub AllRefused : Refusal → List Row → List Served → Type 0
  AllRefused e rows served = ServesAll g written told 1 rows served a b × IsRefusedLast served e

  pub applied_as : (stops : Bool)
      → AppliedWith AreRows g known (written a.output) (written b.output) a.archive b.archive (AllSoFar stops)
      → AppliedAs g written told stops None known a b
  applied_as true all = ((all.0, all.1.0), all.1.1 refl)
  applied_as false all = (all.0, all.1.0)

  pub stopped_as : (stops : Bool) (e : Refusal) → stops ≡ true
      → AppliedWith AreFirstRows g known (written a.output) (written b.output) a.archive b.archive (AllRefused e)
      → AppliedAs g written told stops (Some e) known a b
  stopped_as true e is part = ((part.0, part.1.0), part.1.1)
  stopped_as false e is part = let wrong : ⊥ = cc in absurd wrong

  pub ended_as : (stops : Bool) (kind : RefusalKind)
      → EndedWith g kind known (written a.output) (written b.output) a.archive b.archive (UpToSoFar stops)
      → EndedAs g written told stops kind known a b
  ended_as true kind part = ((part.0, part.1.0), part.1.1 refl)
  ended_as false kind part = (part.0, part.1.0)

  pub ended_so : (stops : Bool) (kind : RefusalKind) → EndedAs g written told stops kind known a b
      → EndedWith g kind known (written a.output) (written b.output) a.archive b.archive (UpToSoFar stops)
  ended_so true kind part = (part.0.0, (part.0.1, λ is. part.1))
  ended_so false kind part = (part.0, (part.1, λ is. let wrong : ⊥ = cc in absurd wrong))

  -- the call ended before the next row, or in it; of that one nothing was reported
  pub up_so_far : (stops : Bool) (count : ℕ) (rows : List Row) (served : List Served) (m : Moment g W F)
      → InTurn g written told count a m rows served → b.faults ≡ m.faults → AcceptedSoFar stops served
      → UpToSoFar stops rows served
  up_so_far stops count rows served m turn same so = (
    (served, [], none_more served, omega arith, rows, [], none_more rows, m, turn.all, ap told same),
    so,
  )

  pub up_so_far_last : (stops : Bool) (count : ℕ) (rows : List Row) (served : List Served) (row : Row) (s : Served)
      (m : Moment g W F) → InTurn g written told count a m rows served → b.faults ≡ m.faults
      → AcceptedSoFar stops served → UpToSoFar stops (rows ++ row ∷ []) (served ++ s ∷ [])
  up_so_far_last stops count rows served row s m turn same so = (
    (served, s ∷ [], refl, omega arith, rows, row ∷ [], refl, m, turn.all, ap told same),
    so,
  )

  -- a call that does not stop
  pub applied_all : (r : Result (Option Refusal) RefusalKind) (stop : Option Refusal) → r ≡ Ok stop
      → IfOk r (λ s. AppliedAs g written told false s known a b) → AppliedInTurn g written told known a b
  applied_all (Ok None) stop is all = all
  applied_all (Ok (Some e)) stop is all = absurd all
  applied_all (Err kind) stop is all = let wrong : ⊥ = cc in absurd wrong
