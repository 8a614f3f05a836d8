-- Rows that were served each in its turn, and what is reported of them.
use Rattle.std.proofs.Common.{
  ◌≡◌,
  ◌+◌,
  ◌++◌,
  ◌∷◌,
  ℕ,
  List,
  [],
  Option,
  None,
  Some,
  refl,
  ap,
  subst,
  arith,
  length,
  length-append,
}
use Rattle.std.proofs.KnownBytes.{Appends-nil}
use Rattle.sqlite_trees.specs.declared.store.Store.{Ghosts}
use Rattle.record_text.specs.declared.refusal.RefusalKind.{RefusalKind}
use Rattle.request_csv.specs.Faults.{fault_text}
use Rattle.request_csv.specs.Input.{Row}
use Rattle.archive_input.specs.Answers.{Served}
use Rattle.archive_input.specs.RowByRow.{AreTold, IsTold, Moment, Serves, ServesAll}

-- ---- what is reported of a row
-- nothing was reported of a row that was not refused
pub not_refused : (number : ℕ) (o : Option RefusalKind) (told : Option (List ℕ)) → None ≡ o → IsTold number o told told
not_refused number o told e = subst (λ (x : Option RefusalKind). IsTold number x told told) e refl

pub told_as : (number : ℕ) (kind : RefusalKind) (o : Option RefusalKind) (before after : Option (List ℕ))
    → Some kind ≡ o → IsTold number (Some kind) before after → IsTold number o before after
told_as number kind o before after e told = subst (λ (x : Option RefusalKind). IsTold number x before after) e told

-- no memory was found to form its line
pub wants : (number : ℕ) (kind : RefusalKind) (told : Option (List ℕ)) → IsTold number (Some kind) told told
wants number kind told = (fault_text number kind [], ([], refl), (0, omega arith, Appends-nil told))

-- ---- rows one after the other
pub none_more : {A : Type 0} (served : List A) → served ≡ served ++ []
none_more {A} [] = refl
none_more {A} (s ∷ served) = ap (λ (more : List A). s ∷ more) (none_more served)

module _ {S W F : Type 0} (g : Ghosts S) (written : W → Option (List ℕ)) (told : F → Option (List ℕ)) where
  pub all_more : (n k : ℕ) (rows : List Row) (served : List Served) (row : Row) (s : Served) (a m b : Moment g W F)
      → k ≡ n + length served → ServesAll g written told n rows served a m → Serves g written told k row s m b
      → ServesAll g written told n (rows ++ row ∷ []) (served ++ s ∷ []) a b
  all_more n k [] [] row s a m b e all one = (
    b,
    subst (λ (x : Moment g W F). Serves g written told n row s x b) all
        (subst (λ (x : ℕ). Serves g written told x row s m b) (omega (arith, e)) one),
    refl,
  )
  all_more n k [] (x ∷ xs) row s a m b e all one = absurd all
  all_more n k (y ∷ ys) [] row s a m b e all one = absurd all
  all_more n k (y ∷ ys) (x ∷ xs) row s a m b e all one = (
    all.0,
    all.1,
    all_more (n + 1) k ys xs row s all.0 m b (omega (arith, e)) all.2 one,
  )

  -- this many rows were served so, from the first on
  pub record InTurn (count : ℕ) (a b : Moment g W F) (rows : List Row) (served : List Served) : Type 0 where
    pub counted : count ≡ length served
    pub all : ServesAll g written told 1 rows served a b

  pub turn_none : (a : Moment g W F) → InTurn 0 a a [] []
  turn_none a = record { counted = refl; all = refl }

  pub turn_more : (count : ℕ) (rows : List Row) (served : List Served) (row : Row) (s : Served)
      (a m b : Moment g W F) → InTurn count a m rows served → Serves g written told (count + 1) row s m b
      → InTurn (count + 1) a b (rows ++ row ∷ []) (served ++ s ∷ [])
  turn_more count rows served row s a m b turn one = record {
    counted = rw (length-append) (omega (arith, turn.counted));
    all = all_more 1 (count + 1) rows served row s a m b (omega (arith, turn.counted)) turn.all one;
  }

  -- what is reported of rows that were served so
  pub all_told : (n : ℕ) (rows : List Row) (served : List Served) (a b : Moment g W F)
      → ServesAll g written told n rows served a b → AreTold n served (told a.faults) (told b.faults)
  all_told n [] [] a b all = ap (λ (m : Moment g W F). told m.faults) all
  all_told n [] (s ∷ served) a b all = absurd all
  all_told n (row ∷ rows) [] a b all = absurd all
  all_told n (row ∷ rows) (s ∷ served) a b all =
      (told all.0.faults, all.1.faulted, all_told (n + 1) rows served all.0 b all.2)
