-- Slips put one after the other, of each number only the first row.
use Rattle.std.proofs.Common.{
  ◌≡◌,
  ◌≢◌,
  ℕ,
  Bool,
  true,
  false,
  refl,
  sym,
  ap,
  ◌∙◌,
  cond,
  Bor,
  ⊎_elim,
  subst,
  arith,
  get_or,
  length,
  ◌<◌,
  suc,
  zero,
  List,
  [],
  ◌∷◌,
  ◌++◌,
}
use Rattle.std.specs.Prelude.{Option, Some, None, ◌==◌}
use Rattle.std.specs.List.{flat_map}
use Rattle.std.specs.Option.{option_copied, is_some}
use Rattle.std.proofs.lemmas.Bool.{cases_eq}
use Rattle.std.proofs.lemmas.Bool.Decides.{nat_tests}
use Rattle.std.specs.Ordering.{nat_cmp}
use Rattle.std.specs.FinMap.{get, insert, empty, get-empty}
use Rattle.archive_state.specs.Content.{Slips}
use Rattle.archive_state.specs.Slips.{Slip}
use Rattle.archive_state.proofs.Putting.{put_here, put_elsewhere}
use Rattle.store_tables.specs.Rows.{SlipRow}
use Rattle.store_rows.specs.Meaning.{change_lines, slip_row, slip_row_at}
use Rattle.store_rows.specs.Sides.{SideLine}
use Rattle.store_rows.specs.Grouped.{IsSlipBy, AreSlipsOf}

-- what is after a reference, where there is one
pub none_copied : {X : Type 0} → (o : Option (Bor X)) → is_some o ≡ false → option_copied o ≡ None
none_copied None e = refl
none_copied (Some b) e = absurd (let no : true ≡ false = e in cc)

pub some_copied : {X : Type 0} → (o : Option (Bor X)) → is_some o ≡ true → option_copied o ≢ None
some_copied None e = absurd (let no : false ≡ true = e in cc)
some_copied {X} (Some b) e = λ none. let no : Some b.now ≡ None = none in absurd cc

-- the row of a number among one more
row_there : (n : ℕ) (rows : List SlipRow) (r s : SlipRow) → slip_row_at n rows ≡ Some s
    → slip_row_at n (rows ++ r ∷ []) ≡ Some s
row_there n [] r s e = absurd (let no : None ≡ Some s = e in cc)
row_there n (q ∷ qs) r s e = go (q.no == n) (row_there n qs r s) e
  where
    go : (b : Bool) → (slip_row_at n qs ≡ Some s → slip_row_at n (qs ++ r ∷ []) ≡ Some s)
        → cond b (Some q) (slip_row_at n qs) ≡ Some s → cond b (Some q) (slip_row_at n (qs ++ r ∷ [])) ≡ Some s
    go true more e = e
    go false more e = more e

row_elsewhere : (n : ℕ) (rows : List SlipRow) (r : SlipRow) → (n ≡ r.no → ⊥) → slip_row_at n (rows ++ r ∷ [])
    ≡ slip_row_at n rows
row_elsewhere n [] r off = let apart : (r.no == n) ≡ false = grind (arith, nat_tests, off) in rw apart refl
row_elsewhere n (q ∷ qs) r off = ap (cond (q.no == n) (Some q)) (row_elsewhere n qs r off)

row_here : (rows : List SlipRow) (r : SlipRow) → slip_row_at r.no rows ≡ None
    → slip_row_at r.no (rows ++ r ∷ []) ≡ Some r
row_here [] r none = let same : (r.no == r.no) ≡ true = grind (arith, nat_tests) in rw same refl
row_here (q ∷ qs) r none = go (q.no == r.no) (row_here qs r) none
  where
    go : (b : Bool) → (slip_row_at r.no qs ≡ None → slip_row_at r.no (qs ++ r ∷ []) ≡ Some r)
        → cond b (Some q) (slip_row_at r.no qs) ≡ None → cond b (Some q) (slip_row_at r.no (qs ++ r ∷ [])) ≡ Some r
    go true more e = absurd (let no : Some q ≡ None = e in cc)
    go false more e = more e

-- each row has a number that some row has
pub row_at : (rows : List SlipRow) (i : ℕ) (r : SlipRow) → i < length rows → r ≡ get_or rows i r
    → slip_row_at r.no rows ≢ None
row_at [] i r low at = absurd (omega arith)
row_at (q ∷ qs) zero r low at = λ none. let same : (q.no == r.no) ≡ true = rw at (grind (arith, nat_tests)) in
    let no : Some q ≡ None = rw same at none in absurd cc
row_at (q ∷ qs) (suc i) r low at = go (q.no == r.no) (row_at qs i r (omega arith) at)
  where
    go : (b : Bool) → slip_row_at r.no qs ≢ None → cond b (Some q) (slip_row_at r.no qs) ≢ None
    go true ne e = absurd (let no : Some q ≡ None = e in cc)
    go false ne e = ne e

module _ (lines : ℕ → List SideLine) where
  -- where no rows are there are no slips
  pub none_slipped : (m : Slips) → m ≡ empty → AreSlipsOf lines [] m
  none_slipped m none n = subst (λ (o : Option Slip). IsSlipBy n None (lines n) o)
      (sym (ap (λ (x : Slips). get x n) none ∙ get-empty nat_cmp n)) refl

  -- the first row of a number
  pub one_slipped : (rows : List SlipRow) (r : SlipRow) (m : Slips) (x : Slip) → get m r.no ≡ None → r ≡ slip_row r.no x
      → lines r.no ≡ flat_map change_lines x.changes
      → AreSlipsOf lines rows m → AreSlipsOf lines (rows ++ r ∷ []) (insert m r.no x)
  one_slipped rows r m x free is here was n = ⊎_elim (λ same. at_it n same) (λ off. elsewhere n off) (cases_eq n r.no)
    where
      at_it : (n : ℕ) → n ≡ r.no → IsSlipBy n (slip_row_at n (rows ++ r ∷ [])) (lines n) (get (insert m r.no x) n)
      at_it n same = subst (λ k. IsSlipBy k (slip_row_at k (rows ++ r ∷ [])) (lines k) (get (insert m r.no x) k))
          (sym same)
          (subst (IsSlipBy r.no (slip_row_at r.no (rows ++ r ∷ [])) (lines r.no)) (sym (put_here m r.no x)) (
            row_here rows r (subst (IsSlipBy r.no (slip_row_at r.no rows) (lines r.no)) free (was r.no))
                ∙ ap (λ s. Some s) is,
            here,
          ))

      elsewhere : (n : ℕ) → (n ≡ r.no → ⊥) → IsSlipBy n (slip_row_at n (rows ++ r ∷ [])) (lines n)
          (get (insert m r.no x) n)
      elsewhere n off = subst (IsSlipBy n (slip_row_at n (rows ++ r ∷ [])) (lines n))
          (sym (put_elsewhere m r.no x n off))
          (subst (λ o. IsSlipBy n o (lines n) (get m n)) (sym (row_elsewhere n rows r off)) (was n))

  -- a later row of a number
  pub again_slipped : (rows : List SlipRow) (r : SlipRow) (m : Slips) → get m r.no ≢ None → AreSlipsOf lines rows m
      → AreSlipsOf lines (rows ++ r ∷ []) m
  again_slipped rows r m taken was n =
      ⊎_elim (λ same. at_it n (get m n) (λ none. taken (ap (get m) (sym same) ∙ none)) (was n))
      (λ off. subst (λ o. IsSlipBy n o (lines n) (get m n)) (sym (row_elsewhere n rows r off)) (was n))
      (cases_eq n r.no)
    where
      at_it : (n : ℕ) (found : Option Slip) → found ≢ None → IsSlipBy n (slip_row_at n rows) (lines n) found
          → IsSlipBy n (slip_row_at n (rows ++ r ∷ [])) (lines n) found
      at_it n None ne w = absurd (ne refl)
      at_it n (Some x) ne w = (row_there n rows r (slip_row n x) w.0, w.1)
