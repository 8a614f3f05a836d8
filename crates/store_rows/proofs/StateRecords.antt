-- Records put one after the other, each read from the lines of its number.
use Rattle.std.proofs.Common.{
  ◌≡◌,
  ℕ,
  Bool,
  true,
  false,
  refl,
  sym,
  ap,
  ◌∙◌,
  inl,
  inr,
  ⊎_elim,
  subst,
  arith,
  get_or,
  length,
  ◌<◌,
  List,
  [],
  ◌∷◌,
  ◌++◌,
}
use Rattle.std.specs.Prelude.{Option, ◌==◌, ◌&&◌, ◌||◌}
use Rattle.std.proofs.lemmas.Bool.Decides.{nat_tests}
use Rattle.std.proofs.lemmas.List.Folds.{list_any_at}
use Rattle.std.proofs.lemmas.Bool.{cases_eq}
use Rattle.std.specs.Ordering.{nat_cmp}
use Rattle.std.specs.FinMap.{get, insert, empty, get-empty}
use Rattle.stored_lines.specs.Line.{Label}
use Rattle.record_kinds.specs.declared.record.Record.{Record}
use Rattle.record_text.specs.declared.refusal.RefusalKind.{RefusalKind}
use Rattle.records.specs.Stored.{stored}
use Rattle.archive_state.specs.Content.{Records}
use Rattle.archive_state.proofs.Putting.{put_here, put_elsewhere}
use Rattle.store_rows.specs.Grouped.{is_recorded, NoRecord, LacksRecord, IsKeptAs, AreRecordsOf, IsRefusedBy}

-- a call is refused for what another one was
pub refused_by : {P Q : Type 0} → (kind : RefusalKind) → (P → Q) → IsRefusedBy P kind → IsRefusedBy Q kind
refused_by kind f (inl none) = inl none
refused_by kind f (inr bad) = inr (bad.0, f bad.1)

-- batches that are closed by one test and the other
pub recorded_alike : (f g : ℕ → Bool) → ((k : ℕ) → f k ≡ g k) → (rows : List (ℕ × ℕ)) (n : ℕ)
    → is_recorded f rows n ≡ is_recorded g rows n
recorded_alike f g same [] n = refl
recorded_alike f g same (r ∷ rs) n = cc (same r.1, recorded_alike f g same rs n)

-- a record that groups lack is one that the rows lack
pub lacks_one : (f g : ℕ → Bool) (lines groups : ℕ → List (ℕ × Label)) (rows : List (ℕ × ℕ)) → ((k : ℕ) → f k ≡ g k)
    → ((k : ℕ) → groups k ≡ lines k) → LacksRecord f rows groups → LacksRecord g rows lines
lacks_one f g lines groups rows same grouped bad =
    (bad.0, sym (recorded_alike f g same rows bad.0) ∙ bad.1, subst NoRecord (grouped bad.0) bad.2)

module _ (closed : ℕ → Bool) (lines : ℕ → List (ℕ × Label)) where
  -- where no rows are there are no records
  pub none_recorded : (m : Records) → m ≡ empty → AreRecordsOf closed lines [] m
  none_recorded m none n = subst (λ (o : Option Record). IsKeptAs false (lines n) o)
      (sym (ap (λ (x : Records). get x n) none ∙ get-empty nat_cmp n)) refl

  recorded_here : (rows : List (ℕ × ℕ)) (r : ℕ × ℕ) → closed r.1 ≡ true → is_recorded closed (rows ++ r ∷ []) r.0 ≡ true
  recorded_here [] r c = let same : (r.0 == r.0) ≡ true = grind (arith, nat_tests) in rw same (rw c refl)
  recorded_here (q ∷ qs) r c = go ((q.0 == r.0) && closed q.1) (recorded_here qs r c)
    where
      go : (b : Bool) → is_recorded closed (qs ++ r ∷ []) r.0 ≡ true
          → (b || is_recorded closed (qs ++ r ∷ []) r.0) ≡ true
      go true e = refl
      go false e = e

  recorded_elsewhere : (rows : List (ℕ × ℕ)) (r : ℕ × ℕ) (n : ℕ) → (n ≡ r.0 → ⊥)
      → is_recorded closed (rows ++ r ∷ []) n ≡ is_recorded closed rows n
  recorded_elsewhere [] r n off = let apart : (r.0 == n) ≡ false = grind (arith, nat_tests, off) in rw apart refl
  recorded_elsewhere (q ∷ qs) r n off = ap (λ b. ((q.0 == n) && closed q.1) || b) (recorded_elsewhere qs r n off)

  one_is : (r : ℕ × ℕ) → closed r.1 ≡ true → ((r.0 == r.0) && closed r.1) ≡ true
  one_is r c = let same : (r.0 == r.0) ≡ true = grind (arith, nat_tests) in rw same (rw c refl)

  -- each row of a closed batch gives its number a record
  pub recorded_at : (rows : List (ℕ × ℕ)) (i : ℕ) (r : ℕ × ℕ) → i < length rows → r ≡ get_or rows i r
      → closed r.1 ≡ true → is_recorded closed rows r.0 ≡ true
  recorded_at rows i r low at c =
      list_any_at (λ (q : ℕ × ℕ). (q.0 == r.0) && closed q.1) rows i r low
      (subst (λ (q : ℕ × ℕ). ((q.0 == r.0) && closed q.1) ≡ true) at (one_is r c))

  -- one more record
  pub one_recorded : (rows : List (ℕ × ℕ)) (r : ℕ × ℕ) (m : Records) (x : Record) → closed r.1 ≡ true
      → lines r.0 ≡ stored x → AreRecordsOf closed lines rows m → AreRecordsOf closed lines (rows ++ r ∷ [])
      (insert m r.0 x)
  one_recorded rows r m x c here was n = ⊎_elim (λ same. at_it n same) (λ off. elsewhere n off) (cases_eq n r.0)
    where
      at_it : (n : ℕ) → n ≡ r.0 → IsKeptAs (is_recorded closed (rows ++ r ∷ []) n) (lines n) (get (insert m r.0 x) n)
      at_it n same = subst (λ k. IsKeptAs (is_recorded closed (rows ++ r ∷ []) k) (lines k) (get (insert m r.0 x) k))
          (sym same)
          (subst (IsKeptAs (is_recorded closed (rows ++ r ∷ []) r.0) (lines r.0)) (sym (put_here m r.0 x))
          (recorded_here rows r c, here))

      elsewhere : (n : ℕ) → (n ≡ r.0 → ⊥) → IsKeptAs (is_recorded closed (rows ++ r ∷ []) n) (lines n)
          (get (insert m r.0 x) n)
      elsewhere n off = subst (IsKeptAs (is_recorded closed (rows ++ r ∷ []) n) (lines n))
          (sym (put_elsewhere m r.0 x n off))
          (subst (λ b. IsKeptAs b (lines n) (get m n)) (sym (recorded_elsewhere rows r n off)) (was n))
