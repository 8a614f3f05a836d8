-- Calls inside a transaction: a last one after others, and loops, in which at each turn what is left leads from here to
-- where all leads.
use Rattle.std.proofs.Common.{
  ◌≡◌,
  ℕ,
  ◌+◌,
  ◌<◌,
  suc,
  Result,
  OnOk,
  List,
  ◌∷◌,
  length,
  get_or,
  drop,
  drop-cons,
  sym,
  ap,
  ◌∙◌,
  arith,
}
use Rattle.sqlite.specs.State.{State, HasCleanDisk, Survives}
use Rattle.sqlite.proofs.StateLemmas.{survives_then}
use Rattle.store_tables.specs.Calls.{Inside, Follows}
use Rattle.store_tables.specs.Rows.{Rows}
use Rattle.store_tables.proofs.Calls.{on_ok, follows_then}

-- a call whose result is that of the function
pub and_last : {A E : Type 0} (r : Result A E) (a b c : State) (f g : Rows → Rows) → Follows a b f
    → OnOk r (Follows b c g) → OnOk r (Follows a c (λ rows. g (f rows)))
and_last r a b c f g one = on_ok r (follows_then a b c f g one)

pub record IsOnTheWay (old now : State) (all left : Rows → Rows) : Type 0 where
  pub survives : Survives old now (λ _. ⊥)
  pub leads : HasCleanDisk now → (rows : Rows) → Inside old rows → (here : Rows) × Inside now here
      × (now.committed ≡ old.committed) × (left here ≡ all rows)

-- one turn more
pub goes_on : (old mid now : State) (all left one rest : Rows → Rows) → IsOnTheWay old mid all left
    → (HasCleanDisk now → Follows mid now one) → Survives mid now (λ _. ⊥)
    → ((rows : Rows) → left rows ≡ rest (one rows)) → IsOnTheWay old now all rest
goes_on old mid now all left one rest way step kept is = record {
  survives = survives_then old mid now _ _ (λ _. ⊥) (λ _ db none. none) (λ _ db none. none) way.survives kept;
  leads = λ clean rows was.
      let came = way.leads (omega (arith, kept.clean)) rows was in
      let next = step clean came.0 came.1 in
      (one came.0, next.0, next.1 ∙ came.2, sym (is came.0) ∙ came.3);
}

-- what is left of a list at an item
pub item_left : {A : Type 0} (xs : List A) (i : ℕ) (x d : A) → i < length xs → x ≡ get_or xs i d
    → drop i xs ≡ x ∷ drop (i + 1) xs
item_left xs i x d low is =
    let next : suc i ≡ i + 1 = omega arith in
    drop-cons xs i d low ∙ ap (λ y. y ∷ drop (suc i) xs) (sym is) ∙ ap (λ k. x ∷ drop k xs) next
