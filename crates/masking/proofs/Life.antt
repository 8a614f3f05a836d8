-- What all records tell is who is living.
use Rattle.std.proofs.Common.{◌≡◌, ◌⊎◌, ℕ, refl, subst, inl, inr}
use Rattle.std.specs.Prelude.{Some, ℤ}
use Rattle.std.specs.FinMap.{get}
use Rattle.std.specs.BTreeSet.{BTreeSet}
use Rattle.record_kinds.specs.declared.record.Record.{Record}
use Rattle.record_kinds.specs.declared.record.Record.TheVariants as kind
use Rattle.archive_state.specs.Content.{Records}
use Rattle.masking.specs.Life.{
  IsBuried,
  IsDead,
  IsLiving,
  OwnsDeath,
  OwnsOldEvent,
  HasOldFamily,
  long_before,
}
use Rattle.masking.specs.Evidence.{IsDeath, IsOldEvent, IsOldFamily, IsPersonBut}
use Rattle.masking.specs.Judged.{KnowsLiving}
use Rattle.masking.specs.Sets.{IsIn, Has}
use Rattle.masking.specs.Telling.{IsTold}

-- ---- what one record tells
module _ (m : Records) (today : ℤ) where
  death_of : (k n : ℕ) (r : Record) → get m k ≡ Some r → IsDeath k r n → OwnsDeath m n ⊎ IsBuried m n
  death_of k n (kind.Event e) at told = inl (e, (k, at, told.1), told.0)
  death_of k n (kind.Entry e) at told = inr (k, e, at, told)
  death_of k n _ at told = absurd told

  old_of : (k n : ℕ) (r : Record) → get m k ≡ Some r → IsOldEvent (long_before today) k r n → OwnsOldEvent m today n
  old_of k n (kind.Event e) at told = (e, (k, at, told.1), told.0)
  old_of k n _ at told = absurd told

  family_of : (old : BTreeSet ℕ) → ((f : ℕ) → IsIn old f → OwnsOldEvent m today f) → (k n : ℕ) (r : Record)
      → get m k ≡ Some r → IsOldFamily old k r n → HasOldFamily m today n
  family_of old owns k n (kind.Family x) at told = (k, x, at, told.1, owns k told.0)
  family_of old owns k n _ at told = absurd told

-- ---- what all of them tell
module _ (m : Records) (today : ℤ) (dead old partners living : BTreeSet ℕ) (has_dead : Has dead (IsTold m IsDeath))
    (has_old : Has old (IsTold m (IsOldEvent (long_before today))))
    (has_partners : Has partners (IsTold m (IsOldFamily old)))
    (has_living : Has living (IsTold m (IsPersonBut dead old partners))) where
  old_is : (n : ℕ) → IsIn old n → OwnsOldEvent m today n
  old_is n i = let (k, r, at, told) = (has_old n).0 i in old_of m today k n r at told

  is_old : (n : ℕ) → OwnsOldEvent m today n → IsIn old n
  is_old n (e, (k, at, owner), ended) = (has_old n).1
      (k, kind.Event e, at, (ended, owner))

  -- who is in one of the sets is dead
  dead_if : (n : ℕ) → IsIn dead n → IsDead m today n
  dead_if n i =
      let (k, r, at, told) = (has_dead n).0 i in
      elim (death_of m today k n r at told) as (λ _. IsDead m today n) [
        | inl owns ↦ inl owns
        | inr buried ↦ inr (inl buried)
      ]

  partner_if : (n : ℕ) → IsIn partners n → IsDead m today n
  partner_if n i =
      let (k, r, at, told) = (has_partners n).0 i in
      inr (inr (inr (family_of m today old old_is k n r at told)))

  -- who is dead is in one of the sets
  in_one : (n : ℕ) → IsDead m today n → IsIn dead n ⊎ (IsIn old n ⊎ IsIn partners n)
  in_one n (inl (e, (k, at, owner), ends)) = inl ((has_dead n).1
      (k, kind.Event e, at, (ends, owner)))
  in_one n (inr (inl (k, e, at, buried))) = inl ((has_dead n).1
      (k, kind.Entry e, at, buried))
  in_one n (inr (inr (inl owns))) = inr (inl (is_old n owns))
  in_one n (inr (inr (inr (f, x, at, partner, owns)))) = inr (inr ((has_partners n).1
      (f, kind.Family x, at, (is_old f owns, partner))))

  living_of : (k n : ℕ) (r : Record) → get m k ≡ Some r → IsPersonBut dead old partners k r n → IsLiving m today n
  living_of k n (kind.Person p) at (same, no_death, not_old, no_partner) =
      subst (λ x. IsLiving m today x) same (
        (p, at),
        λ is_dead. elim (in_one k is_dead) as (λ _. ⊥) [
          | inl i ↦ no_death i
          | inr (inl i) ↦ not_old i
          | inr (inr i) ↦ no_partner i
        ],
      )
  living_of k n _ at told = absurd told

  pub living_known : KnowsLiving m today living
  living_known n = (
    λ i. let (k, r, at, told) = (has_living n).0 i in living_of k n r at told,
    λ ((p, at), not_dead). (has_living n).1 (
      n,
      kind.Person p,
      at,
      (
        refl,
        λ i. not_dead (dead_if n i),
        λ i. not_dead (inr (inr (inl (old_is n i)))),
        λ i. not_dead (partner_if n i),
      ),
    ),
  )
