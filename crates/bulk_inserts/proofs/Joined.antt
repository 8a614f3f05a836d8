-- Links that are inserted one group after another.
use Rattle.std.proofs.Common.{◌≡◌, true, List, [], ◌∷◌, ◌++◌, refl, sym, subst, ◌∙◌, inl, arith}
use Rattle.sqlite.specs.State.{State, HasCleanDisk, Survives}
use Rattle.sqlite.proofs.StateLemmas.{survives_then}
use Rattle.store_tables.specs.Calls.{FollowsDated, Inside}
use Rattle.store_tables.specs.Rows.{LinkRow, Rows, with_link}
use Rattle.bulk_inserts.specs.Links.{AreNewLinks, with_links}
use Rattle.bulk_inserts.proofs.EightLinks.{still_has}

then_is : (xs ys : List LinkRow) (rows : Rows) → with_links (xs ++ ys) rows ≡ with_links ys (with_links xs rows)
then_is [] ys rows = refl
then_is (x ∷ xs) ys rows = then_is xs ys (with_link x.target x.no rows)

new_then : (xs ys : List LinkRow) (rows : Rows) → AreNewLinks xs rows → AreNewLinks ys (with_links xs rows)
    → AreNewLinks (xs ++ ys) rows
new_then [] ys rows one two = two
new_then (x ∷ xs) ys rows one two = (one.0, new_then xs ys (with_link x.target x.no rows) one.1 two)

-- what is left leads from here to where all leads
pub record IsOnTheWay (old now : State) (all left : List LinkRow) : Type 0 where
  pub survives : Survives old now (λ _. ⊥)
  pub leads : HasCleanDisk now → (rows : Rows) → rows.has_spans ≡ true → Inside old rows → (here : Rows)
      × (here.has_spans ≡ true) × Inside now here × (now.committed ≡ old.committed)
      × (with_links left here ≡ with_links all rows) × (AreNewLinks left here → AreNewLinks all rows)

pub begun : (s : State) (all : List LinkRow) → IsOnTheWay s s all all
begun s all = record {
  survives = record {
    clean = omega arith;
    shield = λ h. h;
    counts = omega arith;
    limit = refl;
    closes = λ _ shown. inl shown;
    crash = λ _ db left. inl left;
  };
  leads = λ _ rows has was. (rows, has, was, refl, refl, λ new. new);
}

pub goes_on : (old mid now : State) (all done left : List LinkRow) → IsOnTheWay old mid all (done ++ left)
    → (HasCleanDisk now → FollowsDated mid now (with_links done))
    → (HasCleanDisk now → (rows : Rows) → rows.has_spans ≡ true → Inside mid rows → AreNewLinks done rows)
    → Survives mid now (λ _. ⊥) → IsOnTheWay old now all left
goes_on old mid now all done left way step fresh kept = record {
  survives = survives_then old mid now _ _ (λ _. ⊥) (λ _ db none. none) (λ _ db none. none) way.survives kept;
  leads = λ clean rows has was.
      let came = way.leads (omega (arith, kept.clean)) rows has was in
      let here = came.0 in
      let next = step clean here came.1 came.2 in (
        with_links done here,
        still_has done here ∙ came.1,
        next.0,
        next.1 ∙ came.3,
        sym (then_is done left here) ∙ came.4,
        λ new. came.5 (new_then done left here (fresh clean here came.1 came.2) new),
      );
}

pub ended : (old now : State) (all : List LinkRow) → IsOnTheWay old now all [] → HasCleanDisk now
    → FollowsDated old now (with_links all)
ended old now all way clean rows has was =
    let came = way.leads clean rows has was in (subst (Inside now) came.4 came.2, came.3)

pub all_new : (old now : State) (all : List LinkRow) → IsOnTheWay old now all [] → HasCleanDisk now → (rows : Rows)
    → rows.has_spans ≡ true → Inside old rows → AreNewLinks all rows
all_new old now all way clean rows has was = (way.leads clean rows has was).5 tt
