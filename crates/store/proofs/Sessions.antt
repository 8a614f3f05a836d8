-- What a stop leaves of a session's calls, and of sessions one after the other.
use Rattle.std.proofs.Common.{
  ◌≡◌,
  inl,
  inr,
  ℕ,
  Bool,
  true,
  false,
  List,
  [],
  ◌∷◌,
  ◌++◌,
  Option,
  append-nil,
  refl,
  sym,
  ap,
  ◌∙◌,
  subst,
  true≢false,
}
use Rattle.sqlite.specs.Held.{Held, state}
use Rattle.sqlite.specs.State.{HasCleanDisk}
use Rattle.sqlite.specs.Tree.{Trees}
use Rattle.sqlite_trees.specs.declared.store.Store.{Ghosts}
use Rattle.archive_state.specs.Content.{Content}
use Rattle.archive_core.specs.Machine.{Done, Runs}
use Rattle.archive_core.specs.declared.request.Request.{Request}
use Rattle.archive_core.proofs.Serving.{joined}
use Rattle.staging.specs.Opened.{Import}
use Rattle.store_tables.specs.Calls.{LeavesOnly, Settled}
use Rattle.store_tables.specs.Rows.{Rows}
use Rattle.store.specs.Archives.{HasArchive, IsArchive, LeavesArchive}
use Rattle.store.specs.Earlier.{HoldsArchive}
use Rattle.store.specs.Histories.{MayBeFound, in_doubt}
use Rattle.store.specs.Importing.{Has}
use Rattle.store.specs.Lives.{
  Call,
  CountInAll,
  Counts,
  GoesOn,
  IsCall,
  Life,
  LifeOn,
  Serves,
  Session,
  SessionOn,
  requests_of,
}
use Rattle.store.specs.Standing.{Standing, ready}
use Rattle.store.proofs.Histories.{counted, found_after}
use Rattle.store.proofs.Imports.{InNoView, has_the_archive}

module _ {S : Type 0} (g : Ghosts S) where
  call_clean : (old next : Held S) (was : Standing) (calls : List Done) (is : Standing)
      → IsCall g old was calls next is → HasCleanDisk (state g next) → HasCleanDisk (state g old)
  call_clean old next was calls is (inl p) clean = p.clean clean
  call_clean old next was calls is (inr q) clean = subst (λ h. HasCleanDisk (state g h)) q.same clean

  clean_back : (all : List Call) (was : Standing) (old new : Held S) → Serves g old was all new
      → HasCleanDisk (state g new) → HasCleanDisk (state g old)
  clean_back [] was old new s clean = subst (λ h. HasCleanDisk (state g h)) s clean
  clean_back (call ∷ more) was old new s clean =
      call_clean old s.0 was call.0 call.1 s.1 (clean_back more call.1 s.0 new s.2 clean)

  -- a lost archive stays as it is, and does no request
  lost_stays : (all : List Call) (was : Standing) (old new : Held S) → was.is_lost ≡ true → Serves g old was all new
      → (new ≡ old) × (requests_of all ≡ [])
  lost_stays [] was old new lost s = (s, refl)
  lost_stays (call ∷ more) was old new lost s = elim s.1 [
    | inl p ↦ absurd (true≢false (sym lost ∙ p.kept))
    | inr q ↦
        let rest = lost_stays more call.1 s.0 new (ap (λ (w : Standing). w.is_lost) q.stands ∙ lost) s.2 in
        (rest.0 ∙ q.same, ap (λ xs. xs ++ requests_of more) q.unheard ∙ rest.1)
  ]

  module _ (view : InNoView)
      (only : (h : Held S) (rows : Rows) → Settled (state g h) rows → LeavesOnly (state g h) rows) where
    -- between two calls
    at_rest : (o : Option (Request × Import)) (h : Held S) (society : List ℕ) (c : Content)
        → Has society c o (state g h) → LeavesArchive (state g h) society (λ found. found ≡ c)
    at_rest o h society c has t l =
        let archive = has_the_archive view society c o (state g h) has in
        (c, refl, (archive.0, only h archive.0 archive.1 t l, archive.2))

    -- after a call that loses the archive or does not
    behind : (lost : Bool) (call : Call) (more : List Call) (was : Standing) (old next new : Held S) (society : List ℕ)
        (c : Content) → call.1.is_lost ≡ lost → GoesOn g old was call.0 next call.1 → Serves g next call.1 more new
        → HasCleanDisk (state g new) → Has society c was.import (state g old)
        → ((to : Content) → Has society to call.1.import (state g next)
        → LeavesArchive (state g new) society (MayBeFound to (requests_of more)))
        → LeavesArchive (state g new) society (MayBeFound c (call.0 ++ requests_of more))
    behind false call more was old next new society c kept p s clean has rest t l =
        let before = clean_back more call.1 next new s clean in
        let to = p.done before kept society c has in
        let left = rest to.0 to.2 t l in
        (left.0, found_after c to.0 left.0 call.0 (requests_of more) (p.certain kept) to.1 left.1, left.2)
    behind true call more was old next new society c lost p s clean has rest t l =
        let before = clean_back more call.1 next new s clean in
        let still = lost_stays more call.1 next new lost s in
        let left = p.crash before society c has t (subst (λ h. (state g h).may_leave t) still.0 l) in (
          left.0,
          subst (λ xs. MayBeFound c xs left.0)
              (sym (ap (λ xs. call.0 ++ xs) still.1 ∙ append-nil call.0)) left.1,
          left.2,
        )

    stopped : (all : List Call) (was : Standing) (old new : Held S) (society : List ℕ) (c : Content)
        → Serves g old was all new → HasCleanDisk (state g new) → Has society c was.import (state g old)
        → LeavesArchive (state g new) society (MayBeFound c (requests_of all))
    stopped [] was old new society c s clean has t l =
        at_rest was.import old society c has t (subst (λ h. (state g h).may_leave t) s l)
    stopped (call ∷ more) was old new society c s clean has t l = elim s.1 [
      | inl p ↦ behind call.1.is_lost call more was old s.0 new society c refl p s.2 clean has
          (λ to now. stopped more call.1 s.0 new society to s.2 clean now) t l
      | inr q ↦
          let now : Has society c call.1.import (state g s.0) =
          subst (λ (w : Standing). Has society c w.import (state g s.0)) (sym q.stands)
          (subst (λ h. Has society c was.import (state g h)) (sym q.same) has) in
          let left = stopped more call.1 s.0 new society c s.2 clean now t l in (
            left.0,
            subst (λ xs. MayBeFound c (xs ++ requests_of more) left.0) (sym q.unheard) left.1,
            left.2,
          )
    ]

    on_session : (first : Held S) (after : Trees) (calls : List Done) (society : List ℕ) (c : Content)
        → SessionOn g first calls after → HasArchive society c (state g first)
        → (found : Content) × (dones : List Done) × IsArchive society found after × Counts calls dones
        × Runs c dones found
    on_session first after calls society c s has =
        let left = stopped s.1 ready first s.0 society c s.2 s.3 has after s.5 in
        let all = counted calls c left.0 (in_doubt calls) refl
        (subst (λ xs. MayBeFound c xs left.0) (sym s.4) left.1) in
        (left.0, all.0, left.2, all.1, all.2)

    on_opening : (before after : Trees) (calls : List Done) (society : List ℕ) (c : Content)
        → Session g before calls after → IsArchive society c before
        → (found : Content) × (dones : List Done) × IsArchive society found after × Counts calls dones
        × Runs c dones found
    on_opening before after calls society c (inl s) is =
        on_session s.0 after calls society c s.2 (s.1 society c (inl is))
    on_opening before after calls society c (inr s) is =
        let left = s.1.kept society c is after s.4 in
        (left.0, [], left.2, subst (λ xs. Counts xs []) (sym s.3) (inl refl), left.1)

    on_opening_either : (before after : Trees) (calls : List Done) (society : List ℕ) (c : Content)
        → Session g before calls after → HoldsArchive society c before
        → (found : Content) × (dones : List Done) × HoldsArchive society found after × Counts calls dones
        × Runs c dones found
    on_opening_either before after calls society c (inl s) holds =
        let one = on_session s.0 after calls society c s.2 (s.1 society c holds) in
        (one.0, one.1, inl one.2, one.3, one.4)
    on_opening_either before after calls society c (inr s) (inl is) =
        let one = on_opening before after calls society c (inr s) is in
        (one.0, one.1, inl one.2, one.3, one.4)
    on_opening_either before after calls society c (inr s) (inr was) =
        (c, [], s.1.held society c was after s.4, subst (λ xs. Counts xs []) (sym s.3) (inl refl), refl)

    pub of_life : (more : List (List Done)) (before after : Trees) (calls : List Done) (society : List ℕ)
        (c : Content) → Life g before calls more after → IsArchive society c before
        → (found : Content) × (dones : List Done) × IsArchive society found after × CountInAll calls more dones
        × Runs c dones found
    of_life [] before after calls society c life is = on_opening before after calls society c life is
    of_life (next ∷ more) before after calls society c life is =
        let one = on_opening before life.0 calls society c life.1 is in
        let rest = of_life more life.0 after next society one.0 life.2 one.2 in (
          rest.0,
          one.1 ++ rest.1,
          rest.2,
          (one.1, rest.1, one.3, rest.3, refl),
          joined one.1 rest.1 c one.0 rest.0 one.4 rest.4,
        )

    pub of_life_of_either : (more : List (List Done)) (before after : Trees) (calls : List Done) (society : List ℕ)
        (c : Content) → Life g before calls more after → HoldsArchive society c before
        → (found : Content) × (dones : List Done) × HoldsArchive society found after × CountInAll calls more dones
        × Runs c dones found
    of_life_of_either [] before after calls society c life holds =
        on_opening_either before after calls society c life holds
    of_life_of_either (next ∷ more) before after calls society c life holds =
        let one = on_opening_either before life.0 calls society c life.1 holds in
        let rest = of_life_of_either more life.0 after next society one.0 life.2 one.2 in (
          rest.0,
          one.1 ++ rest.1,
          rest.2,
          (one.1, rest.1, one.3, rest.3, refl),
          joined one.1 rest.1 c one.0 rest.0 one.4 rest.4,
        )

    pub of_life_on : (more : List (List Done)) (first : Held S) (after : Trees) (calls : List Done) (society : List ℕ)
        (c : Content) → LifeOn g first calls more after → HasArchive society c (state g first)
        → (found : Content) × (dones : List Done) × IsArchive society found after × CountInAll calls more dones
        × Runs c dones found
    of_life_on [] first after calls society c life has = on_session first after calls society c life has
    of_life_on (next ∷ more) first after calls society c life has =
        let one = on_session first life.0 calls society c life.1 has in
        let rest = of_life more life.0 after next society one.0 life.2 one.2 in (
          rest.0,
          one.1 ++ rest.1,
          rest.2,
          (one.1, rest.1, one.3, rest.3, refl),
          joined one.1 rest.1 c one.0 rest.0 one.4 rest.4,
        )
