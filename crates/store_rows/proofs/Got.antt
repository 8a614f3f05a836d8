-- What a map has at a number after puts and removals.
use Rattle.std.proofs.Common.{◌≡◌, ℕ, true, false, List, [], ◌∷◌, cond, refl, sym, ap, ◌∙◌}
use Rattle.std.specs.Prelude.{◌==◌, Option, Some, None, option_map}
use Rattle.std.specs.FinMap.{FinMap, get, insert, remove, get-insert, get-remove}
use Rattle.std.specs.Ordering.{nat_cmp}
use Rattle.std.specs.Cmp.{nat_cmp_total, unsigned_tied}
use Rattle.archive_state.specs.Content.{Records, Slips}
use Rattle.archive_state.specs.Slips.{Slip}
use Rattle.archive_state.specs.declared.changes.Numbered.{Numbered}
use Rattle.archive_state.specs.Applied.{with_puts, without, as_undone, put_if}
use Rattle.store_rows.proofs.Own.{either_way}
use Rattle.store_rows.proofs.Puts.{last_of}
use Rattle.list_laws.proofs.Numbers.{it}

module _ {X : Type 0} where
  pub got_put : (m : FinMap nat_cmp X) (k : ℕ) (v : X) (n : ℕ) → get (insert m k v) n ≡ cond (k == n) (Some v) (get m n)
  got_put m k v n = get-insert nat_cmp_total m k v n ∙ ap (λ b. cond b (Some v) (get m n))
      (unsigned_tied n k ∙ either_way n k)

  pub got_removed : (m : FinMap nat_cmp X) (k n : ℕ) → get (remove m k) n ≡ cond (k == n) None (get m n)
  got_removed m k n = get-remove nat_cmp_total m k n ∙ ap (λ b. cond b None (get m n))
      (unsigned_tied n k ∙ either_way n k)

pub got_puts : (n : ℕ) (ps : List Numbered) (m : Records) → get (with_puts m ps) n ≡ last_of
    (λ (p : Numbered). p.number) (λ (p : Numbered). Some p.«record») n ps (get m n)
got_puts n [] m = refl
got_puts n (p ∷ ps) m =
    got_puts n ps (insert m p.number p.«record»)
    ∙ ap (last_of (λ (k : Numbered). k.number) (λ (k : Numbered). Some k.«record») n ps)
    (got_put m p.number p.«record» n)

pub got_without : (n : ℕ) (ns : List ℕ) (m : Records) → get (without m ns) n ≡ last_of (λ k. k)
    (λ _. None) n ns (get m n)
got_without n [] m = refl
got_without n (k ∷ ns) m = got_without n ns (remove m k) ∙ ap (last_of (λ j. j) (λ _. None) n ns) (got_removed m k n)

-- a slip that is undone where there is one
pub got_undone : (m : Slips) (k n : ℕ) (o : Option Slip) → get m k ≡ o → get (put_if m k (option_map as_undone o)) n
    ≡ cond (k == n) (option_map as_undone (get m n)) (get m n)
got_undone m k n None is =
    elim (k == n) as (λ b. (k == n) ≡ b → get m n ≡ cond b (option_map as_undone (get m n)) (get m n)) [
      | true ↦ λ e. let none : get m n ≡ None = ap (get m) (sym (it k n e)) ∙ is in rw none refl
      | false ↦ λ e. refl
    ] refl
got_undone m k n (Some slip) is =
    got_put m k (as_undone slip) n ∙
    (elim (k == n) as (λ b. (k == n) ≡ b → cond b (Some (as_undone slip)) (get m n) ≡ cond b
    (option_map as_undone (get m n)) (get m n)) [
      | true ↦ λ e. ap (option_map as_undone) (sym is ∙ ap (get m) (it k n e))
      | false ↦ λ e. refl
    ] refl)
