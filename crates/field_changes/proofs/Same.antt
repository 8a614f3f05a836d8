-- What is put where it is already changes nothing.
use Rattle.std.proofs.Common.{◌≡◌, ℕ, Bool, true, false, refl, sym, ap, ◌∙◌, cond}
use Rattle.std.specs.Prelude.{Option, Some}
use Rattle.std.specs.FinMap.{FinMap, get, insert, get-insert, same_map, nat_cmp-IsAntisymmetric}
use Rattle.std.specs.Ordering.{nat_cmp, eq_by_cmp}
use Rattle.std.specs.Cmp.{nat_cmp_total}
use Rattle.record_kinds.specs.declared.record.Record.{Record}
use Rattle.archive_state.specs.Content.{Content}
use Rattle.archive_state.proofs.Putting.{one_number}

module _ {X : Type 0} where
  once : (b : Bool) (v : X) (o : Option X) → (b ≡ true → o ≡ Some v) → cond b (Some v) o ≡ o
  once true v o h = sym (h refl)
  once false v o h = refl

  -- what is there is put there
  pub put_same : (m : FinMap nat_cmp X) (n : ℕ) (v : X) → get m n ≡ Some v → insert m n v ≡ m
  put_same m n v e = same_map nat_cmp_total nat_cmp-IsAntisymmetric _ _ (λ q.
      get-insert nat_cmp_total m n v q ∙ once (eq_by_cmp nat_cmp q n) v (get m q)
      (λ t. ap (get m) (one_number q n t) ∙ e))

-- so all is as before
pub replaced_same : (c : Content) (n : ℕ) (v : Record) → get c.records n ≡ Some v
    → record c { records = insert c.records n v } ≡ c
replaced_same c n v e = ap (λ x. record c { records = x }) (put_same c.records n v e)
