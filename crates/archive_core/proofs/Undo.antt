-- What is put back is as it was before.
use Rattle.std.proofs.Common.{◌≡◌, ℕ, Bool, true, false, refl, sym, ap, ◌∙◌, cond}
use Rattle.std.specs.Prelude.{Option, Some, None}
use Rattle.std.specs.FinMap.{FinMap, get, insert, remove, get-insert, get-remove, same_map, nat_cmp-IsAntisymmetric}
use Rattle.std.specs.Ordering.{nat_cmp, eq_by_cmp}
use Rattle.std.specs.Cmp.{nat_cmp_total, eq_by_cmp_equiv}
use Rattle.archive_state.specs.Content.{Content, Slips}
use Rattle.archive_state.specs.Slips.{Slip}
use Rattle.archive_state.proofs.Putting.{one_number}

module _ {X : Type 0} where
  at_once : (b : Bool) (v : X) (old o : Option X) → (b ≡ true → o ≡ old) → cond b old (cond b (Some v) o) ≡ o
  at_once true v old o h = sym (h refl)
  at_once false v old o h = refl

  -- what stood there is put over another
  pub put_over : (m : FinMap nat_cmp X) (n : ℕ) (v old : X) → get m n ≡ Some old → insert (insert m n v) n old ≡ m
  put_over m n v old e = same_map nat_cmp_total nat_cmp-IsAntisymmetric _ _ (λ q.
      get-insert nat_cmp_total (insert m n v) n old q
      ∙ ap (cond (eq_by_cmp nat_cmp q n) (Some old)) (get-insert nat_cmp_total m n v q)
      ∙ at_once (eq_by_cmp nat_cmp q n) v (Some old) (get m q) (λ t. ap (get m) (one_number q n t) ∙ e))

  -- what was not there is removed
  pub taken_out : (m : FinMap nat_cmp X) (n : ℕ) (v : X) → get m n ≡ None → remove (insert m n v) n ≡ m
  taken_out m n v e = same_map nat_cmp_total nat_cmp-IsAntisymmetric _ _ (λ q.
      get-remove nat_cmp_total (insert m n v) n q
      ∙ ap (cond (eq_by_cmp nat_cmp q n) None) (get-insert nat_cmp_total m n v q)
      ∙ at_once (eq_by_cmp nat_cmp q n) v None (get m q) (λ t. ap (get m) (one_number q n t) ∙ e))

  -- something stands where it was put
  pub stands : (m : FinMap nat_cmp X) (n : ℕ) (v : X) → get (insert m n v) n ≡ Some v
  stands m n v = get-insert nat_cmp_total m n v n ∙ ap (λ b. cond b (Some v) (get m n))
      ((eq_by_cmp_equiv nat_cmp_total).refl n)

-- ---- of what an archive holds
pub slip_taken_out : (c after : Content) (m : Slips) (n : ℕ) (s : Slip) → after ≡ record c { slips = remove c.slips n }
    → c.slips ≡ insert m n s → None ≡ get m n → after ≡ record c { slips = m }
slip_taken_out c after m n s is e none = is ∙ ap (λ x. record c { slips = x })
    (ap (λ x. remove x n) e ∙ taken_out m n s (sym none))

pub slip_put_over : (c after : Content) (m : Slips) (n : ℕ) (s old : Slip)
    → after ≡ record c { slips = insert c.slips n old } → c.slips ≡ insert m n s → Some old ≡ get m n
    → after ≡ record c { slips = m }
slip_put_over c after m n s old is e some = is ∙ ap (λ x. record c { slips = x })
    (ap (λ x. insert x n old) e ∙ put_over m n s old (sym some))

pub slip_stands : (c after : Content) (m : Slips) (n : ℕ) (s : Slip) → get c.slips n ≡ None → c.slips ≡ insert m n s
    → after ≡ record c { slips = m }
slip_stands c after m n s none e = let both : Some s ≡ None = sym (stands m n s) ∙ ap (λ x. get x n) (sym e)
    ∙ none in absurd cc
