-- What shallow changes make of shallow records is shallow.
use Rattle.std.proofs.Common.{◌≡◌, ℕ, Bool, true, false, List, [], ◌∷◌, cond, refl, sym, subst, ◌∙◌}
use Rattle.std.specs.Prelude.{◌==◌, Option, Some, None, option_map}
use Rattle.std.specs.FinMap.{FinMap, get, insert, remove}
use Rattle.std.specs.Ordering.{nat_cmp}
use Rattle.records.specs.Shallow.{IsShallow}
use Rattle.archive_state.specs.Applied.{with_puts, without, with_slip, as_undone, applied}
use Rattle.archive_state.specs.Changes.{Changes}
use Rattle.archive_state.specs.Content.{Content, Records, Slips}
use Rattle.archive_state.specs.Slips.{Slip}
use Rattle.record_shapes.specs.Lists.{EachOf}
use Rattle.archive_state.specs.Sound.{EachIn}
use Rattle.archive_state.specs.declared.changes.Numbered.{Numbered}
use Rattle.archive_state.specs.declared.changes.SlipChange.{SlipChange}
use Rattle.archive_state.specs.declared.changes.SlipChange.TheVariants as change
use Rattle.store_rows.specs.Meaning.{AllShallow, IsShallowSlip}
use Rattle.store_rows.specs.Shallow.{IsShallowPut, IsShallowSlipChange, AreShallowChanges}
use Rattle.store_rows.proofs.Got.{got_put, got_removed, got_undone}

module _ {X : Type 0} (P : X → Type 0) where
  one_of : (b : Bool) (v : X) (o : Option X) (x : X) → P v → (o ≡ Some x → P x) → cond b (Some v) o ≡ Some x → P x
  one_of true v o x here there e = let same : v ≡ x = cc in subst P same here
  one_of false v o x here there e = there e

  each_put : (m : FinMap nat_cmp X) (k : ℕ) (v : X) → P v → EachIn m (λ _. P) → EachIn (insert m k v) (λ _. P)
  each_put m k v here all n x e = one_of (k == n) v (get m n) x here (all n x) (sym (got_put m k v n) ∙ e)

  left_of : (b : Bool) (o : Option X) (x : X) → cond b None o ≡ Some x → o ≡ Some x
  left_of true o x e = absurd cc
  left_of false o x e = e

  each_left : (m : FinMap nat_cmp X) (k : ℕ) → EachIn m (λ _. P) → EachIn (remove m k) (λ _. P)
  each_left m k all n x e = all n x (left_of (k == n) (get m n) x (sym (got_removed m k n) ∙ e))

pub puts_shallow : (ps : List Numbered) (m : Records) → EachOf IsShallowPut ps → EachIn m (λ _. IsShallow)
    → EachIn (with_puts m ps) (λ _. IsShallow)
puts_shallow [] m h all = all
puts_shallow (p ∷ ps) m h all = puts_shallow ps (insert m p.number p.«record») h.1
    (each_put IsShallow m p.number p.«record» h.0 all)

left_shallow : (ns : List ℕ) (m : Records) → EachIn m (λ _. IsShallow) → EachIn (without m ns) (λ _. IsShallow)
left_shallow [] m all = all
left_shallow (n ∷ ns) m all = left_shallow ns (remove m n) (each_left IsShallow m n all)

-- a slip that is undone has the changes that it had
undone_shallow : (b : Bool) (o : Option Slip) (x : Slip) → ((s : Slip) → o ≡ Some s → IsShallowSlip s)
    → cond b (option_map as_undone o) o ≡ Some x → IsShallowSlip x
undone_shallow true None x all e = absurd cc
undone_shallow true (Some s) x all e = let same : as_undone s ≡ x = cc in subst IsShallowSlip same (all s refl)
undone_shallow false o x all e = all x e

slip_shallow : (slip : Option SlipChange) (m : Slips) → IsShallowSlipChange slip → EachIn m (λ _. IsShallowSlip)
    → EachIn (with_slip m slip) (λ _. IsShallowSlip)
slip_shallow None m h all = all
slip_shallow (Some (change.Made k slip)) m h all = each_put IsShallowSlip m k slip h all
slip_shallow (Some (change.Undone k)) m h all = λ n x e. undone_shallow (k == n) (get m n) x (all n)
    (sym (got_undone m k n (get m k) refl) ∙ e)

pub shallow_applied : (changes : Changes) (c : Content) → AreShallowChanges changes → AllShallow c
    → AllShallow (applied c changes)
shallow_applied changes c h all = record {
  records = left_shallow changes.removals (with_puts c.records changes.puts)
      (puts_shallow changes.puts c.records h.puts all.records);
  slips = slip_shallow changes.slip c.slips h.slip all.slips;
}
