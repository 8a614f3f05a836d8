-- What a slip puts back, and what it asks of the records of now.
use Rattle.std.proofs.Common.{◌≡◌, ℕ, ◌<◌, List, [], ◌∷◌, Bool, true, false, cond, refl, sym, ap, ◌∙◌, subst, arith}
use Rattle.std.specs.Prelude.{Option, Some, None, map, ◌++◌, if◌then◌else◌}
use Rattle.std.specs.List.{flat_map}
use Rattle.std.specs.FinMap.{get, find, insert, get-insert, get-from_entries}
use Rattle.std.specs.Ordering.{nat_cmp, eq_by_cmp}
use Rattle.std.specs.Cmp.{nat_cmp_total}
use Rattle.record_kinds.specs.declared.record.Record.{Record}
use Rattle.archive_state.specs.Content.{Records}
use Rattle.archive_state.specs.Slips.{Slip}
use Rattle.archive_state.specs.Merging.{merged}
use Rattle.archive_state.specs.declared.slip.Change.{Change}
use Rattle.record_shapes.specs.Lists.{EachOf, Ascends}
use Rattle.archive_state.specs.Sound.{IsSoundSlip, old_records}
use Rattle.merging.specs.Merges.{over, put_of, put_old, undone_records}
use Rattle.archive_state.specs.Applied.{with_puts, as_undone}
use Rattle.archive_state.proofs.Putting.{one_number, put_elsewhere}
use Rattle.merging.specs.Comparing.{is_same_record}
use Rattle.merging.proofs.MergeComparing.{IsNow, record_is}

abbrev pair : Change → ℕ × Record
pair c = (c.number, c.old)

abbrev number : Change → ℕ
number c = c.number

-- a number below all others is not found among them
below_all : (n : ℕ) (cs : List Change) → EachOf (λ k. n < k) (map number cs) → find nat_cmp n (map pair cs) ≡ None
below_all n [] h = refl
below_all n (c ∷ cs) h = elim (eq_by_cmp nat_cmp n c.number) as (λ b. eq_by_cmp nat_cmp n c.number ≡ b
    → cond b (Some c.old) (find nat_cmp n (map pair cs)) ≡ None) [
      | true ↦ λ e. let same : n ≡ c.number = one_number n c.number e in let less : n < c.number = h.0 in
          absurd (omega arith)
      | false ↦ λ e. below_all n cs h.1
    ] refl

one_of : (b : Bool) (v : Record) (x y : Option Record) → (b ≡ true → x ≡ None) → over x (cond b (Some v) y)
    ≡ over (cond b (Some v) x) y
one_of true v x y h = ap (λ z. over z (Some v)) (h refl)
one_of false v x y h = refl

kept_one : (b : Bool) (v : Record) (x y : Option Record) → (b ≡ true → x ≡ None) → (b ≡ true → y ≡ Some v)
    → over x y ≡ over (cond b (Some v) x) y
kept_one true v x y none is = ap (λ z. over z y) (none refl) ∙ is refl
kept_one false v x y none is = refl

-- numbers after the one that is put have their new records still
now_still : (k : ℕ) (v : Record) (cs : List Change) (m : Records) → EachOf (λ j. k < j) (map number cs) → IsNow m cs
    → IsNow (insert m k v) cs
now_still k v [] m above now = tt
now_still k v (c ∷ cs) m above now = (
  put_elsewhere m k v c.number (λ same. let is : c.number ≡ k = same in let less : k < c.number = above.0 in
      absurd (omega arith)) ∙ now.0,
  now_still k v cs m above.1 now.1,
)

-- what is put back over records that are new is found first
puts_over : (cs : List Change) → Ascends (map number cs) → (m : Records) → IsNow m cs → (n : ℕ)
    → get (with_puts m (flat_map put_old cs)) n ≡ over (find nat_cmp n (map pair cs)) (get m n)
puts_over [] h m now n = refl
puts_over (c ∷ cs) h m now n =
    elim (is_same_record (Some c.old) c.new) as (λ b. is_same_record (Some c.old) c.new ≡ b
    → get (with_puts m (put_of c.number (if b then None else Some c.old) ++ flat_map put_old cs)) n
    ≡ over (cond (eq_by_cmp nat_cmp n c.number) (Some c.old) (find nat_cmp n (map pair cs))) (get m n)) [
      | true ↦ λ same.
          puts_over cs h.1 m now.1 n
          ∙ kept_one (eq_by_cmp nat_cmp n c.number) c.old (find nat_cmp n (map pair cs)) (get m n) none
          (λ e. ap (get m) (one_number n c.number e) ∙ now.0 ∙ sym (record_is (Some c.old) c.new same))
      | false ↦ λ other.
          puts_over cs h.1 (insert m c.number c.old) (now_still c.number c.old cs m h.0 now.1) n
          ∙ ap (over (find nat_cmp n (map pair cs))) (get-insert nat_cmp_total m c.number c.old n)
          ∙ one_of (eq_by_cmp nat_cmp n c.number) c.old (find nat_cmp n (map pair cs)) (get m n) none
    ] refl
  where
    none : eq_by_cmp nat_cmp n c.number ≡ true → find nat_cmp n (map pair cs) ≡ None
    none e = below_all n cs (subst (λ k. EachOf (λ j. k < j) (map number cs)) (sym (one_number n c.number e)) h.0)

pub undone_over : (s : Slip) → Ascends (map number s.changes) → (m : Records) → IsNow m s.changes → (n : ℕ)
    → get (undone_records s m) n ≡ over (get (old_records s) n) (get m n)
undone_over s h m now n = puts_over s.changes h m now n ∙ ap (λ x. over x (get m n))
    (sym (get-from_entries nat_cmp_total (map pair s.changes) n))

new_found : (m : Records) (g : ℕ → Option Record) (cs : List Change) → IsNow m cs
    → EachOf (λ (c : Change). c.new ≡ g c.number) cs → (n : ℕ) (old : Record) → find nat_cmp n (map pair cs)
    ≡ Some old → get m n ≡ g n
new_found m g [] h k n old e = absurd cc
new_found m g (c ∷ cs) h k n old e = elim (eq_by_cmp nat_cmp n c.number) as (λ b. eq_by_cmp nat_cmp n c.number ≡ b
    → cond b (Some c.old) (find nat_cmp n (map pair cs)) ≡ Some old → get m n ≡ g n) [
      | true ↦ λ x y. subst (λ i. get m i ≡ g i) (sym (one_number n c.number x)) (h.0 ∙ k.0)
      | false ↦ λ x y. new_found m g cs h.1 k.1 n old y
    ] refl e

pub new_now : (next number : ℕ) (s : Slip) → IsSoundSlip next number s → (m : Records) → IsNow m s.changes
    → (n : ℕ) (old : Record) → get (old_records s) n ≡ Some old → get m n ≡ merged s.keep s.gone (get (old_records s)) n
new_now next number s slip m now n old e = new_found m (merged s.keep s.gone (get (old_records s))) s.changes now
    slip.merges n old (sym (get-from_entries nat_cmp_total (map pair s.changes) n) ∙ e)

-- a slip that is undone is sound as before
pub undone_slip : (next n : ℕ) (s : Slip) → IsSoundSlip next n s → IsSoundSlip next n (as_undone s)
undone_slip next n s h = record {
  numbered = h.numbered;
  ascending = h.ascending;
  gone = h.gone;
  keep = h.keep;
  apart = h.apart;
  joinable = h.joinable;
  merges = h.merges;
  named = h.named;
  rules = h.rules;
}
