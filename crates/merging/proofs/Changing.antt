-- What stands at each number when the changes of a merge are made, and when the merge is undone at once.
use Rattle.std.proofs.Common.{
  ◌≡◌,
  ℕ,
  ◌<◌,
  List,
  [],
  ◌∷◌,
  ◌++◌,
  Bool,
  true,
  false,
  cond,
  refl,
  sym,
  ap,
  ◌∙◌,
  inl,
  inr,
  subst,
  arith,
}
use Rattle.std.specs.Prelude.{Option, Some, None, map, option_map, ◌||◌, ◌==◌}
use Rattle.std.specs.List.{filter, flat_map}
use Rattle.std.specs.FinMap.{
  get,
  find,
  entries,
  get-entries,
  insert,
  get-insert,
  get-remove,
  get-from_entries,
  same_map,
  nat_cmp-IsAntisymmetric,
}
use Rattle.std.specs.Ordering.{nat_cmp, eq_by_cmp}
use Rattle.std.specs.Cmp.{nat_cmp_total}
use Rattle.record_kinds.specs.declared.record.Record.{Record}
use Rattle.record_kinds.specs.declared.record.Record.TheVariants as kind
use Rattle.archive_state.specs.Content.{Records}
use Rattle.archive_state.specs.Merging.{merged, merged_record, merged_person, joined_person, person_with, renamed}
use Rattle.archive_state.specs.declared.slip.Change.{Change}
use Rattle.archive_state.specs.declared.changes.Numbered.{Numbered}
use Rattle.record_shapes.specs.Lists.{EachOf, Ascends}
use Rattle.archive_state.specs.Sound.{old_records}
use Rattle.merging.specs.Merges.{
  over,
  is_changed,
  change_at,
  merge_changes,
  put_of,
  put_new,
  merged_records,
  undone_records,
  slip_of,
}
use Rattle.archive_state.specs.Applied.{with_puts}
use Rattle.merging.proofs.Merged.{at_gone, at_keep, at_other, which}
use Rattle.merging.proofs.Picking.{key, entries_rise, filter_rises, pick, pick_none, pick_passed, pick_failed}
use Rattle.archive_state.proofs.Putting.{one_number}
use Rattle.merging.proofs.MergeComparing.{IsNow}
use Rattle.merging.proofs.PutBack.{undone_over}
use Rattle.list_laws.proofs.Numbers.{itself, same_self}

-- ---- puts of changes
abbrev number : Change → ℕ
number c = c.number

abbrev new_in : ℕ → List Change → Option Record
new_in n [] = None
new_in n (c ∷ cs) = cond (eq_by_cmp nat_cmp n c.number) c.new (new_in n cs)

none_new : (n : ℕ) (cs : List Change) → EachOf (λ k. n < k) (map number cs) → new_in n cs ≡ None
none_new n [] h = refl
none_new n (c ∷ cs) h = elim (eq_by_cmp nat_cmp n c.number) as (λ b. eq_by_cmp nat_cmp n c.number ≡ b
    → cond b c.new (new_in n cs) ≡ None) [
      | true ↦ λ e. let same : n ≡ c.number = one_number n c.number e in let less : n < c.number = h.0 in
          absurd (omega arith)
      | false ↦ λ e. none_new n cs h.1
    ] refl

one_new : (o : Option Record) (k n : ℕ) (m : Records) (ps : List Numbered) (rest : Option Record)
    → ((x : Records) → get (with_puts x ps) n ≡ over rest (get x n)) → (eq_by_cmp nat_cmp n k ≡ true → rest ≡ None)
    → get (with_puts m (put_of k o ++ ps)) n ≡ over (cond (eq_by_cmp nat_cmp n k) o rest) (get m n)
one_new None k n m ps rest h none = elim (eq_by_cmp nat_cmp n k) as (λ b. eq_by_cmp nat_cmp n k ≡ b
    → get (with_puts m ps) n ≡ over (cond b None rest) (get m n)) [
      | true ↦ λ e. h m ∙ ap (λ x. over x (get m n)) (none e)
      | false ↦ λ e. h m
    ] refl
one_new (Some r) k n m ps rest h none =
    h (insert m k r) ∙ ap (over rest) (get-insert nat_cmp_total m k r n)
    ∙ elim (eq_by_cmp nat_cmp n k) as (λ b. eq_by_cmp nat_cmp n k ≡ b → over rest (cond b (Some r) (get m n))
    ≡ over (cond b (Some r) rest) (get m n)) [
      | true ↦ λ e. ap (λ x. over x (Some r)) (none e)
      | false ↦ λ e. refl
    ] refl

puts_new : (cs : List Change) → Ascends (map number cs) → (m : Records) (n : ℕ)
    → get (with_puts m (flat_map put_new cs)) n ≡ over (new_in n cs) (get m n)
puts_new [] h m n = refl
puts_new (c ∷ cs) h m n = one_new c.new c.number n m (flat_map put_new cs) (new_in n cs) (λ x. puts_new cs h.1 x n)
    (λ e. none_new n cs (subst (λ k. EachOf (λ j. k < j) (map number cs)) (sym (one_number n c.number e)) h.0))

-- ---- the changes of a merge
module _ (keep gone : ℕ) (m : Records) where
  abbrev test : ℕ × Record → Bool
  test e = is_changed keep gone m e.0 e.1

  abbrev change : ℕ × Record → Change
  change e = change_at keep gone m e

  abbrev found : List (ℕ × Record)
  found = filter test (entries m)

  same_numbers : (es : List (ℕ × Record)) → map number (map change es) ≡ map key es
  same_numbers [] = refl
  same_numbers (e ∷ es) = ap (λ l. e.0 ∷ l) (same_numbers es)

  -- the changed numbers ascend
  pub changes_rise : Ascends (map number (merge_changes keep gone m))
  changes_rise = subst Ascends (sym (same_numbers found)) (filter_rises test (entries m) (entries_rise m))

  new_pick : (n : ℕ) (es : List (ℕ × Record)) → new_in n (map change es) ≡ pick (λ e. merged keep gone (get m) e.0) n es
  new_pick n [] = refl
  new_pick n (e ∷ es) = ap (cond (eq_by_cmp nat_cmp n e.0) (merged keep gone (get m) e.0)) (new_pick n es)

  old_pick : (n : ℕ) (es : List (ℕ × Record)) → find nat_cmp n (map (λ (c : Change). (c.number, c.old)) (map change es))
      ≡ pick (λ e. Some e.1) n es
  old_pick n [] = refl
  old_pick n (e ∷ es) = ap (cond (eq_by_cmp nat_cmp n e.0) (Some e.1)) (old_pick n es)

  some_entry : (n : ℕ) (o : Option Record) → get m n ≡ o → find nat_cmp n (entries m) ≡ o
  some_entry n o e = sym (get-entries m n) ∙ e

  -- ---- what is old
  old_at : (n : ℕ) → get (old_records (slip_of keep gone m)) n ≡ pick (λ e. Some e.1) n found
  old_at n = get-from_entries nat_cmp_total (map (λ (c : Change). (c.number, c.old)) (map change found)) n
      ∙ old_pick n found

  pub old_none : (n : ℕ) → get m n ≡ None → get (old_records (slip_of keep gone m)) n ≡ None
  old_none n e = old_at n ∙ pick_none (λ e. Some e.1) test n (entries m) (some_entry n None e)

  pub old_there : (n : ℕ) (r : Record) → get m n ≡ Some r → is_changed keep gone m n r ≡ true
      → get (old_records (slip_of keep gone m)) n ≡ Some r
  old_there n r e t = old_at n ∙ pick_passed (λ e. Some e.1) test n r (entries m) (some_entry n (Some r) e) t

  pub old_left : (n : ℕ) (r : Record) → get m n ≡ Some r → is_changed keep gone m n r ≡ false
      → get (old_records (slip_of keep gone m)) n ≡ None
  old_left n r e t = old_at n ∙ pick_failed (λ e. Some e.1) test n r (entries m) (entries_rise m)
      (some_entry n (Some r) e) t

  -- ---- what is new
  made : (n : ℕ) → get (merged_records keep gone m) n ≡ cond (eq_by_cmp nat_cmp n gone) None
      (over (pick (λ e. merged keep gone (get m) e.0) n found) (get m n))
  made n = get-remove nat_cmp_total (with_puts m (flat_map put_new (merge_changes keep gone m))) gone n
      ∙ ap (cond (eq_by_cmp nat_cmp n gone) None) (puts_new (merge_changes keep gone m) changes_rise m n
      ∙ ap (λ x. over x (get m n)) (new_pick n found))

  pub made_gone : get (merged_records keep gone m) gone ≡ None
  made_gone = made gone
      ∙ ap (λ b. cond b None (over (pick (λ e. merged keep gone (get m) e.0) gone found) (get m gone))) (itself gone)

  either_none : (b : Bool) (o : Option Record) → o ≡ None → cond b None o ≡ None
  either_none true o e = refl
  either_none false o e = e

  not_gone : (n : ℕ) → (n ≡ gone → ⊥) → eq_by_cmp nat_cmp n gone ≡ false
  not_gone n h = elim (eq_by_cmp nat_cmp n gone) as (λ b. eq_by_cmp nat_cmp n gone ≡ b
      → eq_by_cmp nat_cmp n gone ≡ false) [
        | true ↦ λ e. absurd (h (one_number n gone e))
        | false ↦ λ e. e
      ] refl

  pub made_none : (n : ℕ) → get m n ≡ None → get (merged_records keep gone m) n ≡ None
  made_none n e = made n ∙ either_none (eq_by_cmp nat_cmp n gone)
      (over (pick (λ e. merged keep gone (get m) e.0) n found) (get m n))
      (ap (λ x. over x (get m n)) (pick_none (λ e. merged keep gone (get m) e.0) test n (entries m)
      (some_entry n None e)) ∙ e)

  first_no : (a b : Bool) → (a || b) ≡ false → a ≡ false
  first_no true b e = absurd cc
  first_no false b e = refl

  pub no_gone : (n : ℕ) (r : Record) → is_changed keep gone m n r ≡ false → n ≡ gone → ⊥
  no_gone n r t same = let no_test : true ≡ false = sym (same_self gone) ∙ ap (λ k. k == gone) (sym same)
      ∙ first_no (n == gone) _ t in absurd cc

  pub made_left : (n : ℕ) (r : Record) → get m n ≡ Some r → is_changed keep gone m n r ≡ false
      → get (merged_records keep gone m) n ≡ Some r
  made_left n r e t = made n ∙ ap (λ b. cond b None (over (pick (λ e. merged keep gone (get m) e.0) n found) (get m n)))
      (not_gone n (no_gone n r t))
      ∙ ap (λ x. over x (get m n)) (pick_failed (λ e. merged keep gone (get m) e.0) test n r (entries m)
      (entries_rise m) (some_entry n (Some r) e) t) ∙ e

  -- something stands where something stood, but at the one that is gone
  some_two : (k g : Option Record) (r : Record) → k ≡ Some r → (x : Record) × (merged_person keep gone k g ≡ Some x)
  some_two None g r e = absurd cc
  some_two (Some (kind.Place k)) g r e = (kind.Place k, refl)
  some_two (Some (kind.Repo k)) g r e = (kind.Repo k, refl)
  some_two (Some (kind.Source k)) g r e = (kind.Source k, refl)
  some_two (Some (kind.Person k)) None r e = (kind.Person k, refl)
  some_two (Some (kind.Person k)) (Some (kind.Place g)) r e = (kind.Person k, refl)
  some_two (Some (kind.Person k)) (Some (kind.Repo g)) r e = (kind.Person k, refl)
  some_two (Some (kind.Person k)) (Some (kind.Source g)) r e = (kind.Person k, refl)
  some_two (Some (kind.Person k)) (Some (kind.Person g)) r e =
      (kind.Person (joined_person (person_with (renamed keep gone) k) (person_with (renamed keep gone) g)), refl)
  some_two (Some (kind.Person k)) (Some (kind.Family g)) r e = (kind.Person k, refl)
  some_two (Some (kind.Person k)) (Some (kind.Citation g)) r e = (kind.Person k, refl)
  some_two (Some (kind.Person k)) (Some (kind.Event g)) r e = (kind.Person k, refl)
  some_two (Some (kind.Person k)) (Some (kind.Entry g)) r e = (kind.Person k, refl)
  some_two (Some (kind.Person k)) (Some (kind.Other g)) r e = (kind.Person k, refl)
  some_two (Some (kind.Family k)) g r e = (kind.Family k, refl)
  some_two (Some (kind.Citation k)) g r e = (kind.Citation k, refl)
  some_two (Some (kind.Event k)) g r e = (kind.Event k, refl)
  some_two (Some (kind.Entry k)) g r e = (kind.Entry k, refl)
  some_two (Some (kind.Other k)) g r e = (kind.Other k, refl)

  pub some_still : (n : ℕ) (r : Record) → (n ≡ gone → ⊥) → get m n ≡ Some r → (x : Record)
      × (merged keep gone (get m) n ≡ Some x)
  some_still n r other e = elim (which keep gone n) as (λ _. (x : Record) × (merged keep gone (get m) n ≡ Some x)) [
    | inl h ↦ absurd (other h)
    | inr h ↦ elim h as (λ _. (x : Record) × (merged keep gone (get m) n ≡ Some x)) [
      | inl k ↦
          let apart : keep ≡ gone → ⊥ = λ same. other (k.1 ∙ same) in
          let two = some_two (get m keep) (get m gone) r (ap (get m) (sym k.1) ∙ e) in
          (two.0, ap (merged keep gone (get m)) k.1 ∙ at_keep keep gone (get m) apart ∙ two.1)
      | inr k ↦ (
        merged_record keep gone r,
        at_other keep gone (get m) n k.0 k.1
            ∙ ap (option_map (merged_record keep gone)) e,
      )
    ]
  ]

  pub made_there : (n : ℕ) (r : Record) → get m n ≡ Some r → is_changed keep gone m n r ≡ true
      → get (merged_records keep gone m) n ≡ merged keep gone (get m) n
  made_there n r e t = elim (which keep gone n) as (λ _. get (merged_records keep gone m) n
      ≡ merged keep gone (get m) n) [
        | inl h ↦ ap (get (merged_records keep gone m)) h ∙ made_gone ∙ sym (at_gone keep gone (get m))
            ∙ ap (merged keep gone (get m)) (sym h)
        | inr h ↦
            let other : n ≡ gone → ⊥ = elim h as (λ _. n ≡ gone → ⊥) [ inl k ↦ k.0 | inr k ↦ k.0 ] in
            let new = some_still n r other e in
            made n ∙ ap (λ b. cond b None (over (pick (λ e. merged keep gone (get m) e.0) n found) (get m n)))
            (not_gone n other)
            ∙ ap (λ x. over x (get m n)) (pick_passed (λ e. merged keep gone (get m) e.0) test n r (entries m)
            (some_entry n (Some r) e) t ∙ new.1) ∙ sym new.1
      ]

  -- ---- undone at once
  -- the records of before
  pub undone_at : IsNow (merged_records keep gone m) (merge_changes keep gone m) → (n : ℕ)
      → get (undone_records (slip_of keep gone m) (merged_records keep gone m)) n ≡ get m n
  undone_at now n =
      undone_over (slip_of keep gone m) changes_rise (merged_records keep gone m) now n
      ∙ elim (get m n) as (λ o. get m n ≡ o → over (get (old_records (slip_of keep gone m)) n)
      (get (merged_records keep gone m) n) ≡ o) [
        | None ↦ λ e. ap (λ x. over x (get (merged_records keep gone m) n)) (old_none n e) ∙ made_none n e
        | Some r ↦ λ e. elim (is_changed keep gone m n r) as (λ b. is_changed keep gone m n r ≡ b
            → over (get (old_records (slip_of keep gone m)) n) (get (merged_records keep gone m) n) ≡ Some r) [
              | true ↦ λ t. ap (λ x. over x (get (merged_records keep gone m) n)) (old_there n r e t)
              | false ↦ λ t. ap (λ x. over x (get (merged_records keep gone m) n)) (old_left n r e t)
                  ∙ made_left n r e t
            ] refl
      ] refl

  pub undone_merge : IsNow (merged_records keep gone m) (merge_changes keep gone m)
      → undone_records (slip_of keep gone m) (merged_records keep gone m) ≡ m
  undone_merge now = same_map nat_cmp_total nat_cmp-IsAntisymmetric
      (undone_records (slip_of keep gone m) (merged_records keep gone m)) m (undone_at now)

  -- each number of the slip has its new record then, so that the undoing is not refused
  pub each_found : (Q : ℕ × Record → Type 0)
      → ((n : ℕ) (r : Record) → get m n ≡ Some r → is_changed keep gone m n r ≡ true → Q (n, r))
      → (es : List (ℕ × Record)) → EachOf (λ e. get m e.0 ≡ Some e.1) es → EachOf Q (filter test es)
  each_found Q h [] there = tt
  each_found Q h (e ∷ es) there =
      elim (test e) as (λ b. test e ≡ b → EachOf Q (cond b (e ∷ filter test es) (filter test es))) [
        | true ↦ λ t. (h e.0 e.1 there.0 t, each_found Q h es there.1)
        | false ↦ λ t. each_found Q h es there.1
      ] refl
