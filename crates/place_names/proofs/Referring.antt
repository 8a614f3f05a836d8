-- What holds of each record that names a number holds of one of them; and what holds of each of a list.
use Rattle.std.proofs.Common.{◌≡◌, ℕ, List, [], ◌∷◌, Bool, true, false, cond, refl, sym, ap, ◌∙◌, subst}
use Rattle.std.specs.Prelude.{Some, map, ◌==◌, ◌&&◌}
use Rattle.std.specs.List.{filter, list_all, list_any}
use Rattle.std.specs.FinMap.{entries, find, get, get-entries}
use Rattle.std.specs.Ordering.{nat_cmp, eq_by_cmp}
use Rattle.std.proofs.lemmas.Bool.{and_parts}
use Rattle.list_laws.proofs.Booleans.{neither, or_left, or_none, or_right}
use Rattle.list_laws.proofs.Numbers.{same_self}
use Rattle.record_kinds.specs.declared.record.Record.{Record}
use Rattle.record_shapes.specs.Lists.{EachOf}
use Rattle.record_shapes.proofs.Each.{each_more}
use Rattle.archive_state.specs.Content.{Content}
use Rattle.archive_state.specs.Links.{Link, is_among, links}
use Rattle.archive_state.specs.Referrers.{naming, referrers}
use Rattle.archive_state.proofs.Putting.{one_number}

-- ---- tests on each of a list
module _ {A : Type 0} (test : A → Bool) where
  pub each_true : (xs : List A) → list_all test xs ≡ true → EachOf (λ x. test x ≡ true) xs
  each_true [] e = tt
  each_true (x ∷ xs) e = let both = and_parts (test x) (list_all test xs) e in (both.0, each_true xs both.1)

  pub each_false : (xs : List A) → list_any test xs ≡ false → EachOf (λ x. test x ≡ false) xs
  each_false [] e = tt
  each_false (x ∷ xs) e = let both = neither (test x) (list_any test xs) e in (both.0, each_false xs both.1)

  pub all_true : (xs : List A) → EachOf (λ x. test x ≡ true) xs → list_all test xs ≡ true
  all_true [] h = refl
  all_true (x ∷ xs) h = λ i. h.0 i && all_true xs h.1 i

  pub none_true : (xs : List A) → EachOf (λ x. test x ≡ false) xs → list_any test xs ≡ false
  none_true [] h = refl
  none_true (x ∷ xs) h = or_none (test x) (list_any test xs) h.0 (none_true xs h.1)

-- what no item of the list passes, this one does not
pub each_inside : {A : Type 0} (xs : List A)
    → EachOf (λ x. (test : A → Bool) → list_any test xs ≡ false → test x ≡ false) xs
each_inside [] = tt
each_inside {A} (x ∷ xs) = (
  λ test e. (neither (test x) (list_any test xs) e).0,
  each_more (λ y. (test : A → Bool) → list_any test xs ≡ false → test y ≡ false)
      (λ y. (test : A → Bool) → list_any test (x ∷ xs) ≡ false → test y ≡ false)
      (λ y h test e. h test (neither (test x) (list_any test xs) e).1) xs (each_inside xs),
)

-- ---- each link is among the links
pub each_among : (ls : List Link) → EachOf (λ (l : Link). is_among l.0 ls ≡ true) ls
each_among [] = tt
each_among (l ∷ ls) = (
  or_left (l.0 == l.0) (is_among l.0 ls) (same_self l.0),
  each_more (λ (x : Link). is_among x.0 ls ≡ true) (λ (x : Link). is_among x.0 (l ∷ ls) ≡ true)
      (λ x h. or_right (l.0 == x.0) (is_among x.0 ls) h) ls (each_among ls),
)

-- ---- the records that name a number
module _ (Q : ℕ → Type 0) (j : ℕ) where
  here : (b : Bool) (d : ℕ × Record) (es : List (ℕ × Record)) → b ≡ true
      → EachOf Q (map (λ (e : ℕ × Record). e.0) (cond b (d ∷ es) es)) → Q d.0
  here true d es e h = h.0
  here false d es e h = absurd cc

  rest : (b : Bool) (d : ℕ × Record) (es : List (ℕ × Record))
      → EachOf Q (map (λ (e : ℕ × Record). e.0) (cond b (d ∷ es) es))
      → EachOf Q (map (λ (e : ℕ × Record). e.0) es)
  rest true d es h = h.1
  rest false d es h = h

  abbrev names_it : ℕ × Record → Bool
  names_it e = is_among j (links e.1)

  of_entries : (k : ℕ) (r : Record) (es : List (ℕ × Record)) → find nat_cmp k es ≡ Some r
      → is_among j (links r) ≡ true → EachOf Q (naming j es) → Q k
  of_entries k r [] e named h = absurd cc
  of_entries k r (d ∷ es) e named h =
      elim (eq_by_cmp nat_cmp k d.0) as (λ b. eq_by_cmp nat_cmp k d.0 ≡ b
      → cond b (Some d.1) (find nat_cmp k es) ≡ Some r → Q k) [
        | true ↦ λ q f.
            let same : d.1 ≡ r = cc in
            subst Q (sym (one_number k d.0 q)) (here (names_it d) d (filter names_it es)
            (ap (λ x. is_among j (links x)) same ∙ named) h)
        | false ↦ λ q f. of_entries k r es f named (rest (names_it d) d (filter names_it es) h)
      ] refl e

  pub of_referrers : (c : Content) (k : ℕ) (r : Record) → get c.records k ≡ Some r → is_among j (links r) ≡ true
      → EachOf Q (referrers c j) → Q k
  of_referrers c k r at named h = of_entries k r (entries c.records) (sym (get-entries c.records k) ∙ at) named h
