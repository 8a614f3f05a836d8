-- The plain archive of the records of some numbers.
use Rattle.std.proofs.Common.{
  ◌≡◌,
  ◌==◌,
  ◌||◌,
  ◌++◌,
  ◌+◌,
  ◌<◌,
  ◌≤◌,
  ℕ,
  List,
  length,
  take,
  get_or,
  [],
  ◌∷◌,
  Bool,
  true,
  false,
  cond,
  refl,
  sym,
  ap,
  ◌∙◌,
  subst,
  eqb-true,
  eq-eqb,
}
use Rattle.std.proofs.lemmas.Bool.{or_left, or_right}
use Rattle.std.proofs.lemmas.List.{take_all, take_more}
use Rattle.std.proofs.lemmas.List.Folds.{list_any-append}
use Rattle.std.specs.Prelude.{Option, Some, None}
use Rattle.std.specs.List.{list_any}
use Rattle.std.specs.FinMap.{get, keys}
use Rattle.record_kinds.specs.declared.record.Record.{Record}
use Rattle.archive_state.specs.Content.{Records}
use Rattle.archive_state.proofs.Later.{none_where}
use Rattle.archive_state.proofs.MapKeys.{among_keys}
use Rattle.archive_state.proofs.Putting.{put_here, put_elsewhere}
use Rattle.record_shapes.specs.Shapes.{Around}
use Rattle.plain_export.specs.Added.{lines_of}
use Rattle.plain_export.specs.Made.{AreMade, made_at, put_if}
use Rattle.plain_export.specs.Plain.{plain_at}
use Rattle.plain_export.specs.declared.added.Added.{Added}

abbrev pub is_in : List ℕ → ℕ → Bool
is_in ns n = list_any (λ j. j == n) ns

-- what has to stand at these numbers stands there, and nothing elsewhere
abbrev pub ArePut : (ℕ → Option Record) → List ℕ → Records → Type 0
ArePut at ns made = (n : ℕ) → get made n ≡ cond (is_in ns n) (at n) None

-- ---- one number more
here : (made : Records) (k : ℕ) (o : Option Record) → (o ≡ None → get made k ≡ None) → get (put_if made k o) k ≡ o
here made k None none = none refl
here made k (Some r) none = put_here made k r

elsewhere : (made : Records) (k n : ℕ) (o : Option Record) → (n ≡ k → ⊥) → get (put_if made k o) n ≡ get made n
elsewhere made k n None apart = refl
elsewhere made k n (Some r) apart = put_elsewhere made k r n apart

nothing_else : (b : Bool) (o : Option Record) → o ≡ None → cond b o None ≡ None
nothing_else true o none = none
nothing_else false o none = refl

module _ (at : ℕ → Option Record) (ns : List ℕ) (j : ℕ) (made : Records) (h : ArePut at ns made) where
  is_in_more : (n : ℕ) → is_in (ns ++ j ∷ []) n ≡ (is_in ns n || is_in (j ∷ []) n)
  is_in_more n = list_any-append (λ i. i == n) ns (j ∷ [])

  at_it : get (put_if made j (at j)) j ≡ cond (is_in (ns ++ j ∷ []) j) (at j) None
  at_it =
      here made j (at j) (λ none. h j ∙ nothing_else (is_in ns j) (at j) none)
      ∙ ap (λ b. cond b (at j) None)
      (sym (is_in_more j ∙ or_right (is_in ns j) _ (or_left (j == j) false (eq-eqb j j refl))))

  at_another : (n : ℕ) → (j == n) ≡ false → get (put_if made j (at j)) n ≡ cond (is_in (ns ++ j ∷ []) n) (at n) None
  at_another n off =
      elsewhere made j n (at j) (λ e. let both : true ≡ false = sym (eq-eqb j n (sym e)) ∙ off in absurd cc)
      ∙ h n ∙ ap (λ b. cond b (at n) None)
      (sym (is_in_more n ∙ ap (λ b. is_in ns n || (b || false)) off ∙ or_no (is_in ns n)))
    where
      or_no : (b : Bool) → (b || false) ≡ b
      or_no true = refl
      or_no false = refl

  pub one_more : ArePut at (ns ++ j ∷ []) (put_if made j (at j))
  one_more n = elim (j == n) as (λ b. (j == n) ≡ b
      → get (put_if made j (at j)) n ≡ cond (is_in (ns ++ j ∷ []) n) (at n) None) [
        | true ↦ λ is. subst (λ x. get (put_if made j (at j)) x ≡ cond (is_in (ns ++ j ∷ []) x) (at x) None)
            (eqb-true j n is) at_it
        | false ↦ λ off. at_another n off
      ] refl

-- ---- a walk over them
pub next_put : (at : ℕ → Option Record) (ns xs : List ℕ) (i : ℕ) (made : Records) → xs ≡ ns → i < length xs
    → ArePut at (take i ns) made
    → ArePut at (take (i + 1) ns) (put_if made (get_or xs i 0) (at (get_or xs i 0)))
next_put at ns xs i made same less h =
    let k = get_or xs i 0 in
    subst (λ ks. ArePut at (take (i + 1) ks) (put_if made k (at k))) same
    (subst (λ ks. ArePut at ks (put_if made k (at k))) (sym (take_more xs i 0 less))
    (one_more at (take i xs) k made (subst (λ ks. ArePut at (take i ks) made) (sym same) h)))

-- ---- all numbers
module _ (m : Records) (a : Around) (xs : List Added) (made : Records)
    (h : ArePut (made_at m a xs) (keys m) made) where
  none_there : (n : ℕ) → is_in (keys m) n ≡ false → made_at m a xs n ≡ None
  none_there n off = ap (λ o. plain_at m a (lines_of n xs) o)
      (none_where (get m n) (λ r at. let both : true ≡ false = sym (among_keys m n r at) ∙ off in absurd cc))

  pub all_made : AreMade m a xs made
  all_made n = h n ∙ elim (is_in (keys m) n) as (λ b. is_in (keys m) n ≡ b
      → cond b (made_at m a xs n) None ≡ made_at m a xs n) [
        | true ↦ λ _. refl
        | false ↦ λ off. sym (none_there n off)
      ] refl

pub whole_made : (m : Records) (a : Around) (xs : List Added) (made : Records) (ns : List ℕ) (i : ℕ)
    → ns ≡ keys m → length ns ≤ i → ArePut (made_at m a xs) (take i (keys m)) made → AreMade m a xs made
whole_made m a xs made ns i same all h = all_made m a xs made
    (subst (λ ks. ArePut (made_at m a xs) ks made)
    (take_all i (keys m) (subst (λ ks. length ks ≤ i) same all)) h)
