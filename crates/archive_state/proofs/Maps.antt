-- A `BTreeMap` under numbers, seen as the finite map of its entries.
use Rattle.std.proofs.Common.{Bool, true, false, ◌≡◌, ℕ, List, [], ◌∷◌, cond, refl, sym, ap, ◌∙◌}
use Rattle.std.specs.Prelude.{Option, Some, None}
use Rattle.std.specs.Ordering.{nat_cmp, eq_by_cmp, is_eq, match_ordering}
use Rattle.std.specs.declared.cmp.Ordering.{Ordering}
use Rattle.std.specs.declared.cmp.Ordering.TheVariants.{Less, Equal, Greater}
use Rattle.std.specs.Cmp.{nat_cmp_total, eq_by_cmp_equiv}
use Rattle.std.specs.Map.{lookup}
use Rattle.std.specs.Prelude.{map}
use Rattle.std.specs.Cmp.Lexicographic.{slice_cmp, nat_list_cmp_total}
use Rattle.std.specs.String.{string_bytes, string_cmp}
use Rattle.std.specs.declared.string.String.{String}
use Rattle.receipts.specs.declared.answer.Receipt.{Receipt}
use Rattle.archive_state.specs.Content.{receipts_of}
use Rattle.std.specs.BTreeMap.{is_at, insert_entry}
use Rattle.std.specs.FinMap.{
  find,
  get,
  from_entries,
  insert,
  remove,
  get-from_entries,
  get-insert,
  get-remove,
  same_map,
  IsAntisymmetric,
  nat_cmp-IsAntisymmetric,
  slice_cmp-IsAntisymmetric,
}

module _ {X : Type 0} where
  find_lookup : (es : List (ℕ × X)) (q : ℕ) → find nat_cmp q es ≡ lookup (is_at (nat_cmp q)) es
  find_lookup [] q = refl
  find_lookup (e ∷ es) q = ap (cond (is_at (nat_cmp q) e.0) (Some e.1)) (find_lookup es q)

  -- what a map that entries make has at a key
  pub get_lookup : (es : List (ℕ × X)) (q : ℕ) → get (from_entries {R = nat_cmp} es) q ≡ lookup (is_at (nat_cmp q)) es
  get_lookup es q = get-from_entries nat_cmp_total es q ∙ find_lookup es q

  -- entries that differ at one key make maps that differ there
  pub one_set : (es fs : List (ℕ × X)) (k : ℕ) (v : X)
      → ((q : ℕ) → lookup (is_at (nat_cmp q)) fs ≡ cond (is_at (nat_cmp k) q) (Some v) (lookup (is_at (nat_cmp q)) es))
      → from_entries {R = nat_cmp} fs ≡ insert (from_entries es) k v
  one_set es fs k v h = same_map nat_cmp_total nat_cmp-IsAntisymmetric _ _ (λ q.
      get_lookup fs q ∙ h q ∙ ap (λ b. cond b (Some v) (lookup (is_at (nat_cmp q)) es))
      ((eq_by_cmp_equiv nat_cmp_total).symm k q)
      ∙ sym (get-insert nat_cmp_total (from_entries es) k v q ∙ ap (cond (is_at (nat_cmp q) k) (Some v))
      (get_lookup es q)))

  -- entries that lack one key make the map without it
  pub one_removed : (es fs : List (ℕ × X)) (k : ℕ)
      → ((q : ℕ) → lookup (is_at (nat_cmp q)) fs ≡ cond (is_at (nat_cmp k) q) None (lookup (is_at (nat_cmp q)) es))
      → from_entries {R = nat_cmp} fs ≡ remove (from_entries es) k
  one_removed es fs k h = same_map nat_cmp_total nat_cmp-IsAntisymmetric _ _ (λ q.
      get_lookup fs q ∙ h q ∙ ap (λ b. cond b None (lookup (is_at (nat_cmp q)) es))
      ((eq_by_cmp_equiv nat_cmp_total).symm k q)
      ∙ sym (get-remove nat_cmp_total (from_entries es) k q ∙ ap (cond (is_at (nat_cmp q) k) None) (get_lookup es q)))

-- what the map of entries whose keys are texts has at a text
module _ {Z : Type 0} where
  find_text : (es : List (String Z × Receipt)) (q : List ℕ) → find (slice_cmp nat_cmp) q
      (map (λ e. (string_bytes e.0, e.1)) es) ≡ lookup (is_at (λ k. slice_cmp nat_cmp q (string_bytes k))) es
  find_text [] q = refl
  find_text (e ∷ es) q = ap (cond (is_at (slice_cmp nat_cmp q) (string_bytes e.0)) (Some e.1)) (find_text es q)

  pub get_text : (es : List (String Z × Receipt)) (q : List ℕ) → get (receipts_of es) q ≡ lookup
      (is_at (λ k. slice_cmp nat_cmp q (string_bytes k))) es
  get_text es q = get-from_entries nat_list_cmp_total (map (λ e. (string_bytes e.0, e.1)) es) q ∙ find_text es q

text_antisymmetric : IsAntisymmetric (slice_cmp nat_cmp)
text_antisymmetric = slice_cmp-IsAntisymmetric nat_cmp-IsAntisymmetric

both_same : (b : Bool) (v w : Receipt) (o : Option Receipt) → cond b (Some v) o ≡ cond b (Some v) (cond b (Some w) o)
both_same true v w o = refl
both_same false v w o = refl

-- two tests that are never both true may be asked in either order
apart : (a b : Bool) (v w : Receipt) (o : Option Receipt) → (a ≡ true → b ≡ false)
    → cond b (Some w) (cond a (Some v) o) ≡ cond a (Some v) (cond b (Some w) o)
apart true true v w o h = absurd (let no : true ≡ false = h refl in cc)
apart true false v w o h = refl
apart false b v w o h = refl

is_equal : (o : Ordering) → is_eq o ≡ true → o ≡ Equal
is_equal Less t = absurd (let no : false ≡ true = t in cc)
is_equal Equal t = refl
is_equal Greater t = absurd (let no : false ≡ true = t in cc)

module _ {Z : Type 0} where
  find_put : (es : List (String Z × Receipt)) (k : String Z) (v : Receipt) (q : List ℕ)
      → find (slice_cmp nat_cmp) q (map (λ e. (string_bytes e.0, e.1)) (insert_entry string_cmp es k v))
      ≡ cond (eq_by_cmp (slice_cmp nat_cmp) q (string_bytes k)) (Some v)
      (find (slice_cmp nat_cmp) q (map (λ e. (string_bytes e.0, e.1)) es))
  find_put [] k v q = refl
  find_put (e ∷ es) k v q =
      elim (slice_cmp nat_cmp (string_bytes k) (string_bytes e.0)) as (λ o. slice_cmp nat_cmp (string_bytes k)
      (string_bytes e.0) ≡ o
      → find (slice_cmp nat_cmp) q
      (map (λ f. (string_bytes f.0, f.1))
      (match_ordering o ((k, v) ∷ e ∷ es) ((e.0, v) ∷ es) (e ∷ insert_entry string_cmp es k v)))
      ≡ cond (eq_by_cmp (slice_cmp nat_cmp) q (string_bytes k)) (Some v)
      (find (slice_cmp nat_cmp) q (map (λ f. (string_bytes f.0, f.1)) (e ∷ es)))) [
        | Less ↦ λ p. refl
        | Equal ↦ λ p.
            let same : string_bytes k ≡ string_bytes e.0 = text_antisymmetric _ _ p in
            both_same (eq_by_cmp (slice_cmp nat_cmp) q (string_bytes e.0)) v e.1
            (find (slice_cmp nat_cmp) q (map (λ f. (string_bytes f.0, f.1)) es))
            ∙ ap (λ x. cond (eq_by_cmp (slice_cmp nat_cmp) q x) (Some v)
            (find (slice_cmp nat_cmp) q (map (λ f. (string_bytes f.0, f.1)) (e ∷ es)))) (sym same)
        | Greater ↦ λ p.
            ap (cond (eq_by_cmp (slice_cmp nat_cmp) q (string_bytes e.0)) (Some e.1)) (find_put es k v q)
            ∙ apart (eq_by_cmp (slice_cmp nat_cmp) q (string_bytes k))
            (eq_by_cmp (slice_cmp nat_cmp) q (string_bytes e.0)) v e.1
            (find (slice_cmp nat_cmp) q (map (λ f. (string_bytes f.0, f.1)) es))
            (λ t. let here : q ≡ string_bytes k = text_antisymmetric q (string_bytes k)
            (is_equal (slice_cmp nat_cmp q (string_bytes k)) t) in
            ap (λ x. eq_by_cmp (slice_cmp nat_cmp) x (string_bytes e.0)) here ∙ ap is_eq p)
      ] refl

  -- to put a receipt among the entries is to insert it under the text
  pub text_put : (es : List (String Z × Receipt)) (k : String Z) (v : Receipt)
      → receipts_of (insert_entry string_cmp es k v) ≡ insert (receipts_of es) (string_bytes k) v
  text_put es k v = same_map nat_list_cmp_total text_antisymmetric _ _ (λ q.
      get-from_entries nat_list_cmp_total (map (λ e. (string_bytes e.0, e.1)) (insert_entry string_cmp es k v)) q
      ∙ find_put es k v q
      ∙ ap (cond (eq_by_cmp (slice_cmp nat_cmp) q (string_bytes k)) (Some v))
      (sym (get-from_entries nat_list_cmp_total (map (λ e. (string_bytes e.0, e.1)) es) q))
      ∙ sym (get-insert nat_list_cmp_total (receipts_of es) (string_bytes k) v q))
