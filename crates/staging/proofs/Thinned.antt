-- Lines and rows that are removed part by part.
use Rattle.std.proofs.Common.{
  ◌≡◌,
  ℕ,
  Bool,
  true,
  false,
  not,
  List,
  [],
  ◌∷◌,
  ◌++◌,
  filter,
  cond,
  refl,
  sym,
  ap,
  ap₂,
  subst,
  ◌∙◌,
  arith,
  ◌<◌,
  ◌≤◌,
  zero,
  suc,
  length,
  get_or,
  drop,
}
use Rattle.std.specs.Prelude.{◌==◌, ◌&&◌, ◌||◌, nat_lt}
use Rattle.std.specs.List.{list_any, slice_range}
use Rattle.std.proofs.lemmas.List.Folds.{drop_split}
use Rattle.std.proofs.Math.Seq.{drop-length}
use Rattle.std.proofs.lemmas.Bool.Decides.{nat_tests}
use Rattle.record_shapes.specs.Lists.{EachOf}
use Rattle.store_tables.specs.Rows.{
  Rows,
  LineRow,
  PackRow,
  is_line_from,
  is_pack_from,
  without_lines,
  without_lines_from,
  without_record_row,
}
use Rattle.store_rows.specs.Writing.{without_all_lines, without_record_rows}
use Rattle.staging.specs.Clearing.{IsThinned}
use Rattle.list_laws.proofs.Booleans.{or_right}
use Rattle.list_laws.proofs.Numbers.{it}

-- ---- lists of which items are left out twice
module _ {A : Type 0} (p q : A → Bool) where
  kept_both : (a b : Bool) (x : A) (xs : List A) → p x ≡ a → q x ≡ b
      → filter p (filter q xs) ≡ filter q (filter p xs)
      → filter p (cond b (x ∷ filter q xs) (filter q xs)) ≡ filter q (cond a (x ∷ filter p xs) (filter p xs))
  kept_both true true x xs e f same =
      ap (λ b. cond b (x ∷ filter p (filter q xs)) (filter p (filter q xs))) e ∙ ap (λ ys. x ∷ ys) same
      ∙ sym (ap (λ b. cond b (x ∷ filter q (filter p xs)) (filter q (filter p xs))) f)
  kept_both true false x xs e f same =
      same ∙ sym (ap (λ b. cond b (x ∷ filter q (filter p xs)) (filter q (filter p xs))) f)
  kept_both false true x xs e f same =
      ap (λ b. cond b (x ∷ filter p (filter q xs)) (filter p (filter q xs))) e ∙ same
  kept_both false false x xs e f same = same

  in_any_order : (xs : List A) → filter p (filter q xs) ≡ filter q (filter p xs)
  in_any_order [] = refl
  in_any_order (x ∷ xs) = kept_both (p x) (q x) x xs refl refl (in_any_order xs)

  left_out_before : ((x : A) → q x ≡ false → p x ≡ false) → (xs : List A) → filter p (filter q xs) ≡ filter p xs
  left_out_before h [] = refl
  left_out_before h (x ∷ xs) =
      elim (q x) as (λ b. q x ≡ b → filter p (cond b (x ∷ filter q xs) (filter q xs))
      ≡ cond (p x) (x ∷ filter p xs) (filter p xs)) [
        | true ↦ λ e. ap (λ ys. cond (p x) (x ∷ ys) ys) (left_out_before h xs)
        | false ↦ λ e. left_out_before h xs ∙ ap (λ b. cond b (x ∷ filter p xs) (filter p xs)) (sym (h x e))
      ] refl

-- ---- the lines of a number from a place on
-- what is left out of all lines from a place on is left out of the number's
no_line : (a b : Bool) → not (a && b) ≡ false → not a ≡ false
no_line true b h = refl
no_line false b h = absurd cc

-- what is left of the lines of a number from a place on, where all lines of it are removed
same_lines : (n at k : ℕ) (rows : Rows) → (k == n) ≡ true
    → without_lines k (without_lines_from n at rows) ≡ without_lines k rows
same_lines n at k rows e = ap₂ (λ ls ps. record rows { lines = ls; packs = ps })
    (left_out_before (λ (l : LineRow). not (l.no == k)) (λ l. not (is_line_from n at l))
    (λ l out. ap (λ m. not (l.no == m)) (it k n e) ∙ no_line (l.no == n) (not (nat_lt l.at at)) out) rows.lines)
    (left_out_before (λ (p : PackRow). not (p.no == k)) (λ p. not (is_pack_from n at p))
    (λ p out. ap (λ m. not (p.no == m)) (it k n e) ∙ no_line (p.no == n) (not (nat_lt 0 at)) out) rows.packs)

other_lines : (n at k : ℕ) (rows : Rows)
    → without_lines k (without_lines_from n at rows) ≡ without_lines_from n at (without_lines k rows)
other_lines n at k rows = ap₂ (λ ls ps. record rows { lines = ls; packs = ps })
    (in_any_order (λ (l : LineRow). not (l.no == k)) (λ l. not (is_line_from n at l)) rows.lines)
    (in_any_order (λ (p : PackRow). not (p.no == k)) (λ p. not (is_pack_from n at p)) rows.packs)

pub thinned_from : (n at : ℕ) (rows : Rows) → IsThinned n rows (without_lines_from n at rows)
thinned_from n at rows [] has = absurd cc
thinned_from n at rows (k ∷ ks) has =
    elim (k == n) as (λ b. (k == n) ≡ b → without_all_lines ks (without_lines k (without_lines_from n at rows))
    ≡ without_all_lines ks (without_lines k rows)) [
      | true ↦ λ e. ap (without_all_lines ks) (same_lines n at k rows e)
      | false ↦ λ e. ap (without_all_lines ks) (other_lines n at k rows)
          ∙ thinned_from n at (without_lines k rows) ks (sym (ap (λ b. b || list_any (λ m. m == n) ks) e) ∙ has)
    ] refl

pub thinned_more : (n : ℕ) (x y z : Rows) → IsThinned n x y → IsThinned n y z → IsThinned n x z
thinned_more n x y z first second ks has = second ks has ∙ first ks has

-- ---- numbers of a list
pub has_none : (P : ℕ → Type 0) (n : ℕ) (ns : List ℕ) → list_any (λ m. m == n) ns ≡ true → EachOf P ns → P n
has_none P n [] has all = absurd cc
has_none P n (m ∷ ms) has all =
    elim (m == n) as (λ b. (m == n) ≡ b → P n) [
      | true ↦ λ e. subst P (it m n e) all.0
      | false ↦ λ e. has_none P n ms (sym (ap (λ b. b || list_any (λ k. k == n) ms) e) ∙ has) all.1
    ] refl

pub there : (d at : ℕ) (ns : List ℕ) → at < length ns → list_any (λ m. m == get_or ns at d) ns ≡ true
there d at [] low = absurd (omega (arith, low))
there d zero (n ∷ ns) low =
    let same : (n == n) ≡ true = grind (arith, nat_tests) in
    ap (λ b. b || list_any (λ m. m == n) ns) same
there d (suc at) (n ∷ ns) low = or_right (n == get_or ns at d) _ (there d at ns (omega (arith, low)))

-- a number is among those from one before it on
pub there_from : (d first at : ℕ) (ns : List ℕ) → first ≤ at → at < length ns
    → list_any (λ m. m == get_or ns at d) (drop first ns) ≡ true
there_from d zero at ns le low = there d at ns low
there_from d (suc first) at [] le low = absurd (omega (arith, low))
there_from d (suc first) zero (n ∷ ns) le low = absurd (omega (arith, le))
there_from d (suc first) (suc at) (n ∷ ns) le low =
    there_from d first at ns (omega (arith, le)) (omega (arith, low))

pub lines_of_two : (ks ms : List ℕ) (rows : Rows)
    → without_all_lines (ks ++ ms) rows ≡ without_all_lines ms (without_all_lines ks rows)
lines_of_two [] ms rows = refl
lines_of_two (k ∷ ks) ms rows = lines_of_two ks ms (without_lines k rows)

pub rows_of_two : (ks ms : List ℕ) (rows : Rows)
    → without_record_rows (ks ++ ms) rows ≡ without_record_rows ms (without_record_rows ks rows)
rows_of_two [] ms rows = refl
rows_of_two (k ∷ ks) ms rows = rows_of_two ks ms (without_record_row k rows)

-- ---- the last numbers of a list
pub none_left : {A : Type 0} (xs : List A) → true ≡ (length xs == 0) → xs ≡ []
none_left [] h = refl
none_left (x ∷ xs) h =
    let more : length (x ∷ xs) ≡ 0 = it (length (x ∷ xs)) 0 (sym h) in
    absurd (omega (arith, more))

pub last_part : {A : Type 0} (xs : List A) (at : ℕ) → at ≤ length xs → drop at xs ≡ slice_range xs at (length xs) ++ []
last_part xs at le = drop_split xs at (length xs) le ∙ ap (λ ys. slice_range xs at (length xs) ++ ys) (drop-length xs)
