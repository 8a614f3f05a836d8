-- The paths of the places of the first of some numbers.
use Rattle.std.proofs.Common.{
  ◌≡◌,
  ℕ,
  zero,
  suc,
  ◌+◌,
  ◌<◌,
  ◌==◌,
  List,
  [],
  ◌∷◌,
  length,
  take,
  get_or,
  Bool,
  true,
  false,
  ◌||◌,
  refl,
  sym,
  ap,
  subst,
  ◌∙◌,
  inl,
  inr,
  arith,
  eqb-true,
  eq-eqb,
}
use Rattle.std.specs.Prelude.{Option, Some, None, if◌then◌else◌, string_bytes}
use Rattle.std.specs.List.{list_any}
use Rattle.std.specs.FinMap.{get, insert}
use Rattle.std.proofs.lemmas.List.{take_more}
use Rattle.std.proofs.lemmas.List.Folds.{list_any-append}
use Rattle.record_shapes.specs.Lists.{Ascends, EachOf}
use Rattle.record_shapes.specs.Paths.{is_within_limits}
use Rattle.archive_state.specs.Content.{Records}
use Rattle.archive_state.specs.Known.{path_of, path_with}
use Rattle.archive_state.proofs.Known.{path_known}
use Rattle.archive_state.proofs.Putting.{put_cases}
use Rattle.sound_records.specs.Knowing.{AreWithin, HasAll, IsTooLong, KnowsPaths, PathMap}
use Rattle.sound_records.specs.Looks.{IsLook, Keeps, is_too_long}
use Rattle.sound_records.specs.declared.survey.PathLook.{PathLook}
use Rattle.sound_records.specs.declared.survey.PathLook.TheVariants as looks
use Rattle.archive_state.proofs.Later.{none_where}
use Rattle.record_shapes.proofs.Limits.{limits}
use Rattle.list_laws.proofs.Booleans.{or_nothing}
use Rattle.archive_state.proofs.PathsAlike.{path_there, with_alike}

abbrev pub is_in : List ℕ → ℕ → Bool
is_in ns n = list_any (λ k. k == n) ns

-- the paths of the places at these numbers are known, and are within the limits
pub record Upto (m : Records) (front : List ℕ) (paths : PathMap) : Type 0 where
  pub known : (n : ℕ) → get paths n ≡ (if is_in front n then path_of m n else None)
  pub within : (n : ℕ) (path : List ℕ) → get paths n ≡ Some path → is_within_limits path ≡ true

pub none_yet : (m : Records) (paths : PathMap) → ((n : ℕ) → get paths n ≡ None) → Upto m [] paths
none_yet m paths h = record {
  known = h;
  within = λ n path e. let no : None ≡ Some path = sym (h n) ∙ e in absurd cc;
}

-- ---- numbers that ascend
each_in : (P : ℕ → Type 0) (ns : List ℕ) (q : ℕ) → EachOf P ns → is_in ns q ≡ true → P q
each_in P [] q h e = absurd cc
each_in P (n ∷ ns) q h e = elim (n == q) as (λ b. (n == q) ≡ b → (b || is_in ns q) ≡ true → P q) [
  | true ↦ λ same _. subst P (eqb-true n q same) h.0
  | false ↦ λ _ rest. each_in P ns q h.1 rest
] refl e

-- what is less than one of them stands in front of it
in_front : (ns : List ℕ) (i q : ℕ) → Ascends ns → i < length ns → q < get_or ns i 0 → is_in ns q ≡ true
    → is_in (take i ns) q ≡ true
in_front [] i q asc less small e = absurd (omega arith)
in_front (n ∷ ns) zero q asc less small e =
    elim (n == q) as (λ b. (n == q) ≡ b → (b || is_in ns q) ≡ true → is_in (take zero (n ∷ ns)) q ≡ true) [
      | true ↦ λ same _. let is : n ≡ q = eqb-true n q same in absurd (omega arith)
      | false ↦ λ _ rest. let more : n < q = each_in (λ k. n < k) ns q asc.0 rest in absurd (omega arith)
    ] refl e
in_front (n ∷ ns) (suc i) q asc less small e =
    elim (n == q) as (λ b. (b || is_in ns q) ≡ true → (b || is_in (take i ns) q) ≡ true) [
      | true ↦ λ _. refl
      | false ↦ λ rest. in_front ns i q asc.1 (omega arith) small rest
    ] e

no_record : (m : Records) (n : ℕ) → get m n ≡ None → path_of m n ≡ None
no_record m n e = path_there m n ∙ ap (path_with n (path_of m)) e

-- ---- one number more
or_none : (a b : Bool) (o : Option (List ℕ)) → (b ≡ true → o ≡ None)
    → (if a then o else None) ≡ (if (a || b) then o else None)
or_none true b o h = refl
or_none false true o h = sym (h refl)
or_none false false o h = refl

or_true : (a b : Bool) (o : Option (List ℕ)) → b ≡ true → o ≡ (if (a || b) then o else None)
or_true true b o h = refl
or_true false true o h = refl
or_true false false o h = absurd cc

or_false : (a b : Bool) (o : Option (List ℕ)) → b ≡ false → (if a then o else None) ≡ (if (a || b) then o else None)
or_false true b o h = refl
or_false false true o h = absurd cc
or_false false false o h = refl

not_same : (n k : ℕ) → (k ≡ n → ⊥) → (n == k) ≡ false
not_same n k h = elim (n == k) as (λ b. (n == k) ≡ b → b ≡ false) [
  | true ↦ λ e. absurd (h (sym (eqb-true n k e)))
  | false ↦ λ _. refl
] refl

module _ (m : Records) (ns : List ℕ) (asc : Ascends ns) (all : HasAll ns m) where
  module _ (i : ℕ) (less : i < length ns) (paths : PathMap) (h : Upto m (take i ns) paths) where
    above : (q : ℕ) → q < get_or ns i 0 → get paths q ≡ path_of m q
    above q small = h.known q ∙ elim (is_in (take i ns) q) as (λ b. is_in (take i ns) q ≡ b
        → (if b then path_of m q else None) ≡ path_of m q) [
          | true ↦ λ _. refl
          | false ↦ λ e. sym (no_record m q (none_where (get m q)
              (λ r at. let both : true ≡ false = sym (in_front ns i q asc less small (all q r at)) ∙ e in absurd cc)))
        ] refl

    pub here : path_with (get_or ns i 0) (get paths) (get m (get_or ns i 0)) ≡ path_of m (get_or ns i 0)
    here = with_alike (get_or ns i 0) (get paths) (path_of m) (get m (get_or ns i 0)) above
        ∙ sym (path_there m (get_or ns i 0))

    front_more : (k : ℕ) → is_in (take (i + 1) ns) k ≡ (is_in (take i ns) k || (get_or ns i 0 == k))
    front_more k = ap (λ xs. is_in xs k) (take_more ns i 0 less)
        ∙ list_any-append (λ x. x == k) (take i ns) (get_or ns i 0 ∷ [])
        ∙ ap (λ b. is_in (take i ns) k || b) (or_nothing (get_or ns i 0 == k))

    pub nothing_more : path_with (get_or ns i 0) (get paths) (get m (get_or ns i 0)) ≡ None
        → Upto m (take (i + 1) ns) paths
    nothing_more e = record {
      known = λ k. h.known k
          ∙ or_none (is_in (take i ns) k) (get_or ns i 0 == k) (path_of m k)
          (λ same. subst (λ x. path_of m x ≡ None) (eqb-true (get_or ns i 0) k same) (sym here ∙ e))
          ∙ ap (λ b. if b then path_of m k else None) (sym (front_more k));
      within = h.within;
    }

    pub path_more : (p : List ℕ) → path_with (get_or ns i 0) (get paths) (get m (get_or ns i 0)) ≡ Some p
        → is_within_limits p ≡ true → Upto m (take (i + 1) ns) (insert paths (get_or ns i 0) p)
    path_more p e fits = record {
      known = λ k. elim (put_cases paths (get_or ns i 0) p k (get (insert paths (get_or ns i 0) p) k) refl) as
          (λ _. get (insert paths (get_or ns i 0) p) k ≡ (if is_in (take (i + 1) ns) k then path_of m k else None)) [
            | inl (same, is) ↦
                sym is ∙ sym e ∙ here ∙ ap (path_of m) (sym same)
                ∙ or_true (is_in (take i ns) k) (get_or ns i 0 == k) (path_of m k)
                (eq-eqb (get_or ns i 0) k (sym same))
                ∙ ap (λ b. if b then path_of m k else None) (sym (front_more k))
            | inr (other, is) ↦
                sym is ∙ h.known k
                ∙ or_false (is_in (take i ns) k) (get_or ns i 0 == k) (path_of m k)
                (not_same (get_or ns i 0) k other)
                ∙ ap (λ b. if b then path_of m k else None) (sym (front_more k))
          ];
      within = λ k path at. elim (put_cases paths (get_or ns i 0) p k (Some path) at) as
          (λ _. is_within_limits path ≡ true) [
            | inl (same, is) ↦ let one : p ≡ path = cc in subst (λ x. is_within_limits x ≡ true) one fits
            | inr (other, is) ↦ h.within k path is
          ];
    }

    is_too_long_at : (path : List ℕ) → path_with (get_or ns i 0) (get paths) (get m (get_or ns i 0)) ≡ Some path
        → is_within_limits path ≡ false → IsTooLong m (get_or ns i 0)
    is_too_long_at path e fits = (
      path,
      (path_known m (get_or ns i 0) path).1 (sym here ∙ e),
      λ w. let both : true ≡ false = sym ((limits path).1 w) ∙ fits in
          absurd cc,
    )

  pub all_known : (paths : PathMap) → Upto m ns paths → KnowsPaths m paths
  all_known paths h n = h.known n ∙ elim (is_in ns n) as (λ b. is_in ns n ≡ b
      → (if b then path_of m n else None) ≡ path_of m n) [
        | true ↦ λ _. refl
        | false ↦ λ e. sym (no_record m n (none_where (get m n)
            (λ r at. let both : true ≡ false = sym (all n r at) ∙ e in absurd cc)))
      ] refl

  pub all_within : (paths : PathMap) → Upto m ns paths → AreWithin m
  all_within paths h n path has =
      (limits path).0 (h.within n path (all_known paths h n ∙ (path_known m n path).0 has))

  module _ (i : ℕ) (less : i < length ns) (paths : PathMap) (h : Upto m (take i ns) paths) where
    pub kept : (after : PathMap) (look : PathLook)
        → IsLook (path_with (get_or ns i 0) (get paths) (get m (get_or ns i 0))) look → is_too_long look ≡ false
        → Keeps paths after (get_or ns i 0) look → Upto m (take (i + 1) ns) after
    kept after looks.Nothing is fits e = subst (Upto m (take (i + 1) ns)) (sym e) (nothing_more i less paths h is)
    kept after (looks.Path p) is fits e = subst (Upto m (take (i + 1) ns)) (sym e)
        (path_more i less paths h (string_bytes p) is.0 is.1)
    kept after looks.TooLong is fits e = absurd cc

    pub stopped : (look : PathLook) → IsLook (path_with (get_or ns i 0) (get paths) (get m (get_or ns i 0))) look
        → is_too_long look ≡ true → IsTooLong m (get_or ns i 0)
    stopped looks.Nothing is fits = absurd cc
    stopped (looks.Path p) is fits = absurd cc
    stopped looks.TooLong is fits = is_too_long_at i less paths h is.0 is.1 is.2
